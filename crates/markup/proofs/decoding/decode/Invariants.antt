use Prim.Native.Nat.{◌≤◌}
use mathlib.Core.Path.{◌≡◌}
use mathlib.Core.List.{◌++◌}
use lib.ListN.{length, take, drop}
use Rattle.markup.specs.Marks.{unquoted}
use Rattle.markup.proofs.decoding.decode.Given as goal

abbrev pub invariant-loop-n : goal.invariant-loop-n
invariant-loop-n l = (l.i ≤ length l.s) × (length l.out ≡ 256) × (unquoted 0 l.s ≡ take l.n l.out ++ unquoted 0 (drop l.i l.s))
