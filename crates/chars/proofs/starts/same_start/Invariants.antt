use mathlib.Core.Path.{◌≡◌}
use mathlib.Core.List.{map}
use Prim.Native.Nat.{◌*◌, ◌≤◌}
use lib.ListN.{length, take}
use Rattle.chars.proofs.starts.same_start.Given as goal

abbrev pub invariant-loop-k : goal.invariant-loop-k
invariant-loop-k g l = (8 * l.n ≤ length l.a) × (8 * l.n ≤ length l.b) × (map g.C.Case.read (take (8 * l.k) l.a) ≡ map g.C.Case.read (take (8 * l.k) l.b))
