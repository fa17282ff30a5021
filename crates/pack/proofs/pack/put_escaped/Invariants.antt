use Prim.Native.Nat.{◌≤◌, ◌+◌, ◌*◌}
use mathlib.Core.Path.{◌≡◌}
use lib.ListN.{take, length}
use Rattle.pack.specs.Pack.{escaped}
use Rattle.output.specs.Sends.{Sent}
use Rattle.pack.proofs.pack.put_escaped.Given as goal

abbrev pub invariant-loop-b : goal.invariant-loop-b
invariant-loop-b l = (length l.out ≡ length l.initial.out) × (l.at ≤ l.from + 3 * l.b-index) × Sent l.initial.out l.from (escaped (take l.b-index l.s)) l.at l.out
