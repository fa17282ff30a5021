use Prim.Native.Nat.{◌+◌, ◌-◌, ◌≤◌}
use mathlib.Core.Path.{◌≡◌}
use lib.ListN.{length, drop}
use Rattle.markup.specs.Tags.{attributes_at, own}
use Rattle.markup.proofs.attributes.count_own.Given as goal

abbrev pub invariant-loop-k : goal.invariant-loop-k
invariant-loop-k l = (l.i ≤ length l.s) × (l.n ≤ l._k) × (length (own (attributes_at l.count (drop l.at l.s))) ≡ l.n + length (own (attributes_at (l.count - l._k) (drop l.i l.s))))
