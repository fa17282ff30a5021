use Prim.Native.Nat.{◌-◌, ◌≤◌}
use mathlib.Core.Path.{◌≡◌}
use lib.ListN.{length, drop}
use Rattle.markup.specs.Tags.{attributes_at, attribute_named}
use Rattle.markup.proofs.attributes.find_attribute.Given as goal

abbrev pub invariant-loop-k : goal.invariant-loop-k
invariant-loop-k l = (l.at ≤ l.i) × (l.i ≤ length l.s) × (attribute_named l.wanted (attributes_at l.count (drop l.at l.s)) ≡ attribute_named l.wanted (attributes_at (l.count - l._k) (drop l.i l.s)))
