use mathlib.Core.Path.{◌≡◌}
use lib.ListN.{length}
use Rattle.parts.specs.Copies.{Copying}
use Rattle.parts.proofs.reading.copy_content.Given as goal

abbrev pub invariant-loop-i : goal.invariant-loop-i
invariant-loop-i l = (length l.out ≡ length l.initial.out) × Copying l.pkg l.from l.to l.offset l.initial.out l.i l.at l.skip l.out
