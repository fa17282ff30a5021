use mathlib.Core.Path.{◌≡◌}
use lib.ListN.{length}
use Rattle.streams.specs.Streams.{Listing}
use Rattle.streams.proofs.listing.put_lines.Given as goal

abbrev pub invariant-loop-i : goal.invariant-loop-i
invariant-loop-i l = (length l.out ≡ length l.initial.out) × Listing l.pkg l.from l.to l.initial.out l.start l.i l.at l.out
