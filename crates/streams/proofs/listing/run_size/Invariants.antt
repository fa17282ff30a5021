use Rattle.streams.specs.Streams.{Summing}
use Rattle.streams.proofs.listing.run_size.Given as goal

abbrev pub invariant-loop-i : goal.invariant-loop-i
invariant-loop-i l = Summing l.pkg l.from l.to l.i l.n
