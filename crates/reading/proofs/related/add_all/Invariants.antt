use mathlib.Core.Path.{◌≡◌}
use lib.ListN.{length, drop}
use Rattle.reading.specs.Entering.{related_first}
use Rattle.reading.proofs.AddingTurns.{AddedSo}
use Rattle.reading.proofs.related.add_all.Given as goal

abbrev pub invariant-loop-at : goal.invariant-loop-at
invariant-loop-at l = AddedSo (related_first l.source l.stream) (drop l.at-index (related_first l.source l.stream)) l.initial.pkg l.pkg × (length l.pkg ≡ length l.initial.pkg)
