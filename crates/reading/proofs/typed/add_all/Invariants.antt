use mathlib.Core.Path.{◌≡◌}
use lib.ListN.{length, drop}
use Rattle.reading.specs.Entering.{typed_first}
use Rattle.reading.proofs.AddingTurns.{AddedSo}
use Rattle.reading.proofs.typed.add_all.Given as goal

abbrev pub invariant-loop-at : goal.invariant-loop-at
invariant-loop-at l = AddedSo (typed_first l.stream) (drop l.at-index (typed_first l.stream)) l.initial.pkg l.pkg × (length l.pkg ≡ length l.initial.pkg)
