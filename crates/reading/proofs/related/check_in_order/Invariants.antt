use mathlib.Core.Path.{◌≡◌}
use lib.ListN.{length, drop}
use Rattle.markup.specs.declared.entries.Kind.TheVariants.{Relationships}
use Rattle.reading.specs.Entering.{related_first}
use Rattle.reading.proofs.JudgingTurns.{JudgedSo}
use Rattle.reading.proofs.related.check_in_order.Given as goal

abbrev pub invariant-loop-at : goal.invariant-loop-at
invariant-loop-at l = JudgedSo Relationships l.source l.pkg (related_first l.source l.stream) (drop l.at-index (related_first l.source l.stream)) l.shadow l.room × (length l.shadow ≡ length l.initial.shadow)
