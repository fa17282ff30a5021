use mathlib.Core.Path.{◌≡◌}
use mathlib.Core.List.{[]}
use lib.ListN.{length, drop}
use Rattle.markup.specs.declared.entries.Kind.TheVariants.{Types}
use Rattle.reading.specs.Entering.{typed_first}
use Rattle.reading.proofs.JudgingTurns.{JudgedSo}
use Rattle.reading.proofs.typed.check_in_order.Given as goal

abbrev pub invariant-loop-at : goal.invariant-loop-at
invariant-loop-at l = JudgedSo Types [] l.pkg (typed_first l.stream) (drop l.at-index (typed_first l.stream)) l.shadow l.room × (length l.shadow ≡ length l.initial.shadow)
