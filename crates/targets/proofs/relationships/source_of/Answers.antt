use mathlib.Core.Path.{sym, ◌∙◌, ap}
use Rattle.output.specs.declared.refusals.Refusal.TheVariants.{NotAPartName}
use Rattle.targets.specs.Relationships.{source_part}
use Rattle.output.proofs.Answering.{answer_refused}
use Rattle.targets.proofs.Sources.{back_long, back_no}
use mathlib.Core.Bool.{not}
use Rattle.targets.proofs.relationships.source_of.Goals as goal

pub returns-then-s-gt266 : goal.returns-then-s-gt266
returns-then-s-gt266 c =
    answer_refused (source_part c.args.s.now) NotAPartName c.args.out.now
    (back_long c.args.s.now c.if-s-gt266.true)

pub returns-then-not-is_reserved : goal.returns-then-not-is_reserved
returns-then-not-is_reserved c =
    answer_refused (source_part c.args.s.now) NotAPartName c.args.out.now
    (back_no c.args.s.now _ c.is_reserved.ensures (ap not c.if-not-is_reserved.true))

pub source_at-requires : goal.source_at-requires
source_at-requires c =
    let if1 = c.if-s-gt266 in
    (sym c.is_reserved.ensures ∙ c.if-not-is_reserved.false, if1.false)
