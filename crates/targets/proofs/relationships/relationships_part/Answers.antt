use mathlib.Core.Path.{sym, refl}
use native.Mathlib.Omega.{arith}
use Rattle.targets.specs.Relationships.{relationships_part, relationships_of}
use Rattle.targets.proofs.Judging.{source_few}
use Rattle.output.proofs.Answering.{number_some, answer_passed_on, dry_short, dry_bytes}
use Rattle.targets.proofs.Sources.{rels_no, rels_text}
use Rattle.targets.proofs.relationships.relationships_part.Goals as goal

pub returns-in_err-check_source : goal.returns-in_err-check_source
returns-in_err-check_source c =
    let at = c.in_err-check_source in
    answer_passed_on (relationships_part c.args.s.now) at.field-0.0 c.args.out.now _ c.from_residual.ensures.1
    (rels_no _ _ at.ensures (number_some at.field-0.0))

pub put_relationships-need-requires : goal.put_relationships-need-requires
put_relationships-need-requires c =
    let l = source_few c.args.s.now (sym c.in_ok-check_source.ensures) in
    omega arith

pub returns-then-out-need : goal.returns-then-out-need
returns-then-out-need c =
    let args = c.args in
    dry_short (relationships_part args.s.now) (relationships_of args.s.now) _ _ args.out.now _
    (rels_text _ 0 c.in_ok-check_source.ensures refl) c.put_relationships-need.ensures
    c.put_relationships-need.auto.out c.if-out-need.true

pub put_relationships-requires : goal.put_relationships-requires
put_relationships-requires c =
    let l = source_few c.args.s.now (sym c.in_ok-check_source.ensures) in
    omega arith

pub returns : goal.returns
returns c =
    let args = c.args in
    dry_bytes (relationships_part args.s.now) (relationships_of args.s.now) _ _ args.out.now _
    (rels_text _ 0 c.in_ok-check_source.ensures refl) c.put_relationships-need.ensures
    c.put_relationships-need.auto.out _ _ c.if-out-need.false c.put_relationships.ensures
