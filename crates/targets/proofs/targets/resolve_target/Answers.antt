use mathlib.Core.Path.{sym, ◌∙◌, ap}
use Prim.Native.Nat.{ℕ}
use mathlib.Core.List.{List, []}
use lib.Seq.{length-take-le}
use native.Mathlib.Omega.{arith}
use Rattle.output.specs.Answers.{Outcome, written, Text}
use Rattle.targets.specs.Targets.{resolve_target}
use Rattle.targets.proofs.Judging.{target_source, source_few, named_le, target_text, target_refused}
use Rattle.output.proofs.Answering.{answer_passed_on}
use Rattle.targets.proofs.targets.resolve_target.Goals as goal

pub returns-in_err-check_source : goal.returns-in_err-check_source
returns-in_err-check_source c =
    let args = c.args in
    let at = c.in_err-check_source in
    answer_passed_on (resolve_target args.source.now args.target.now) at.field-0.0 args.out.now _ c.from_residual.ensures.1
    (target_source args.source.now args.target.now _ at.ensures)

pub resolve_name-requires : goal.resolve_name-requires
resolve_name-requires c = (source_few c.args.source.now (sym c.in_ok-check_source.ensures), omega arith)

pub returns-in_err-n : goal.returns-in_err-n
returns-in_err-n c =
    let args = c.args in
    answer_passed_on (resolve_target args.source.now args.target.now) c.in_err-n.field-0.0 args.out.now _
    c.from_residual-in_err-n.ensures.1
    (target_refused args.source.now args.target.now (sym c.in_ok-check_source.ensures) _ c.in_err-n.ensures)

pub slice_bounds-scratch-end : goal.slice_bounds-scratch-end
slice_bounds-scratch-end c = named_le c.args.source.now c.args.target.now _ _ c.in_ok-n.ensures

pub slice_bounds-put_text-end : goal.slice_bounds-put_text-end
slice_bounds-put_text-end c = sym (length-take-le _ _ (named_le c.args.source.now c.args.target.now _ _ c.in_ok-n.ensures))

pub returns : goal.returns
returns c =
    let args = c.args in
    let named = c.in_ok-n.ensures in
    c.put_text.ensures ∙ ap (λ (o : Outcome). written o args.out.now)
    (ap (λ (t : List ℕ). Text t []) named.1
    ∙ sym (target_text args.source.now args.target.now (sym c.in_ok-check_source.ensures) named.0))
