use Prim.Native.Nat.{◌-◌}
use mathlib.Core.Path.{sym, refl, ◌∙◌, ap}
use native.Mathlib.Omega.{arith}
use Rattle.output.specs.declared.refusals.Refusal.TheVariants.{NotAPartName}
use lib.ListN.{length}
use lib.Seq.{length-take-le}
use borrow.Author.Rules.{rules}
use Rattle.output.specs.Answers.{Outcome, written}
use Rattle.targets.specs.Relationships.{source_part}
use Rattle.base.proofs.Lists.{length_take_le_length, length_part_le}
use Rattle.output.proofs.Answering.{answer_refused, err_some, err_none}
use Rattle.targets.proofs.Sources.{last_slash, last_five, segment_le, source_length, back_refused, back_text}
use Rattle.targets.proofs.relationships.source_at.Goals as goal

pub overflow_sub-g : goal.overflow_sub-g
overflow_sub-g c = last_slash c.args.s.now c.requires.0 _ c.find_past-q.ensures

pub slice_bounds-find_past-end : goal.slice_bounds-find_past-end
slice_bounds-find_past-end c = sym (length-take-le _ _ (omega (arith, last_five c.args.s.now c.requires.0 _ c.find_past-q.ensures)))

pub overflow_sub-e : goal.overflow_sub-e
overflow_sub-e c = omega (arith, last_five c.args.s.now c.requires.0 _ c.find_past-q.ensures)

pub slice_bounds-emit-end-2 : goal.slice_bounds-emit-end-2
slice_bounds-emit-end-2 c =
    sym (length-take-le _ _ (omega (
      arith,
      segment_le c.args.s.now c.requires.0 _ c.find_past-q.ensures _
          c.find_past-p.ensures,
      last_five c.args.s.now c.requires.0 _ c.find_past-q.ensures,
    )))

pub emit-a-requires : goal.emit-a-requires
emit-a-requires c = (omega arith, omega (arith, length_take_le_length c.find_past-p.result c.args.s.now, c.requires.1))

pub slice_bounds-emit-count : goal.slice_bounds-emit-count
slice_bounds-emit-count c = omega (arith, last_five c.args.s.now c.requires.0 _ c.find_past-q.ensures)

pub slice_bounds-emit-start : goal.slice_bounds-emit-start
slice_bounds-emit-start c =
    let l = last_five c.args.s.now c.requires.0 _ c.find_past-q.ensures in
    search rules

pub emit-k-requires : goal.emit-k-requires
emit-k-requires c =
    let s = c.args.s.now in (
      omega (arith, c.emit-a.ensures.next_is, length_take_le_length c.find_past-p.result s, c.requires.1),
      omega
          (arith, length_part_le (length s - 5 - c.find_past-q.result) c.find_past-q.result s, c.requires.1),
    )

pub slice_bounds-source-end : goal.slice_bounds-source-end
slice_bounds-source-end c =
    source_length c.args.s.now c.requires.0 _ c.find_past-q.ensures _ c.find_past-p.ensures
    c.requires.1 _ _ _ _ _ c.emit-a.ensures c.emit-a.auto.out c.emit-k.ensures c.emit-k.auto.out refl

pub slice_bounds-check_source-end : goal.slice_bounds-check_source-end
slice_bounds-check_source-end c =
    sym (length-take-le _ _ (source_length c.args.s.now c.requires.0 _ c.find_past-q.ensures _
    c.find_past-p.ensures c.requires.1 _ _ _ _ _ c.emit-a.ensures c.emit-a.auto.out
    c.emit-k.ensures c.emit-k.auto.out refl))

pub returns-then-is_err : goal.returns-then-is_err
returns-then-is_err c =
    answer_refused (source_part c.args.s.now) NotAPartName c.args.out.now
    (back_refused c.args.s.now c.requires.0 _ c.find_past-q.ensures _ c.find_past-p.ensures
    c.requires.1 _ _ _ _ _ c.emit-a.ensures c.emit-a.auto.out c.emit-k.ensures c.emit-k.auto.out refl
    _ c.check_source.ensures (err_some _ (sym c.is_err.ensures.value ∙ c.if-is_err.true)))

pub slice_bounds-source-end-2 : goal.slice_bounds-source-end-2
slice_bounds-source-end-2 c =
    source_length c.args.s.now c.requires.0 _ c.find_past-q.ensures _ c.find_past-p.ensures
    c.requires.1 _ _ _ _ _ c.emit-a.ensures c.emit-a.auto.out c.emit-k.ensures c.emit-k.auto.out refl

pub slice_bounds-put_text-end : goal.slice_bounds-put_text-end
slice_bounds-put_text-end c =
    sym (length-take-le _ _ (source_length c.args.s.now c.requires.0 _ c.find_past-q.ensures _
    c.find_past-p.ensures
    c.requires.1 _ _ _ _ _ c.emit-a.ensures c.emit-a.auto.out c.emit-k.ensures c.emit-k.auto.out refl))

pub returns : goal.returns
returns c =
    c.put_text.ensures ∙ ap (λ (o : Outcome). written o c.args.out.now)
    (sym (back_text c.args.s.now c.requires.0 _ c.find_past-q.ensures _ c.find_past-p.ensures
    c.requires.1 _ _ _ _ _ c.emit-a.ensures c.emit-a.auto.out c.emit-k.ensures c.emit-k.auto.out refl
    _ c.check_source.ensures (err_none _ (sym c.is_err.ensures.value ∙ c.if-is_err.false))))
