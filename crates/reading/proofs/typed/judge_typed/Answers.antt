use mathlib.Core.Path.{sym}
use lib.Seq.{length-take-le}
use Rattle.reading.proofs.EnteredFields.{typed_sizes}
use Rattle.reading.proofs.ShortEntries.{typed_judged, typed_missing}
use Rattle.reading.proofs.typed.judge_typed.Goals as goal

pub slice_bounds-key-end : goal.slice_bounds-key-end
slice_bounds-key-end c = (typed_sizes c.typed_fields.ensures c.in-Some.is).0

pub slice_bounds-judge_default-end : goal.slice_bounds-judge_default-end
slice_bounds-judge_default-end c = sym (length-take-le _ _ (typed_sizes c.typed_fields.ensures c.in-Some.is).0)

pub slice_bounds-media-end : goal.slice_bounds-media-end
slice_bounds-media-end c = (typed_sizes c.typed_fields.ensures c.in-Some.is).1

pub slice_bounds-judge_default-end-then-f : goal.slice_bounds-judge_default-end-then-f
slice_bounds-judge_default-end-then-f c = sym (length-take-le _ _ (typed_sizes c.typed_fields.ensures c.in-Some.is).1)

pub returns-then-f : goal.returns-then-f
returns-then-f c =
    typed_judged c.typed_fields.ensures c.in-Some.is c.if-f.true
    c.judge_default.result c.judge_default.ensures

pub slice_bounds-key-end-in-Some : goal.slice_bounds-key-end-in-Some
slice_bounds-key-end-in-Some c = (typed_sizes c.typed_fields.ensures c.in-Some.is).0

pub slice_bounds-judge_override-end : goal.slice_bounds-judge_override-end
slice_bounds-judge_override-end c = sym (length-take-le _ _ (typed_sizes c.typed_fields.ensures c.in-Some.is).0)

pub slice_bounds-media-end-in-Some : goal.slice_bounds-media-end-in-Some
slice_bounds-media-end-in-Some c = (typed_sizes c.typed_fields.ensures c.in-Some.is).1

pub slice_bounds-judge_override-end-in-Some : goal.slice_bounds-judge_override-end-in-Some
slice_bounds-judge_override-end-in-Some c = sym (length-take-le _ _ (typed_sizes c.typed_fields.ensures c.in-Some.is).1)

pub returns-else-f : goal.returns-else-f
returns-else-f c =
    typed_judged c.typed_fields.ensures c.in-Some.is c.if-f.false
    c.judge_override.result c.judge_override.ensures

pub returns-in-None : goal.returns-in-None
returns-in-None c = typed_missing c.typed_fields.ensures c.in-None.is _
