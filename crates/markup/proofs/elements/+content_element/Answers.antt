use Rattle.std.proofs.Common.{arith}
use Rattle.std.proofs.lemmas.Result.{err_from_is_err_and}
use Rattle.markup.proofs.Rests.{walked_at, content_at, tag_reach, opens_within}
use Rattle.markup.proofs.Nesting.{stops_none, came_none, came_bad, came_ends, came_refused, came_past, came_off, came_on, tagless, emptied, held_off, held_on}
use Rattle.markup.proofs.elements.+content_element.Goals as goal

-- content
pub content-loop-t-init : goal.content-loop-t-init
content-loop-t-init t c = came_none c.requires

pub content-returns-in_err-t : goal.content-returns-in_err-t
content-returns-in_err-t t c =
    let p = err_from_is_err_and c.from_residual.result c.from_residual.ensures.1 in
    rw (p.1, p.2) (came_bad c.loop-t.invariant c.between.ensures c.in_err-t.was)

pub content-returns-then-not-opens : goal.content-returns-then-not-opens
content-returns-then-not-opens t c = came_ends c.loop-t.invariant c.between.ensures c.in_ok-t.was c.opens.ensures c.if-not-opens.true

pub content-overflow_add-t : goal.content-overflow_add-t
content-overflow_add-t t c =
    let h = opens_within c.args.s.now c.in_ok-t.t c.opens.ensures c.if-not-opens.false in
    record { fits = omega (arith, h) }

pub content-let_start-requires : goal.content-let_start-requires
content-let_start-requires t c = opens_within _ _ c.opens.ensures c.if-not-opens.false

pub content-returns-in_err-let_start : goal.content-returns-in_err-let_start
content-returns-in_err-let_start t c =
    let p = err_from_is_err_and c.from_residual-in_err-let_start.result c.from_residual-in_err-let_start.ensures.1 in
    rw (p.1, p.2)
    (came_refused c.loop-t.invariant c.between.ensures c.in_ok-t.was c.opens.ensures c.if-not-opens.false c.let_start.ensures
    c.in_err-let_start.was)

pub content-overflow_sub-left : goal.content-overflow_sub-left
content-overflow_sub-left t c =
    omega (arith, stops_none c.args.left c.args.text _ c.let_start.ensures c.in_ok-let_start.was)

pub content-element-requires : goal.content-element-requires
content-element-requires t c =
    let h = opens_within c.args.s.now c.in_ok-t.t c.opens.ensures c.if-not-opens.false in
    let reach = walked_at c.between.ensures c.in_ok-t.was in
    (omega (arith, reach.0, h, c.loop-t.invariant.from), h)

pub content-loop-t-smaller : goal.content-loop-t-smaller
content-loop-t-smaller t c =
    let n = came_past c.between.ensures c.in_ok-t.was c.element.ensures c.in_ok-i.was in
    omega (arith, n.0, n.1)

pub content-loop-t-preserved : goal.content-loop-t-preserved
content-loop-t-preserved t c =
    came_on c.loop-t.invariant c.between.ensures c.in_ok-t.was c.opens.ensures c.if-not-opens.false c.let_start.ensures
    c.in_ok-let_start.was c.element.ensures c.in_ok-i.was

pub content-returns-in_err-i : goal.content-returns-in_err-i
content-returns-in_err-i t c =
    let p = err_from_is_err_and c.from_residual-in_err-i.result c.from_residual-in_err-i.ensures.1 in
    rw (p.1, p.2)
    (came_off c.loop-t.invariant c.between.ensures c.in_ok-t.was c.opens.ensures c.if-not-opens.false c.let_start.ensures
    c.in_ok-let_start.was c.element.ensures c.in_err-i.was)

-- an element
pub element-returns-in_default : goal.element-returns-in_default
element-returns-in_default t c = tagless _ c.start_tag.ensures c.in_default.is

pub element-returns-then-tag : goal.element-returns-then-tag
element-returns-then-tag t c = emptied _ c.start_tag.ensures c.in-Some.is c.if-tag.true

pub element-content-requires : goal.element-content-requires
element-content-requires t c = let v = tag_reach c.start_tag.ensures c.in-Some.is in (omega (arith, v), v.2)

pub element-end_tag-requires : goal.element-end_tag-requires
element-end_tag-requires t c =
    let v = tag_reach c.start_tag.ensures c.in-Some.is in
    ((content_at c.content.ensures c.in_ok-e.was).1, (omega (arith, v), omega (arith, v)))

pub element-returns-in_err-e : goal.element-returns-in_err-e
element-returns-in_err-e t c =
    let p = err_from_is_err_and c.from_residual.result c.from_residual.ensures.1 in
    rw (p.1, p.2) (held_off _ c.start_tag.ensures c.in-Some.is c.if-tag.false c.content.ensures c.in_err-e.was)

pub element-returns : goal.element-returns
element-returns t c =
    held_on _ c.start_tag.ensures c.in-Some.is c.if-tag.false c.content.ensures c.in_ok-e.was c.end_tag.ensures
