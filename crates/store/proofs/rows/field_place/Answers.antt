use native.Mathlib.Omega.{arith}
use Rattle.store.proofs.Reading.{read_0, read_1, read_2, read_3, field_here}
use Rattle.store.proofs.rows.field_place.Goals as goal

pub returns-in-0 : goal.returns-in-0
returns-in-0 c =
    let s = c.span_at.ensures in
    field_here _ _ _ _ _ _ _ s (omega arith) (λ so h. read_0 _ _ _ _ so h _ _ (omega arith) (omega arith) (omega arith) s.is)

pub returns-in-1 : goal.returns-in-1
returns-in-1 c =
    let s = c.span_at-in-1.ensures in
    field_here _ _ _ _ _ _ _ s (omega arith)
    (λ so h. read_1 _ _ _ _ so h _ _ (omega arith) (omega arith) _ (omega arith) (omega arith) s.is)

pub returns-in-2 : goal.returns-in-2
returns-in-2 c =
    let s = c.span_at-in-2.ensures in
    field_here _ _ _ _ _ _ _ s (omega arith)
    (λ so h. read_2 _ _ _ _ so h _ _ (omega arith) (omega arith) _ (omega arith) _ (omega arith) (omega arith) s.is)

pub returns-in_default : goal.returns-in_default
returns-in_default c =
    let s = c.span_at-in_default.ensures in
    field_here _ _ _ _ _ _ _ s (omega arith)
    (λ so h. read_3 _ _ _ _ so h _ _ (omega arith) (omega arith) _ (omega arith) _ (omega arith) _ (omega arith) (omega arith) s.is)
