use Rattle.output.specs.Refusals.{number_of}
use Prim.Native.Nat.{ℕ, ◌≤◌}
use mathlib.Core.Path.{◌≡◌, ap, sym, subst, ◌∙◌}
use Rattle.output.proofs.Answering.{number_some, refused_on}
use Rattle.contract.proofs.RowEntries.{set_le, weighed_taken, weighed_own, weighed_clear, weighed_full}
use Rattle.contract.proofs.entries.check_row.Goals as goal

pub returns-then-taken : goal.returns-then-taken
returns-then-taken c =
    weighed_taken _ (number_of c.args.own) c.args.limit c.args.t c.args.f0.now c.args.f1.now
    c.args.f2.now c.args.f3.now _ _ c.requires.shape.1 c.requires.taken c.if-taken.true

pub returns-in_err-own : goal.returns-in_err-own
returns-in_err-own c =
    let own = number_of c.args.own in
    let is_own : number_of c.from_residual.result ≡ own =
    ap number_of (refused_on _ _ c.from_residual.ensures.1 ∙ sym c.in_err-own.was) in
    rw is_own
    (weighed_own _ own c.args.limit c.args.t c.args.f0.now c.args.f1.now c.args.f2.now c.args.f3.now _ _ c.requires.shape.1
    c.requires.taken c.if-taken.false (λ z. number_some _ (sym (ap number_of c.in_err-own.was) ∙ z)) c.requires.numbered)

pub has_row_room-requires : goal.has_row_room-requires
has_row_room-requires c = (c.requires.shape.0, subst (λ (n : ℕ). n ≤ 3) (sym c.requires.shape.1) (set_le c.args.t))

pub returns-then-has_row_room : goal.returns-then-has_row_room
returns-then-has_row_room c =
    weighed_clear _ (number_of c.args.own) c.args.limit c.args.t c.args.f0.now c.args.f1.now
    c.args.f2.now c.args.f3.now _ _ c.requires.shape.1 c.requires.taken c.if-taken.false (ap number_of c.in_ok-own.was) _
    c.has_row_room.ensures c.if-has_row_room.true

pub returns : goal.returns
returns c =
    weighed_full _ (number_of c.args.own) c.args.limit c.args.t c.args.f0.now c.args.f1.now
    c.args.f2.now c.args.f3.now _ _ c.requires.shape.1 c.requires.taken c.if-taken.false (ap number_of c.in_ok-own.was) _
    c.has_row_room.ensures c.if-has_row_room.false
