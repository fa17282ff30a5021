use mathlib.Core.Path.{◌≡◌, sym, subst}
use native.Mathlib.Omega.{arith}
use Rattle.chars.specs.Folding.{fold}
use Rattle.model.specs.Sets.{Bytes}
use Rattle.store.proofs.Reading.{head_field}
use Rattle.contract.proofs.RowSearch.{stands_less, stands_greater, stands_none, stands_first, stands_same, then_less, then_greater, then_equal}
use Rattle.contract.proofs.search.stands.Goals as goal

pub returns-then-own-set : goal.returns-then-own-set
returns-then-own-set c =
    let args = c.args in
    stands_less _ _ _ _ args.w.tag args.id.now _ _ (λ _ _. c.head-row.ensures.tag) c.set_of-own.ensures _ c.if-own-set.true

pub returns-then-set-own : goal.returns-then-set-own
returns-then-set-own c =
    let args = c.args in
    stands_greater _ _ _ _ args.w.tag args.id.now _ _ (λ _ _. c.head-row.ensures.tag) c.set_of-own.ensures _ c.if-set-own.true

pub overflow_add-e : goal.overflow_add-e
overflow_add-e c = omega (arith, c.head-row.ensures.low)

pub returns-then-pkg-e : goal.returns-then-pkg-e
returns-then-pkg-e c = stands_none _ _ _ _ _ _ _ c.head-row.ensures (omega (arith, c.if-pkg-e.true))

pub compare_past-at-requires : goal.compare_past-at-requires
compare_past-at-requires c = subst (λ (x : Bytes). fold x ≡ x) (sym c.folded_text-text.ensures) c.requires.aimed.folded

pub returns-in-Less : goal.returns-in-Less
returns-in-Less c =
    let args = c.args in
    stands_first _ _ _ _ args.w.tag args.id.now _ _ (λ _ _. c.head-row.ensures.tag) c.set_of-own.ensures
    (omega (arith, c.if-own-set.false, c.if-set-own.false)) _ (λ so _. head_field _ _ _ _ _ c.head-row.ensures so) _
    c.folded_text-text.ensures _ _ _ c.compare_past-at.ensures _ c.in-Less.is then_less

pub returns-in-Equal : goal.returns-in-Equal
returns-in-Equal c =
    let args = c.args in
    stands_same _ _ args.w.set _ args.w.tag args.id.now _ _ (λ _ _. c.head-row.ensures.tag) c.set_of-own.ensures
    (omega (arith, c.if-own-set.false, c.if-set-own.false)) _ (λ so _. head_field _ _ _ _ _ c.head-row.ensures so) _
    c.folded_text-text.ensures _ _ _ c.compare_past-at.ensures _
    c.field.ensures.2 _ (then_equal _ _ _ c.in-Equal.is c.compare_second.ensures)

pub returns-in-Greater : goal.returns-in-Greater
returns-in-Greater c =
    let args = c.args in
    stands_first _ _ _ _ args.w.tag args.id.now _ _ (λ _ _. c.head-row.ensures.tag) c.set_of-own.ensures
    (omega (arith, c.if-own-set.false, c.if-set-own.false)) _ (λ so _. head_field _ _ _ _ _ c.head-row.ensures so) _
    c.folded_text-text.ensures _ _ _ c.compare_past-at.ensures _ c.in-Greater.is then_greater
