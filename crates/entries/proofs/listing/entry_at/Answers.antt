use mathlib.Core.Path.{refl}
use native.Mathlib.Omega.{arith}
use Rattle.output.proofs.Answering.{passed_on}
use Rattle.contract.proofs.Opening.{let_in}
use Rattle.entries.proofs.SetNumbers.{few_sets}
use Rattle.entries.proofs.EntryCalls.{entry_turned, entry_no_field, entry_missing, entry_copied}
use Rattle.entries.proofs.listing.entry_at.Goals as goal

pub returns-in_err-check_package : goal.returns-in_err-check_package
returns-in_err-check_package c =
    let args = c.args in
    rw (passed_on _ _ c.from_residual.ensures.1)
    (entry_turned args.pkg.now args.set args.position args.k args.out.now _ c.in_err-check_package.ensures)

pub returns-then-field_count-k : goal.returns-then-field_count-k
returns-then-field_count-k c =
    let args = c.args in
    entry_no_field args.pkg.now args.set args.position args.k args.out.now
    (let_in _ c.in_ok-check_package.ensures) (omega (arith, c.field_count.ensures, c.if-field_count-k.true))

pub set_start-from-requires : goal.set_start-from-requires
set_start-from-requires c = (let_in _ c.in_ok-check_package.ensures).shape.few

pub overflow_add-s : goal.overflow_add-s
overflow_add-s c =
    let args = c.args in
    omega (arith, few_sets args.set args.k (omega (arith, c.field_count.ensures, c.if-field_count-k.false)))

pub set_start-to-requires : goal.set_start-to-requires
set_start-to-requires c = (let_in _ c.in_ok-check_package.ensures).shape.few

pub returns-then-to-position : goal.returns-then-to-position
returns-then-to-position c =
    let args = c.args in
    entry_missing args.pkg.now args.set args.position args.k args.out.now
    (let_in _ c.in_ok-check_package.ensures) (omega (arith, c.field_count.ensures, c.if-field_count-k.false)) _ _ _
    (omega arith) c.set_start-from.ensures c.set_start-to.ensures (omega (arith, c.if-to-position.true))

pub overflow_add-r : goal.overflow_add-r
overflow_add-r c =
    omega (
      arith,
      c.if-to-position.false,
      c.set_start-from.ensures.within,
      c.set_start-to.ensures.within,
      (let_in _ c.in_ok-check_package.ensures).shape.few,
    )

pub returns-then-to-r : goal.returns-then-to-r
returns-then-to-r c =
    let args = c.args in
    entry_missing args.pkg.now args.set args.position args.k args.out.now
    (let_in _ c.in_ok-check_package.ensures) (omega (arith, c.field_count.ensures, c.if-field_count-k.false)) _ _ _
    (omega arith) c.set_start-from.ensures c.set_start-to.ensures (omega (arith, c.if-to-r.true))

pub returns : goal.returns
returns c =
    let args = c.args in
    entry_copied args.pkg.now args.set args.position args.k args.out.now
    (let_in _ c.in_ok-check_package.ensures) (omega (arith, c.field_count.ensures, c.if-field_count-k.false)) _ _ _
    (omega arith) c.set_start-from.ensures c.set_start-to.ensures _ _ refl c.if-to-r.false refl _ c.put_row_field.ensures
