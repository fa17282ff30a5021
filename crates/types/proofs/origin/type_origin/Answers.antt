use mathlib.Core.Path.{refl}
use native.Mathlib.Omega.{arith}
use Rattle.model.specs.Calls.{TypeOrigin}
use Rattle.output.proofs.Answering.{passed_on}
use Rattle.contract.proofs.Opening.{turned_away_lem, let_in}
use Rattle.types.proofs.TypeOrigins.{origin_stopped, origin_neither, origin_keyed}
use Rattle.types.proofs.origin.type_origin.Goals as goal

pub returns-in_err-check_package : goal.returns-in_err-check_package
returns-in_err-check_package c =
    let args = c.args in
    rw (passed_on _ _ c.from_residual.ensures.1)
    (turned_away_lem _ (TypeOrigin args.name.now args.out.now) _ refl c.in_err-check_package.ensures)

pub find_type-requires : goal.find_type-requires
find_type-requires c = (let_in _ c.in_ok-check_package.ensures).shape

pub put_key-requires : goal.put_key-requires
put_key-requires c = ((let_in _ c.in_ok-check_package.ensures).shape, omega (arith, c.if-r-count.true, c.count.ensures.0))

pub returns-in_err-r : goal.returns-in_err-r
returns-in_err-r c =
    let args = c.args in
    rw (passed_on _ _ c.from_residual-in_err-r.ensures.1)
    (origin_stopped _ (let_in _ c.in_ok-check_package.ensures) args.name.now args.out.now _ c.in_err-r.ensures)

pub returns-then-r-count : goal.returns-then-r-count
returns-then-r-count c =
    let args = c.args in
    let row = c.in_ok-r.ensures in
    origin_keyed _ (let_in _ c.in_ok-check_package.ensures) args.name.now args.out.now row.0 _ _ row.1
    c.count.ensures.0 c.if-r-count.true _ c.put_key.ensures

pub returns : goal.returns
returns c =
    let args = c.args in
    let row = c.in_ok-r.ensures in
    origin_neither _ (let_in _ c.in_ok-check_package.ensures) args.name.now args.out.now row.0 _ _ row.1
    c.count.ensures.0 c.if-r-count.false
