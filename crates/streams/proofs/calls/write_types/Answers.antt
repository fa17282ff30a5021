use mathlib.Core.Path.{refl}
use native.Mathlib.Omega.{arith}
use Rattle.model.specs.Calls.{Prints, WriteTypes}
use Rattle.output.proofs.Answering.{passed_on}
use Rattle.contract.proofs.Opening.{turned_away_lem, let_in}
use Rattle.streams.proofs.StreamCalls.{types_written}
use Rattle.streams.proofs.calls.write_types.Goals as goal

pub returns-in_err-check_package : goal.returns-in_err-check_package
returns-in_err-check_package c =
    let args = c.args in
    rw (passed_on _ _ c.from_residual.ensures.1)
    (turned_away_lem _ (Prints WriteTypes args.out.now) _ refl c.in_err-check_package.ensures)

pub set_start-from-requires : goal.set_start-from-requires
set_start-from-requires c = (let_in _ c.in_ok-check_package.ensures).shape.few

pub set_start-to-requires : goal.set_start-to-requires
set_start-to-requires c = (let_in _ c.in_ok-check_package.ensures).shape.few

pub write_stream-requires : goal.write_stream-requires
write_stream-requires c = (
  (let_in _ c.in_ok-check_package.ensures).shape,
  c.set_start-to.ensures.within,
  omega arith,
  omega arith,
)

pub returns : goal.returns
returns c =
    let args = c.args in
    types_written _ (let_in _ c.in_ok-check_package.ensures) _ _ c.set_start-from.ensures
    c.set_start-to.ensures args.out.now _ c.write_stream.ensures
