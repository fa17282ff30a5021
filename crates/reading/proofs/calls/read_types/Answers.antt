use mathlib.Core.Path.{refl}
use Rattle.output.proofs.Answering.{refused_on}
use Rattle.markup.proofs.PlacedEntries.{form_accepted, form_unread}
use Rattle.model.specs.Calls.{Changes, ReadTypes}
use Rattle.contract.proofs.Opening.{turned_away_lem, let_in}
use Rattle.reading.proofs.EnteredPlaces.{form_placed}
use Rattle.reading.proofs.ReadRuns.{types_unread, types_ran}
use Rattle.reading.proofs.calls.read_types.Goals as goal

pub returns-in_err-check_package : goal.returns-in_err-check_package
returns-in_err-check_package c =
    rw (refused_on _ _ c.from_residual.ensures.1)
    (turned_away_lem _ (Changes (ReadTypes c.args.stream.now)) _ refl c.in_err-check_package.ensures)

pub returns-in_err-count : goal.returns-in_err-count
returns-in_err-count c =
    rw (refused_on _ _ c.from_residual-in_err-count.ensures.1)
    (types_unread (let_in _ c.in_ok-check_package.ensures) _ _ (form_unread c.in_err-count.ensures refl))

pub take_types-requires : goal.take_types-requires
take_types-requires c =
    record { shape = (let_in _ c.in_ok-check_package.ensures).shape; placed = form_placed c.in_ok-count.ensures c.min.ensures }

pub returns : goal.returns
returns c =
    types_ran (let_in _ c.in_ok-check_package.ensures) _ (form_accepted c.in_ok-count.ensures refl)
    c.take_types.auto.pkg c.take_types.ensures
