use mathlib.Core.Path.{refl, sym}
use Rattle.output.proofs.Answering.{refused_on}
use Rattle.markup.proofs.PlacedEntries.{form_accepted, form_unread}
use Rattle.model.specs.Calls.{Changes, ReadRelationships}
use Rattle.contract.proofs.Opening.{turned_away_lem, let_in}
use Rattle.reading.proofs.EnteredPlaces.{form_placed}
use Rattle.reading.proofs.ReadRuns.{source_refused, relationships_unread, relationships_ran}
use Rattle.reading.proofs.calls.read_relationships.Goals as goal

pub returns-in_err-check_package : goal.returns-in_err-check_package
returns-in_err-check_package c =
    let args = c.args in
    rw (refused_on _ _ c.from_residual.ensures.1)
    (turned_away_lem _ (Changes (ReadRelationships args.source.now args.stream.now)) _ refl c.in_err-check_package.ensures)

pub returns-in_err-check_source : goal.returns-in_err-check_source
returns-in_err-check_source c =
    rw (refused_on _ _ c.from_residual-in_err-check_source.ensures.1)
    (source_refused (let_in _ c.in_ok-check_package.ensures) c.args.stream.now c.args.source.now _ c.in_err-check_source.ensures)

pub returns-in_err-count : goal.returns-in_err-count
returns-in_err-count c =
    rw (refused_on _ _ c.from_residual-in_err-count.ensures.1)
    (relationships_unread (let_in _ c.in_ok-check_package.ensures) _ _ c.in_ok-check_source.ensures
    _ (form_unread c.in_err-count.ensures refl))

pub take_relationships-requires : goal.take_relationships-requires
take_relationships-requires c =
    record { shape = (let_in _ c.in_ok-check_package.ensures).shape; placed = (form_placed c.in_ok-count.ensures c.min.ensures, sym c.in_ok-check_source.ensures) }

pub returns : goal.returns
returns c =
    relationships_ran (let_in _ c.in_ok-check_package.ensures) _ _ c.in_ok-check_source.ensures
    (form_accepted c.in_ok-count.ensures refl) c.take_relationships.auto.pkg c.take_relationships.ensures
