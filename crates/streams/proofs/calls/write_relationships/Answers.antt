use mathlib.Core.Path.{refl, sym}
use native.Mathlib.Omega.{arith}
use Rattle.model.specs.Calls.{Prints, WriteRelationships}
use Rattle.output.proofs.Answering.{passed_on}
use Rattle.contract.proofs.Opening.{turned_away_lem, let_in}
use Rattle.contract.proofs.FieldSizes.{source_size}
use Rattle.contract.proofs.SoughtKeys.{aimed_whole, placed_whole}
use Rattle.streams.proofs.StreamCalls.{relationships_refused, relationships_written}
use Rattle.streams.proofs.calls.write_relationships.Goals as goal

pub returns-in_err-check_package : goal.returns-in_err-check_package
returns-in_err-check_package c =
    rw (passed_on _ _ c.from_residual.ensures.1)
    (turned_away_lem _ (Prints (WriteRelationships c.args.source.now) c.args.out.now) _ refl c.in_err-check_package.ensures)

pub returns-in_err-check_source : goal.returns-in_err-check_source
returns-in_err-check_source c =
    rw (passed_on _ _ c.from_residual-in_err-check_source.ensures.1)
    (relationships_refused _ (let_in _ c.in_ok-check_package.ensures) c.args.source.now c.args.out.now _ c.in_err-check_source.ensures)

pub fold_into-requires : goal.fold_into-requires
fold_into-requires c = (omega (arith, (source_size _ (sym c.in_ok-check_source.ensures)).1), refl)

pub seek-first-requires : goal.seek-first-requires
seek-first-requires c =
    record { shape = (let_in _ c.in_ok-check_package.ensures).shape; aimed = aimed_whole _ _ c.fold_into.ensures _ _ _ refl }

pub seek-past-requires : goal.seek-past-requires
seek-past-requires c =
    record { shape = (let_in _ c.in_ok-check_package.ensures).shape; aimed = aimed_whole _ _ c.fold_into.ensures _ _ _ refl }

pub write_stream-requires : goal.write_stream-requires
write_stream-requires c = (
  (let_in _ c.in_ok-check_package.ensures).shape,
  c.seek-past.ensures.bounded.within,
  omega arith,
  omega arith,
)

pub returns : goal.returns
returns c =
    let source = c.args.source in
    let out = c.args.out in
    let folded = c.fold_into.ensures in
    relationships_written _ (let_in _ c.in_ok-check_package.ensures) source.now out.now
    c.in_ok-check_source.ensures _ _
    (placed_whole _ _ source.now folded 3 0 _ _ refl _ _ c.seek-first.ensures).bounded
    (placed_whole _ _ source.now folded 3 0 _ _ refl _ _ c.seek-past.ensures).bounded _ c.write_stream.ensures
