use mathlib.Core.Path.{refl}
use native.Mathlib.Omega.{arith}
use Rattle.model.specs.Calls.{Prints, ResolveRelationship}
use Rattle.output.proofs.Answering.{passed_on}
use Rattle.contract.proofs.Opening.{turned_away_lem, let_in}
use Rattle.contract.proofs.SoughtKeys.{aimed_whole, found_whole}
use Rattle.relationships.proofs.TargetResolutions.{resolve_refused, package_size, source_fits, resolve_missing, resolve_found}
use Rattle.relationships.proofs.resolving.resolve_relationship.Goals as goal

pub returns-in_err-check_package : goal.returns-in_err-check_package
returns-in_err-check_package c =
    let args = c.args in
    rw (passed_on _ _ c.from_residual.ensures.1)
    (turned_away_lem _ (Prints (ResolveRelationship args.source.now args.id.now args.base.now) args.out.now) _ refl c.in_err-check_package.ensures)

pub returns-in_err-check_asked : goal.returns-in_err-check_asked
returns-in_err-check_asked c =
    let args = c.args in
    rw (passed_on _ _ c.from_residual-in_err-check_asked.ensures.1)
    (resolve_refused _ (let_in _ c.in_ok-check_package.ensures) args.source.now args.id.now
    args.base.now args.out.now _ c.in_err-check_asked.ensures)

pub fold_into-requires : goal.fold_into-requires
fold_into-requires c =
    let args = c.args in (
      source_fits _ (let_in _ c.in_ok-check_package.ensures) args.source.now args.id.now args.base.now
          args.out.now c.in_ok-check_asked.ensures,
      refl,
    )

pub locate-r-requires : goal.locate-r-requires
locate-r-requires c =
    record { shape = (let_in _ c.in_ok-check_package.ensures).shape; aimed = aimed_whole _ _ c.fold_into.ensures _ _ _ refl }

pub resolve_row-requires : goal.resolve_row-requires
resolve_row-requires c = (
  (let_in _ c.in_ok-check_package.ensures).shape,
  omega
      (arith, c.count.ensures.0, c.if-r-count.true),
  package_size _
      (let_in _ c.in_ok-check_package.ensures) c.args.source.now c.args.id.now
      c.args.base.now c.args.out.now c.in_ok-check_asked.ensures,
)

pub returns-then-r-count : goal.returns-then-r-count
returns-then-r-count c =
    let args = c.args in
    resolve_found _ (let_in _ c.in_ok-check_package.ensures) args.source.now args.id.now
    args.base.now args.out.now c.in_ok-check_asked.ensures _ _
    (found_whole _ _ args.source.now c.fold_into.ensures 3 0 args.id.now _ refl _ c.locate-r.ensures)
    c.count.ensures.0 c.if-r-count.true _ c.resolve_row.ensures

pub returns : goal.returns
returns c =
    let args = c.args in
    resolve_missing _ (let_in _ c.in_ok-check_package.ensures) args.source.now args.id.now
    args.base.now args.out.now c.in_ok-check_asked.ensures _ _
    (found_whole _ _ args.source.now c.fold_into.ensures 3 0 args.id.now _ refl _ c.locate-r.ensures)
    c.count.ensures.0 c.if-r-count.false
