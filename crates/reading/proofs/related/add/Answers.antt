use mathlib.Core.Path.{sym, ◌∙◌}
use native.Mathlib.Omega.{arith}
use lib.Seq.{length-take-le}
use Rattle.model.proofs.Numbers.{zero_numbered}
use Rattle.store.proofs.PackageTest.{package_shape}
use Rattle.contract.specs.Rows.{relationship_row}
use Rattle.reading.proofs.AddingTurns.{added, added_foreign}
use Rattle.reading.proofs.EnteredFields.{related_sizes, related_is, related_source, related_nothing}
use Rattle.reading.proofs.related.add.Goals as goal

pub slice_bounds-id-end : goal.slice_bounds-id-end
slice_bounds-id-end c = (related_sizes c.related_fields.ensures c.in-Some.is).0

pub slice_bounds-put_row-end : goal.slice_bounds-put_row-end
slice_bounds-put_row-end c = sym (length-take-le _ _ (related_sizes c.related_fields.ensures c.in-Some.is).0)

pub slice_bounds-iri-end : goal.slice_bounds-iri-end
slice_bounds-iri-end c = (related_sizes c.related_fields.ensures c.in-Some.is).1

pub slice_bounds-put_row-end-then-is_package : goal.slice_bounds-put_row-end-then-is_package
slice_bounds-put_row-end-then-is_package c = sym (length-take-le _ _ (related_sizes c.related_fields.ensures c.in-Some.is).1)

pub slice_bounds-target-end : goal.slice_bounds-target-end
slice_bounds-target-end c = (related_sizes c.related_fields.ensures c.in-Some.is).2

pub slice_bounds-put_row-end-then-is_package-2 : goal.slice_bounds-put_row-end-then-is_package-2
slice_bounds-put_row-end-then-is_package-2 c = sym (length-take-le _ _ (related_sizes c.related_fields.ensures c.in-Some.is).2)

pub put_row-requires : goal.put_row-requires
put_row-requires c =
    let fits = related_source c.related_fields.ensures _ c.requires.1 c.in-Some.is in
    record { shape = (package_shape _ (sym c.is_package.ensures ∙ c.if-is_package.true), fits.1); numbered = zero_numbered; f0_nonzero = (fits.0, omega (arith, fits.2, c.number.ensures)) }

pub returns-then-is_package : goal.returns-then-is_package
unfolding relationship_row
returns-then-is_package c =
    added _ _ _ _ _ (related_is c.related_fields.ensures _ c.requires.1 c.in-Some.is c.number.ensures)
    c.put_row.ensures

pub returns-else-is_package : goal.returns-else-is_package
returns-else-is_package c = added_foreign _ _ _ _ c.is_package.ensures c.if-is_package.false

pub returns-in-None : goal.returns-in-None
returns-in-None c = related_nothing c.related_fields.ensures _ _ _ c.in-None.is
