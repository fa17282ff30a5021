use mathlib.Core.Path.{sym, ◌∙◌}
use native.Mathlib.Omega.{arith}
use lib.Seq.{length-take-le}
use Rattle.model.proofs.Numbers.{zero_numbered}
use Rattle.store.proofs.PackageTest.{package_shape}
use Rattle.contract.specs.Rows.{default_row, override_row}
use Rattle.reading.proofs.AddingTurns.{added, added_foreign}
use Rattle.reading.proofs.EnteredFields.{typed_sizes, typed_is, typed_key, typed_nothing}
use Rattle.reading.proofs.typed.add.Goals as goal

pub slice_bounds-key-end : goal.slice_bounds-key-end
slice_bounds-key-end c = (typed_sizes c.typed_fields.ensures c.in-Some.is).0

pub slice_bounds-put_row-end : goal.slice_bounds-put_row-end
slice_bounds-put_row-end c = sym (length-take-le _ _ (typed_sizes c.typed_fields.ensures c.in-Some.is).0)

pub slice_bounds-media-end : goal.slice_bounds-media-end
slice_bounds-media-end c = (typed_sizes c.typed_fields.ensures c.in-Some.is).1

pub slice_bounds-put_row-end-then-f : goal.slice_bounds-put_row-end-then-f
slice_bounds-put_row-end-then-f c = sym (length-take-le _ _ (typed_sizes c.typed_fields.ensures c.in-Some.is).1)

pub put_row-requires : goal.put_row-requires
put_row-requires c =
    let fits = typed_key c.typed_fields.ensures c.requires.1 c.in-Some.is in
    record { shape = (package_shape _ (sym c.is_package.ensures ∙ c.if-is_package.true), fits.1); numbered = zero_numbered; f0_nonzero = (fits.0, omega arith) }

pub slice_bounds-key-end-else-f : goal.slice_bounds-key-end-else-f
slice_bounds-key-end-else-f c = (typed_sizes c.typed_fields.ensures c.in-Some.is).0

pub slice_bounds-put_row-end-else-f : goal.slice_bounds-put_row-end-else-f
slice_bounds-put_row-end-else-f c = sym (length-take-le _ _ (typed_sizes c.typed_fields.ensures c.in-Some.is).0)

pub slice_bounds-media-end-else-f : goal.slice_bounds-media-end-else-f
slice_bounds-media-end-else-f c = (typed_sizes c.typed_fields.ensures c.in-Some.is).1

pub slice_bounds-put_row-end-else-f-2 : goal.slice_bounds-put_row-end-else-f-2
slice_bounds-put_row-end-else-f-2 c = sym (length-take-le _ _ (typed_sizes c.typed_fields.ensures c.in-Some.is).1)

pub put_row-requires-else-f : goal.put_row-requires-else-f
put_row-requires-else-f c =
    let fits = typed_key c.typed_fields.ensures c.requires.1 c.in-Some.is in
    record { shape = (package_shape _ (sym c.is_package.ensures ∙ c.if-is_package.true), fits.1); numbered = zero_numbered; f0_nonzero = (fits.0, omega arith) }

pub returns-then-f : goal.returns-then-f
unfolding default_row
returns-then-f c =
    added _ _ _ _ _ (typed_is c.typed_fields.ensures c.requires.1 c.in-Some.is c.if-f.true)
    c.put_row.ensures

pub returns-else-f : goal.returns-else-f
unfolding override_row
returns-else-f c =
    added _ _ _ _ _ (typed_is c.typed_fields.ensures c.requires.1 c.in-Some.is c.if-f.false)
    c.put_row-else-f.ensures

pub returns-else-is_package : goal.returns-else-is_package
returns-else-is_package c = added_foreign _ _ _ _ c.is_package.ensures c.if-is_package.false

pub returns-in-None : goal.returns-in-None
returns-in-None c = typed_nothing c.typed_fields.ensures _ _ c.in-None.is
