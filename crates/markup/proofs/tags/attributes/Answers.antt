use mathlib.Core.Path.{refl, sym, ◌∙◌}
use native.Mathlib.Omega.{arith}
use Rattle.markup.proofs.AttributeWalks.{given_within}
use Rattle.markup.proofs.StartTags.{listing_none, listing_new, listing_all, listing_repeated, listing_more}
use Rattle.markup.proofs.tags.attributes.Goals as goal

pub loop-a-init : goal.loop-a-init
loop-a-init c = listing_none _ _ _ c.requires refl

pub blanks_end-behind-requires : goal.blanks_end-behind-requires
blanks_end-behind-requires c = c.loop-a.invariant.to

pub attribute_behind-requires : goal.attribute_behind-requires
attribute_behind-requires c = c.blanks_end-behind.ensures

pub many-requires : goal.many-requires
many-requires c = c.requires

pub returns-then-k-eq-FEW : goal.returns-then-k-eq-FEW
returns-then-k-eq-FEW c = c.many.ensures

pub mark_of-m-requires : goal.mark_of-m-requires
mark_of-m-requires c =
    let w = given_within _ _ _ c.attribute_behind.ensures _ c.in-Some.is in
    (omega (arith, w.1), omega (arith, w.2, w.3, w.4, w.5))

pub bounds-marks-m : goal.bounds-marks-m
bounds-marks-m c = c.mark_of-m.ensures.1

pub is_repeated-requires : goal.is_repeated-requires
is_repeated-requires c =
    let w = given_within _ _ _ c.attribute_behind.ensures _ c.in-Some.is in (
      c.requires,
      (omega (arith, w.1), omega (arith, w.2, w.3, w.4, w.5)),
      λ f. listing_new _ _ _ _ _ c.loop-a.invariant _ _ c.mark_of-m.ensures.0 f,
    )

pub returns-then-is_repeated : goal.returns-then-is_repeated
returns-then-is_repeated c =
    listing_repeated _ _ _ _ _ c.loop-a.invariant _ c.attribute_behind.ensures _ c.in-Some.is
    (sym c.is_repeated.ensures ∙ c.if-is_repeated.true)

pub bounds-marks-m-in-loop-a : goal.bounds-marks-m-in-loop-a
bounds-marks-m-in-loop-a c = c.mark_of-m.ensures.1

pub overflow_add-k : goal.overflow_add-k
overflow_add-k c =
    let w = given_within _ _ _ c.attribute_behind.ensures _ c.in-Some.is in
    record { fits = omega (arith, w.0, w.1, w.2, w.3, w.4, w.5, c.loop-a.invariant.from) }

pub loop-a-smaller : goal.loop-a-smaller
loop-a-smaller c =
    let w = given_within _ _ _ c.attribute_behind.ensures _ c.in-Some.is in
    omega (arith, w.0, w.1, w.2, w.3, w.4, w.5)

pub loop-a-preserved : goal.loop-a-preserved
loop-a-preserved c =
    listing_more _ _ _ _ _ c.loop-a.invariant _ c.attribute_behind.ensures _ c.in-Some.is _
    c.mark_of-m.ensures.0 c.mark_of-m.ensures.1 (sym c.is_repeated.ensures ∙ c.if-is_repeated.false)

pub returns-in_default : goal.returns-in_default
returns-in_default c =
    listing_all _ _ _ _ _ c.loop-a.invariant _ c.attribute_behind.ensures c.in_default.is _
    c.blanks_end-behind.ensures.0 c.blanks_end-behind.ensures.1
