use borrow.Author.Tests.{eq-eqb, ne_eqb}
use Rattle.contract.specs.Rows.{external_tag}
use Rattle.base.proofs.Bools.{eqb_both, eqb_not_both}
use Rattle.entries.proofs.RowListings.{name_copied, mode_copied, field_copied}
use Rattle.entries.proofs.listing.put_row_field.Goals as goal

pub returns-then-set-k : goal.returns-then-set-k
returns-then-set-k c =
    name_copied _ _ _ _ _ _ _ c.requires.0 _ _ (eqb_both _ _ _ _ c.if-set-k.true) c.field.ensures.2 c.field-then-set-k.ensures.2
    c.put_field.ensures

pub returns-then-tag-eq-EXTERNAL_TAG : goal.returns-then-tag-eq-EXTERNAL_TAG
returns-then-tag-eq-EXTERNAL_TAG c =
    mode_copied _ _ _ _ _ _ _ c.requires.0 c.tag.result _ (eqb_both _ _ _ _ c.if-set-k-2.true) c.tag.ensures.1
    (rw (eq-eqb c.tag.result external_tag c.if-tag-eq-EXTERNAL_TAG.true)) c.put_field-then-tag-eq-EXTERNAL_TAG.ensures

pub returns-then-set-k-2 : goal.returns-then-set-k-2
returns-then-set-k-2 c =
    mode_copied _ _ _ _ _ _ _ c.requires.0 c.tag.result _ (eqb_both _ _ _ _ c.if-set-k-2.true) c.tag.ensures.1
    (rw (ne_eqb c.tag.result external_tag c.if-tag-eq-EXTERNAL_TAG.false)) c.put_field-then-set-k-2.ensures

pub returns : goal.returns
returns c =
    let pre = c.requires in
    field_copied _ _ _ _ _ _ _ pre.0 _ _ pre.1 (eqb_not_both _ _ _ _ c.if-set-k.false) (eqb_not_both _ _ _ _ c.if-set-k-2.false)
    c.row_field.ensures c.field-2.ensures.2 c.put_field-2.ensures
