use Rattle.markup.proofs.EntryTags.{related_miscounted, related_idless, related_typeless, related_targetless, related_is}
use Rattle.markup.proofs.entries.related.Goals as goal

pub returns-then-count_own-related_count : goal.returns-then-count_own-related_count
returns-then-count_own-related_count c = related_miscounted _ _ _ c.find_value-mode.ensures _ c.count_own.ensures _ c.related_count.ensures c.if-count_own-related_count.true

pub returns-in_err-id : goal.returns-in_err-id
returns-in_err-id c =
    rw c.from_residual.ensures
    (related_idless _ _ _ c.find_value-mode.ensures _ c.count_own.ensures _ c.related_count.ensures c.if-count_own-related_count.false
    _ c.find_value.ensures c.in_err-id.was)

pub returns-in_err-iri : goal.returns-in_err-iri
returns-in_err-iri c =
    rw c.from_residual-in_err-iri.ensures
    (related_typeless _ _ _ c.find_value-mode.ensures _ c.count_own.ensures _ c.related_count.ensures c.if-count_own-related_count.false
    _ c.find_value.ensures _ c.in_ok-id.was _ c.find_value-2.ensures c.in_err-iri.was)

pub returns-in_err-target : goal.returns-in_err-target
returns-in_err-target c =
    rw c.from_residual-in_err-target.ensures
    (related_targetless _ _ _ c.find_value-mode.ensures _ c.count_own.ensures _ c.related_count.ensures c.if-count_own-related_count.false
    _ c.find_value.ensures _ c.in_ok-id.was _ c.find_value-2.ensures _ c.in_ok-iri.was
    _ c.find_value-3.ensures c.in_err-target.was)

pub returns : goal.returns
returns c =
    related_is _ _ _ c.find_value-mode.ensures _ c.count_own.ensures _ c.related_count.ensures c.if-count_own-related_count.false
    _ c.find_value.ensures _ c.in_ok-id.was _ c.find_value-2.ensures _ c.in_ok-iri.was
    _ c.find_value-3.ensures _ c.in_ok-target.was _ c.mode_of.ensures
