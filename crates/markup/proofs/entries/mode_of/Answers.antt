use Rattle.markup.proofs.EntryValues.{value_within, mode_internal, mode_external, mode_neither}
use Rattle.markup.proofs.entries.mode_of.Goals as goal

pub slice_bounds-means-count : goal.slice_bounds-means-count
slice_bounds-means-count c = (value_within _ _ _ c.in-Some.is c.requires).0

pub slice_bounds-means-start : goal.slice_bounds-means-start
slice_bounds-means-start c = (value_within _ _ _ c.in-Some.is c.requires).0

pub slice_bounds-means-end : goal.slice_bounds-means-end
slice_bounds-means-end c = (value_within _ _ _ c.in-Some.is c.requires).1

pub returns-then-means : goal.returns-then-means
returns-then-means c = mode_internal _ _ _ c.in-Some.is _ c.means.ensures c.if-means.true

pub slice_bounds-means-count-2 : goal.slice_bounds-means-count-2
slice_bounds-means-count-2 c = (value_within _ _ _ c.in-Some.is c.requires).0

pub slice_bounds-means-start-2 : goal.slice_bounds-means-start-2
slice_bounds-means-start-2 c = (value_within _ _ _ c.in-Some.is c.requires).0

pub returns-then-means-2 : goal.returns-then-means-2
returns-then-means-2 c =
    mode_external _ _ _ c.in-Some.is _ c.means.ensures c.if-means.false
    _ c.means-2.ensures c.if-means-2.true

pub returns : goal.returns
returns c =
    mode_neither _ _ _ c.in-Some.is _ c.means.ensures c.if-means.false
    _ c.means-2.ensures c.if-means-2.false
