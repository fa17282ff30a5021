use Rattle.markup.specs.declared.entries.Kind.TheVariants.{Types, Relationships}
use Rattle.markup.proofs.EntryValues.{value_within, namespace_is}
use Rattle.markup.proofs.entries.is_namespace.Goals as goal

pub slice_bounds-means-count : goal.slice_bounds-means-count
slice_bounds-means-count c = (value_within _ _ _ c.in-Some.is c.requires).0

pub slice_bounds-means-start : goal.slice_bounds-means-start
slice_bounds-means-start c = (value_within _ _ _ c.in-Some.is c.requires).0

pub slice_bounds-means-end : goal.slice_bounds-means-end
slice_bounds-means-end c = (value_within _ _ _ c.in-Some.is c.requires).1

pub slice_bounds-means-count-in-Relationships : goal.slice_bounds-means-count-in-Relationships
slice_bounds-means-count-in-Relationships c = (value_within _ _ _ c.in-Some.is c.requires).0

pub slice_bounds-means-start-in-Relationships : goal.slice_bounds-means-start-in-Relationships
slice_bounds-means-start-in-Relationships c = (value_within _ _ _ c.in-Some.is c.requires).0

pub slice_bounds-means-end-in-Relationships : goal.slice_bounds-means-end-in-Relationships
slice_bounds-means-end-in-Relationships c = (value_within _ _ _ c.in-Some.is c.requires).1

pub returns-in-Types : goal.returns-in-Types
returns-in-Types c = namespace_is _ _ _ c.in-Some.is _ Types c.in-Types.is _ c.means.ensures

pub returns-in-Relationships : goal.returns-in-Relationships
returns-in-Relationships c = namespace_is _ _ _ c.in-Some.is _ Relationships c.in-Relationships.is _ c.means-in-Relationships.ensures
