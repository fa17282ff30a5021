use Rattle.markup.proofs.StartTags.{listed_all, listed_repeated, tag_nameless, tag_repeated, tag_is}
use Rattle.markup.proofs.tags.start_tag.Goals as goal

pub returns-then-name_end-at : goal.returns-then-name_end-at
returns-then-name_end-at c = tag_nameless _ _ _ c.name_end-name_end.ensures.0 c.name_end-name_end.ensures.1 c.if-name_end-at.true

pub tag_end-requires : goal.tag_end-requires
tag_end-requires c = (listed_all _ _ _ c.attributes.ensures _ c.in_ok-all.was).within.1

pub returns : goal.returns
returns c =
    let all = listed_all _ _ _ c.attributes.ensures _ c.in_ok-all.was in
    tag_is _ _ _ c.name_end-name_end.ensures.0 c.name_end-name_end.ensures.1 c.if-name_end-at.false _ _ _ all.listed all.behind
    all.within.0 _ c.tag_end.ensures

pub returns-in_err-all : goal.returns-in_err-all
returns-in_err-all c =
    rw c.from_residual.ensures
    (tag_repeated c.args.s.now c.args.at _ c.name_end-name_end.ensures.0 c.name_end-name_end.ensures.1 c.if-name_end-at.false
    (listed_repeated c.args.s.now _ _ c.attributes.ensures c.in_err-all.was))
