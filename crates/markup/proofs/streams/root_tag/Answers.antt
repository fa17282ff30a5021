use Rattle.std.proofs.Common.{arith}
use Rattle.markup.proofs.Rests.{tag_reach}
use Rattle.markup.proofs.Roots.{root_tagless, root_other, root_empty, root_holds}
use Rattle.markup.proofs.streams.root_tag.Goals as goal

pub returns-in_default : goal.returns-in_default
returns-in_default c = root_tagless _ c.start_tag.ensures c.in_default.is

pub is_root-requires : goal.is_root-requires
is_root-requires c =
    let v = tag_reach c.start_tag.ensures c.in-Some.is in
    (omega (arith, v), omega (arith, v))

pub returns-then-not-is_root : goal.returns-then-not-is_root
returns-then-not-is_root c = root_other _ c.start_tag.ensures c.in-Some.is c.is_root.ensures c.if-not-is_root.true

pub returns-then-tag : goal.returns-then-tag
returns-then-tag c =
    root_empty _ c.start_tag.ensures c.in-Some.is c.is_root.ensures
    c.if-not-is_root.false c.if-tag.true

pub returns : goal.returns
returns c =
    root_holds _ c.start_tag.ensures c.in-Some.is c.is_root.ensures
    c.if-not-is_root.false c.if-tag.false
