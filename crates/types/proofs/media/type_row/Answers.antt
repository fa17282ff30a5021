use mathlib.Core.Path.{refl}
use mathlib.Core.List.{[]}
use Rattle.contract.proofs.SoughtKeys.{aimed_whole, aimed_rest, found_whole, found_rest}
use Rattle.types.proofs.TypeLookups.{extension_inside, typed_override, typed_bare, typed_default}
use Rattle.types.proofs.media.type_row.Goals as goal

pub locate-r-requires : goal.locate-r-requires
locate-r-requires c = record { shape = c.requires.shape; aimed = aimed_whole _ _ c.requires.holds_folding _ _ _ refl }

pub returns-then-r-m : goal.returns-then-r-m
returns-then-r-m c =
    typed_override _ _ _ _ (found_whole _ _ c.args.name.now c.requires.holds_folding 2 0 [] _ refl _ c.locate-r.ensures)
    c.count-m.ensures.0 c.if-r-m.true

pub returns-then-i-eq0 : goal.returns-then-i-eq0
returns-then-i-eq0 c =
    typed_bare _ _ _ _ (found_whole _ _ c.args.name.now c.requires.holds_folding 2 0 [] _ refl _ c.locate-r.ensures)
    c.count-m.ensures.0 c.if-r-m.false _ c.extension_at-i.ensures c.if-i-eq0.true

pub overflow_sub-w : goal.overflow_sub-w
overflow_sub-w c = extension_inside _ _ c.extension_at-i.ensures

pub locate-requires : goal.locate-requires
locate-requires c =
    let l = extension_inside _ _ c.extension_at-i.ensures in
    record { shape = c.requires.shape; aimed = aimed_rest _ _ c.requires.holds_folding _ _ _ _ l refl }

pub returns : goal.returns
returns c =
    typed_default _ _ _ _ (found_whole _ _ c.args.name.now c.requires.holds_folding 2 0 [] _ refl _ c.locate-r.ensures)
    c.count-m.ensures.0 c.if-r-m.false _ c.extension_at-i.ensures c.if-i-eq0.false _
    (found_rest _ _ c.args.name.now c.requires.holds_folding 1 0 [] _ _ refl _ c.locate.ensures)
