use Rattle.markup.proofs.EntryTags.{typed_miscounted, typed_keyless, typed_typeless, typed_is}
use Rattle.markup.proofs.entries.typed.Goals as goal

pub returns-then-count_own-ne2 : goal.returns-then-count_own-ne2
returns-then-count_own-ne2 c = typed_miscounted _ c.args.default _ _ _ c.count_own.ensures c.if-count_own-ne2.true

pub returns-in_err-key : goal.returns-in_err-key
returns-in_err-key c =
    rw c.from_residual.ensures
    (typed_keyless _ c.args.default _ _ _ c.count_own.ensures c.if-count_own-ne2.false
    _ c.find_value.ensures c.in_err-key.was)

pub returns-in_err-media : goal.returns-in_err-media
returns-in_err-media c =
    rw c.from_residual-in_err-media.ensures
    (typed_typeless _ c.args.default _ _ _ c.count_own.ensures c.if-count_own-ne2.false
    _ c.find_value.ensures _ c.in_ok-key.was _ c.find_value-2.ensures c.in_err-media.was)

pub returns : goal.returns
returns c =
    typed_is _ _ _ _ _ c.count_own.ensures c.if-count_own-ne2.false _ c.find_value.ensures _ c.in_ok-key.was
    _ c.find_value-2.ensures _ c.in_ok-media.was
