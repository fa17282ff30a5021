use borrow.Author.Tests.{le-leb, lt-leb}
use Rattle.chars.specs.Folding.{ends_in}
use Rattle.base.proofs.Lists.{take_rest}
use Rattle.chars.proofs.folding.ends_in.Goals as goal

pub returns-then-n-s : goal.returns-then-n-s
unfolding ends_in
returns-then-n-s c =
    let args = c.args in
    rw (c.is_equivalent.ensures, take_rest args.s.now _, le-leb _ _ c.if-n-s.true)

pub returns : goal.returns
unfolding ends_in
returns c = rw (lt-leb _ _ c.if-n-s.false)
