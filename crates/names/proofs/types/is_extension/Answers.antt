use borrow.Author.Tests.{le-leb, lt-leb}
use Rattle.base.proofs.Bools.{and_false, and_right_true}
use Rattle.names.specs.Types.{extension}
use Rattle.names.proofs.types.is_extension.Goals as goal

pub returns-then-n-gt31 : goal.returns-then-n-gt31
unfolding extension
returns-then-n-gt31 c = rw (lt-leb _ _ c.if-n-gt31.true, and_false)

pub returns : goal.returns
unfolding extension
returns c =
    let if1 = c.if-n-gt31 in
    rw (c.all_units.ensures, c.has_no.ensures, le-leb _ _ if1.false, and_right_true)
