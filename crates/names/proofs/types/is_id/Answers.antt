use borrow.Author.Tests.{le-leb, lt-leb}
use Rattle.base.proofs.Bools.{and_false, and_right_true}
use Rattle.names.specs.Types.{identifier}
use Rattle.names.proofs.types.is_id.Goals as goal

pub returns-then-n-gt63 : goal.returns-then-n-gt63
unfolding identifier
returns-then-n-gt63 c = rw (lt-leb _ _ c.if-n-gt63.true, and_false)

pub returns : goal.returns
unfolding identifier
returns c =
    let if1 = c.if-n-gt63 in
    rw (c.all_members.ensures, c.is_letter.ensures, c.byte_at-b.ensures, le-leb _ _ if1.false, and_right_true)
