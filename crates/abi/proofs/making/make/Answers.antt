use Rattle.abi.proofs.Telling.{told_coded, told_origin}
use borrow.Author.Rules.{rules}
use Rattle.abi.proofs.making.make.Goals as goal

pub returns-then-code-le3 : goal.returns-then-code-le3
returns-then-code-le3 c = c.make_item_change.ensures.is _

pub shape_of-pkg-then-code-le9 : goal.shape_of-pkg-then-code-le9
shape_of-pkg-then-code-le9 c = search
    rules

pub returns-then-code-le9 : goal.returns-then-code-le9
returns-then-code-le9 c = c.make_field_change.ensures.is _

pub shape_of-pkg-then-code-le20 : goal.shape_of-pkg-then-code-le20
shape_of-pkg-then-code-le20 c = search
    rules

pub returns-then-code-le20 : goal.returns-then-code-le20
returns-then-code-le20 c = c.make_part_change.ensures.is _

pub returns-then-code-eq21 : goal.returns-then-code-eq21
returns-then-code-eq21 c = search (told_coded, told_origin)

pub returns : goal.returns
returns c = c.make_reading.ensures.is _
