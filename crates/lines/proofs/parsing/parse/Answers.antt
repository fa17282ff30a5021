use Rattle.lines.proofs.Commands.{parse_long, parse_first, parse_list, parse_alone, parse_empty, parse_drop, parse_two, parse_put, parse_short, parse_four, parse_typed}
use Rattle.lines.proofs.parsing.parse.Goals as goal

pub returns-then-n-gt1024 : goal.returns-then-n-gt1024
returns-then-n-gt1024 c = search parse_long

pub returns-then-find-ne1 : goal.returns-then-find-ne1
returns-then-find-ne1 c = search parse_first

pub returns-then-letter-eq76 : goal.returns-then-letter-eq76
returns-then-letter-eq76 c = search parse_list

pub returns-then-n-eq1 : goal.returns-then-n-eq1
returns-then-n-eq1 c = search parse_alone

pub returns-then-e-eq2 : goal.returns-then-e-eq2
returns-then-e-eq2 c = search parse_empty

pub returns-then-letter-eq88 : goal.returns-then-letter-eq88
returns-then-letter-eq88 c = search parse_drop

pub returns-then-n-e : goal.returns-then-n-e
returns-then-n-e c = search parse_two

pub returns-then-letter-eq80 : goal.returns-then-letter-eq80
returns-then-letter-eq80 c = search parse_put

pub returns-then-n-s : goal.returns-then-n-s
returns-then-n-s c = search parse_short

pub returns-then-find-n : goal.returns-then-find-n
returns-then-find-n c = search parse_four

pub returns : goal.returns
returns c = search parse_typed
