use native.Mathlib.Omega.{arith}
use Rattle.abi.proofs.Telling.{told_coded, told_print}
use Rattle.abi.proofs.making.make_print.Goals as goal

pub returns-then-code-eq13 : goal.returns-then-code-eq13
returns-then-code-eq13 c = search (told_coded, told_print)

pub returns-then-code-eq14 : goal.returns-then-code-eq14
returns-then-code-eq14 c = search (told_coded, told_print)

pub returns-then-code-eq15 : goal.returns-then-code-eq15
returns-then-code-eq15 c = search (told_coded, told_print)

pub returns-then-code-eq16 : goal.returns-then-code-eq16
returns-then-code-eq16 c = search (told_coded, told_print)

pub returns-then-code-eq17 : goal.returns-then-code-eq17
returns-then-code-eq17 c = search (told_coded, told_print)

pub returns : goal.returns
returns c = told_coded 18 _ _ _ _ _ _ _ _ _ _ _ _ (omega arith) (told_print c.opc_write_relationships.ensures)
