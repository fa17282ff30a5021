use mathlib.Core.Path.{refl}
use native.Mathlib.Omega.{arith}
use Rattle.abi.proofs.Telling.{told_coded, told_plain}
use Rattle.abi.proofs.making.make_look.Goals as goal

pub returns-then-code-eq10 : goal.returns-then-code-eq10
returns-then-code-eq10 c = search (told_coded, told_plain)

pub returns-then-code-eq11 : goal.returns-then-code-eq11
returns-then-code-eq11 c = search told_coded

pub returns : goal.returns
returns c = told_coded 12 _ _ _ _ _ _ _ _ _ _ _ _ (omega arith) (told_plain (λ a. refl) (λ l a. refl) c.opc_totals.ensures _)
