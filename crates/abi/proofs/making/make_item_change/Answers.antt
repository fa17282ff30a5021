use mathlib.Core.Path.{refl}
use native.Mathlib.Omega.{arith}
use Rattle.abi.proofs.Telling.{told_coded, told_plain}
use Rattle.abi.proofs.making.make_item_change.Goals as goal

pub returns-then-code-eq1 : goal.returns-then-code-eq1
returns-then-code-eq1 c = search (told_coded, told_plain)

pub returns-then-code-eq2 : goal.returns-then-code-eq2
returns-then-code-eq2 c = search (told_coded, told_plain)

pub returns : goal.returns
returns c =
    record {
      is = λ lent. told_coded 3 _ _ _ _ _ _ _ _ _ _ _ _ (omega arith)
          (told_plain (λ a. refl) (λ l a. refl) c.opc_drop_item.ensures lent);
    }
