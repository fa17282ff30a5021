use mathlib.Core.Path.{refl}
use native.Mathlib.Omega.{arith}
use Rattle.abi.proofs.Telling.{told_coded, told_plain}
use Rattle.abi.proofs.making.make_part_change.Goals as goal

pub returns-then-code-eq19 : goal.returns-then-code-eq19
returns-then-code-eq19 c = search (told_coded, told_plain)

pub returns : goal.returns
returns c =
    record {
      is = λ lent. told_coded 20 _ _ _ _ _ _ _ _ _ _ _ _ (omega arith)
          (told_plain (λ a. refl) (λ l a. refl) c.opc_join_part.ensures lent);
    }
