use mathlib.Core.Path.{refl}
use native.Mathlib.Omega.{arith}
use Rattle.abi.proofs.Telling.{told_coded, told_plain}
use Rattle.abi.proofs.making.make_field_change.Goals as goal

pub returns-then-code-eq4 : goal.returns-then-code-eq4
returns-then-code-eq4 c = search (told_coded, told_plain)

pub returns-then-code-eq5 : goal.returns-then-code-eq5
returns-then-code-eq5 c = search (told_coded, told_plain)

pub returns-then-code-eq6 : goal.returns-then-code-eq6
returns-then-code-eq6 c = search (told_coded, told_plain)

pub returns-then-code-eq7 : goal.returns-then-code-eq7
returns-then-code-eq7 c = search (told_coded, told_plain)

pub returns-then-code-eq8 : goal.returns-then-code-eq8
returns-then-code-eq8 c = search (told_coded, told_plain)

pub returns : goal.returns
returns c =
    record {
      is = λ lent. told_coded 9 _ _ _ _ _ _ _ _ _ _ _ _ (omega arith)
          (told_plain (λ a. refl) (λ l a. refl) c.opc_drop_relationship.ensures lent);
    }
