-- A buffer without rows holds the empty package.
-- Assumes nothing.
use Prim.Native.Nat.{ℕ, ◌≤◌}
use mathlib.Core.Path.{◌≡◌, refl, ◌∙◌}
use mathlib.Core.List.{List, []}
use Rattle.model.specs.Package.{empty}
use Rattle.model.specs.Calls.{capacity_limit}
use Rattle.model.proofs.Steps.{empty_good}
use Rattle.store.specs.Layout.{format_of, package_format, cap_of}
use Rattle.store.specs.Rows.{rows_of}
use Rattle.store.specs.Packages.{Sound}
use Rattle.contract.specs.Rows.{rows_for, other_rows}
use Rattle.contract.specs.Holds.{Holds}

no_rows : (C : ℕ) → [] ≡ rows_for (empty C)
unfolding rows_for other_rows
no_rows C = refl

pub empty_holds : (C : ℕ) → C ≤ capacity_limit → (b : List ℕ) → Sound b → rows_of b ≡ [] → cap_of b ≡ C → format_of b ≡ package_format →
    Holds b (empty C)
empty_holds C h b s r c f = record { lies = record { sound = s; format = f; rows = r ∙ no_rows C; capacity = c }; good = empty_good C h }
