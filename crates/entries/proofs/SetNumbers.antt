-- How many fields the entries of a set have, and in which field of a row each lies.
-- Assumes nothing.
use Prim.Native.Nat.{ℕ, zero, suc, ◌≤◌, ◌<◌}
use mathlib.Core.Path.{◌≡◌, refl}
use native.Mathlib.Omega.{arith}
use borrow.Author.Tests.{eq-eqb, ne_eqb}
use Rattle.entries.specs.Listing.{field_count}
use Rattle.entries.specs.RowTexts.{row_field}

pub two_fields_lem : (set : ℕ) → set < 3 → 2 ≡ field_count set
two_fields_lem zero l = refl
two_fields_lem (suc zero) l = refl
two_fields_lem (suc (suc zero)) l = refl
two_fields_lem (suc (suc (suc n))) l = absurd (omega arith)

pub five_fields : (set : ℕ) → set ≡ 3 → 5 ≡ field_count set
five_fields set e = rw e

pub no_fields : (set : ℕ) → 3 ≤ set → (set ≡ 3 → ⊥) → 0 ≡ field_count set
no_fields zero l z = absurd (omega arith)
no_fields (suc zero) l z = absurd (omega arith)
no_fields (suc (suc zero)) l z = absurd (omega arith)
no_fields (suc (suc (suc zero))) l z = absurd (z refl)
no_fields (suc (suc (suc (suc n)))) l z = refl

-- a set that has fields is there
pub few_sets : (set k : ℕ) → k < field_count set → set ≤ 3
few_sets zero k l = omega arith
few_sets (suc zero) k l = omega arith
few_sets (suc (suc zero)) k l = omega arith
few_sets (suc (suc (suc zero))) k l = omega arith
few_sets (suc (suc (suc (suc n)))) k l = absurd (omega arith)

module _ (set k : ℕ) where
  pub item_field_lem : set ≡ 0 → 2 ≡ row_field set k
  item_field_lem e = rw (eq-eqb set 0 e)

  module _ (z : set ≡ 0 → ⊥) where
    pub target_field_lem : k ≡ 4 → 3 ≡ row_field set k
    target_field_lem e = rw (ne_eqb set 0 z, eq-eqb k 4 e)

    pub same_field : (k ≡ 4 → ⊥) → k ≡ row_field set k
    same_field y = rw (ne_eqb set 0 z, ne_eqb k 4 y)
