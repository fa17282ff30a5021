-- What is sought, as a key: the array holds the folding of a text, or of its end.
-- Assumes nothing.
use Prim.Native.Nat.{ℕ, ◌-◌, ◌≤◌}
use mathlib.Core.Path.{◌≡◌, ap, ◌∙◌, subst}
use mathlib.Core.Bool.{Bool}
use mathlib.Core.List.{◌∷◌}
use native.Mathlib.Omega.{arith}
use lib.ListN.{length, drop}
use Rattle.base.specs.Buffer.{part}
use Rattle.chars.specs.FoldedNames.{HoldsFolding}
use Rattle.chars.proofs.FoldedNames.{folded_whole, folded_rest, folded_is}
use Rattle.model.specs.Sets.{Bytes, Key}
use Rattle.contract.specs.Rows.{second, key_in}
use Rattle.contract.specs.Searches.{Aimed, Placed}
use Rattle.contract.specs.Entries.{Sought}

-- it lies in the array, folded
module _ (f p : Bytes) (h : HoldsFolding f p) (set t : ℕ) where
  pub aimed_whole : (n : ℕ) → n ≡ length p → Aimed (record { set = set; at = 0; length = n; tag = t }) f
  aimed_whole n e = record { fits = omega (arith, h.fits); folded = folded_is (part 0 n f) p (ap (λ (m : ℕ). part 0 m f) e ∙ folded_whole f p h) }

  pub aimed_rest : (i n : ℕ) → i ≤ length p → n ≡ length p - i → Aimed (record { set = set; at = i; length = n; tag = t }) f
  aimed_rest i n l e = record { fits = omega (arith, h.fits); folded = folded_is (part i n f) (drop i p) (ap (λ (m : ℕ). part i m f) e ∙ folded_rest f p h i) }

module _ (b f p : Bytes) (h : HoldsFolding f p) (set t : ℕ) (id : Bytes) where
  sought_whole : (n : ℕ) → n ≡ length p → (set ∷ part 0 n f, second set t id) ≡ key_in set p t id
  sought_whole n e = ap (λ (m : ℕ). (set ∷ part 0 m f, second set t id)) e ∙ ap (λ (x : Bytes). (set ∷ x, second set t id)) (folded_whole f p h)

  pub placed_whole : (n : ℕ) → n ≡ length p → (r : ℕ) (z : Bool) → Placed b (set ∷ part 0 n f, second set t id) r z → Placed b (key_in set p t id) r z
  placed_whole n e r z = subst (λ (k : Key). Placed b k r z) (sought_whole n e)

  pub found_whole : (n : ℕ) → n ≡ length p → (r : ℕ) → Sought b (set ∷ part 0 n f, second set t id) r → Sought b (key_in set p t id) r
  found_whole n e r = subst (λ (k : Key). Sought b k r) (sought_whole n e)

  pub found_rest : (i n : ℕ) → n ≡ length p - i → (r : ℕ) → Sought b (set ∷ part i n f, second set t id) r → Sought b (key_in set (drop i p) t id) r
  found_rest i n e r =
      subst (λ (k : Key). Sought b k r)
      (ap (λ (m : ℕ). (set ∷ part i m f, second set t id)) e ∙ ap (λ (x : Bytes). (set ∷ x, second set t id)) (folded_rest f p h i))
