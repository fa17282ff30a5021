-- Folding, and texts that are cut, put together and compared.
-- Assumes nothing.
use Prim.Native.Nat.{◌-◌, ℕ, zero, suc}
use mathlib.Core.Path.{ap, ◌≡◌, refl, sym, ◌∙◌}
use mathlib.Core.Bool.{Bool, true, false}
use mathlib.Core.List.{map, List, [], ◌∷◌, ◌++◌}
use native.Mathlib.Omega.{arith}
use lib.Dec.{eqb}
use lib.ListN.{take, drop, length, length-map}
use Rattle.chars.specs.Bytes.{slash, ascii}
use Rattle.chars.specs.Folding.{fold, lower, equivalent, derivable, ends_in}
use Rattle.chars.specs.Lists.{cut, split, after_last, same}
use Rattle.chars.proofs.Foldings.{lower_lower, lower_eqb}

pub take_map : (f : ℕ → ℕ) (n : ℕ) (s : List ℕ) → take n (map f s) ≡ map f (take n s)
take_map f zero s = refl
take_map f (suc n) [] = refl
take_map f (suc n) (x ∷ s) = ap (λ (l : List ℕ). f x ∷ l) (take_map f n s)

pub drop_map : (f : ℕ → ℕ) (n : ℕ) (s : List ℕ) → drop n (map f s) ≡ map f (drop n s)
drop_map f zero s = refl
drop_map f (suc n) [] = refl
drop_map f (suc n) (x ∷ s) = drop_map f n s

pub fold_append : (a b : List ℕ) → fold (a ++ b) ≡ fold a ++ fold b
fold_append [] b = refl
fold_append (x ∷ a) b = ap (λ (l : List ℕ). lower x ∷ l) (fold_append a b)

pub fold_fold : (s : List ℕ) → fold (fold s) ≡ fold s
fold_fold [] = refl
fold_fold (x ∷ s) = rw (lower_lower x, fold_fold s)

pub equivalent_folded : (a b : List ℕ) → equivalent (fold a) b ≡ equivalent a b
unfolding equivalent
equivalent_folded a b = rw (fold_fold a)

pub derivable_folded : (a b : List ℕ) → derivable (fold a) b ≡ derivable a b
unfolding derivable
derivable_folded a b = rw (fold_fold a, length-map a lower)

pub derivable_from_folded : (a b : List ℕ) → derivable a (fold b) ≡ derivable a b
unfolding derivable
derivable_from_folded a b = rw (fold_fold b, length-map b lower)

cut_fold : (q : Bool) (x : ℕ) (l : List (List ℕ)) → cut q (lower x) (map fold l) ≡ map fold (cut q x l)
cut_fold true x l = refl
cut_fold false x [] = refl
cut_fold false x (y ∷ l) = refl

pub split_fold : (s : List ℕ) → split slash (fold s) ≡ map fold (split slash s)
unfolding split
split_fold [] = refl
split_fold (x ∷ s) = rw (lower_eqb slash (omega arith) x, split_fold s) (cut_fold (eqb x slash) x (split slash s))

pub last_fold : (s : List ℕ) → after_last slash (fold s) ≡ after_last slash s
unfolding after_last
last_fold [] = refl
last_fold (x ∷ s) = rw (lower_eqb slash (omega arith) x, last_fold s)

pub ends_in_fold : (e s : List ℕ) → ends_in e (fold s) ≡ ends_in e s
unfolding ends_in
ends_in_fold e s = rw (length-map s lower, drop_map lower (length s - length e) s, equivalent_folded (drop (length s - length e) s) e)

pub root_fold : (s : List ℕ) → same (fold s) (ascii "/") ≡ same s (ascii "/")
unfolding same
root_fold [] = refl
root_fold (x ∷ []) = rw (lower_eqb slash (omega arith) x)
root_fold (x ∷ y ∷ s) = rw (lower_eqb slash (omega arith) x)

-- two texts that fold to the same
pub equivalent_length : (a b : List ℕ) → fold a ≡ fold b → length a ≡ length b
equivalent_length a b h = sym (length-map a lower) ∙ ap length h ∙ length-map b lower
