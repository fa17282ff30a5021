-- Derivability is transitive and irreflexive, and can be read off the bytes as they stand.
-- Assumes nothing.
use Prim.Native.Nat.{ℕ, ◌+◌, ◌≤◌, ◌<◌}
use mathlib.Core.Path.{◌≡◌, refl, ap, sym, ◌∙◌}
use mathlib.Core.Bool.{Bool, true, false, ◌&&◌}
use mathlib.Core.List.{List, [], ◌∷◌, ◌++◌, append_assoc}
use native.Mathlib.Numerals.{add-one}
use native.Mathlib.Omega.{arith}
use lib.Dec.{ltb, eqb}
use lib.ListN.{length, take, drop, get_or, length-append, length-map, take-append-drop}
use lib.Seq.{take-suc, take-append_seam, length-take-le}
use borrow.Author.Tests.{ltb-true, lt-ltb, le-ltb}
use Rattle.chars.specs.Bytes.{slash}
use Rattle.chars.specs.Lists.{same, begins}
use Rattle.chars.specs.Folding.{lower, fold, equivalent, derivable}
use Rattle.base.proofs.Bools.{and_left, and_right, and_false, and_right_true}
use Rattle.chars.proofs.Equivalence.{same_eq, same_refl}
use Rattle.chars.proofs.Foldings.{get_or_fold, lower_eqb}
use Rattle.chars.proofs.FoldedTexts.{take_map}

-- a text that begins with t is t, then the rest
pub begins_split : (t s : List ℕ) → begins t s ≡ true → s ≡ t ++ drop (length t) s
unfolding begins
begins_split t s e =
    let f : take (length t) s ≡ t = same_eq (take (length t) s) t e in
    sym (take-append-drop (length t) s) ∙ ap (λ (l : List ℕ). l ++ drop (length t) s) f

pub begins_append : (t r : List ℕ) → begins t (t ++ r) ≡ true
unfolding begins
begins_append t r = rw (take-append_seam t r) (same_refl t)

-- "B's, then a slash"
abbrev stem : List ℕ → List ℕ
stem b = fold b ++ slash ∷ []

stem_length : (b : List ℕ) → length (stem b) ≡ length b + 1
stem_length b = length-append (fold b) (slash ∷ []) ∙ ap (λ (n : ℕ). n + 1) (length-map b lower)

pub derivable_longer : (a b : List ℕ) → derivable a b ≡ true → length b + 1 < length a
unfolding derivable
derivable_longer a b e = ltb-true _ _ (and_right (begins (stem b) (fold a)) (ltb (length b + 1) (length a)) e)

-- "A's folding is B's, then a slash, then more"
pub derivable_split : (a b : List ℕ) → derivable a b ≡ true → fold a ≡ (fold b ++ slash ∷ []) ++ drop (length b + 1) (fold a)
unfolding derivable
derivable_split a b e =
    rw stem_length at (begins_split (stem b) (fold a) (and_left (begins (stem b) (fold a)) (ltb (length b + 1) (length a)) e))

pub derivable_join : (a b r : List ℕ) → fold a ≡ (fold b ++ slash ∷ []) ++ r → 0 < length r → derivable a b ≡ true
unfolding derivable
derivable_join a b r e h =
    let n : length a ≡ length b + 1 + length r = sym (length-map a lower) ∙ ap length e ∙ length-append (stem b) r ∙ ap (λ (k : ℕ). k + length r) (stem_length b) in
    rw (lt-ltb (length b + 1) (length a) (omega arith), e, begins_append (stem b) r)

pub derivable_irrefl : (a : List ℕ) → derivable a a ≡ true → ⊥
derivable_irrefl a e = omega (arith, derivable_longer a a e)

pub derivable_trans : (a b c : List ℕ) → derivable a b ≡ true → derivable b c ≡ true → derivable a c ≡ true
derivable_trans a b c e f =
    let q = drop (length c + 1) (fold b) in
    let r = drop (length b + 1) (fold a) in
    derivable_join a c (q ++ (slash ∷ [] ++ r))
    (derivable_split a b e ∙ ap (λ (l : List ℕ). (l ++ slash ∷ []) ++ r) (derivable_split b c f) ∙ simp append_assoc)
    (simp length-append (omega arith))

-- THE BYTES AS THEY STAND. Folding moves nothing to or from a slash
same_snoc : (x y : List ℕ) (u v : ℕ) → length x ≡ length y → same (x ++ u ∷ []) (y ++ v ∷ []) ≡ same x y && eqb u v
unfolding same
same_snoc [] [] u v h = and_right_true (eqb u v)
same_snoc [] (b ∷ y) u v h = absurd (omega arith)
same_snoc (a ∷ x) [] u v h = absurd (omega arith)
same_snoc (a ∷ x) (b ∷ y) u v h = rw (same_snoc x y u v (omega arith)) (go (eqb a b))
  where
    go : (p : Bool) → (p && (same x y && eqb u v)) ≡ (p && same x y && eqb u v)
    go true = refl
    go false = refl

stem_taken : (a b : List ℕ) → length b < length a → take (length (fold b ++ slash ∷ [])) (fold a) ≡ fold (take (length b) a) ++ lower (get_or a (length b) 0) ∷ []
stem_taken a b h =
    let l : length b < length (fold a) = rw (length-map a lower) h in
    ap (λ (k : ℕ). take k (fold a)) (stem_length b ∙ add-one (length b)) ∙ take-suc (fold a) (length b) 0 l ∙ rw (get_or_fold a (length b), take_map lower (length b) a)

pub derivable_is : (a b : List ℕ) → length b + 1 < length a → derivable a b ≡ equivalent (take (length b) a) b && eqb (get_or a (length b) 0) slash
unfolding derivable begins equivalent
derivable_is a b h =
    let n : length (fold (take (length b) a)) ≡ length (fold b) =
    length-map (take (length b) a) lower ∙ length-take-le (length b) a (omega arith) ∙ sym (length-map b lower) in
    rw (lt-ltb (length b + 1) (length a) h, stem_taken a b (omega arith), same_snoc (fold (take (length b) a)) (fold b) (lower (get_or a (length b) 0)) slash n, lower_eqb slash (omega arith)) (and_right_true _)

pub not_derivable : (a b : List ℕ) → length a ≤ length b + 1 → derivable a b ≡ false
unfolding derivable
not_derivable a b h = rw (le-ltb (length b + 1) (length a) h, and_false)
