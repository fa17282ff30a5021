-- The same bytes at the beginning of two texts.
-- Assumes nothing.
use mathlib.Core.Path.{◌≡◌, refl, sym, ap, ap₂, ◌∙◌}
use mathlib.Core.Bool.{Bool, true, false, ◌&&◌, ◌||◌}
use mathlib.Core.List.{List, [], ◌∷◌, map, map-append}
use Prim.Native.Nat.{ℕ, zero, suc, ◌+◌, ◌≤◌, ◌<◌}
use native.Mathlib.Numerals.{add-one}
use native.Mathlib.Omega.{arith}
use lib.Dec.{eqb}
use lib.ListN.{length, take, drop, get_or, length-drop}
use lib.Seq.{take-add, get_or-drop}
use borrow.Author.Tests.{le-ltb, eq-eqb}
use Rattle.chars.specs.Lists.{same, every}
use Rattle.chars.specs.Folding.{lower, fold, equivalent, order}
use Rattle.chars.specs.Comparing.{as_is, same_eight}
use Rattle.base.proofs.Bools.{and_right_true, and_assoc}
use Rattle.chars.proofs.Equivalence.{same_eq}

-- one byte more
pub every_next : (p : ℕ → Bool) (s : List ℕ) (k : ℕ) → k < length s → every p (take (suc k) s) ≡ every p (take k s) && p (get_or s k 0)
unfolding every
every_next p [] k h = absurd (omega arith)
every_next p (x ∷ s) zero h = and_right_true (p x)
every_next p (x ∷ s) (suc k) h = ap (λ (t : Bool). p x && t) (every_next p s k (omega arith)) ∙ sym (and_assoc (p x) (every p (take k s)) (p (get_or s k 0)))

pub same_next : (f g : ℕ → ℕ) (a b : List ℕ) (k : ℕ) → k < length a → k < length b →
    same (map f (take (suc k) a)) (map g (take (suc k) b)) ≡ same (map f (take k a)) (map g (take k b)) && eqb (f (get_or a k 0)) (g (get_or b k 0))
unfolding same
same_next f g [] b k h m = absurd (omega arith)
same_next f g (x ∷ a) [] k h m = absurd (omega arith)
same_next f g (x ∷ a) (y ∷ b) zero h m = and_right_true (eqb (f x) (g y))
same_next f g (x ∷ a) (y ∷ b) (suc k) h m =
    ap (λ (t : Bool). eqb (f x) (g y) && t) (same_next f g a b k (omega arith) (omega arith))
    ∙ sym (and_assoc (eqb (f x) (g y)) (same (map f (take k a)) (map g (take k b))) (eqb (f (get_or a k 0)) (g (get_or b k 0))))

-- the first k of eight bytes
pub every_eight : (p : ℕ → Bool) (s : List ℕ) (i k : ℕ) → i + 8 ≤ length s → k < 8 → (t z : Bool) → t ≡ every p (take k (drop i s)) → z ≡ p (get_or s (i + k) 0)
    → (t && z) ≡ every p (take (k + 1) (drop i s))
every_eight p s i k h l t z e ez = rw add-one (
    ap₂ ◌&&◌ e (ez ∙ ap p (sym (get_or-drop i s k 0))) ∙ sym (every_next p (drop i s) k (omega (arith, length-drop i s))))

pub every_all : (p : ℕ → Bool) (s : List ℕ) (i k : ℕ) (t : Bool) → t ≡ every p (take k (drop i s)) → k ≤ 8 → 8 ≤ k → t ≡ every p (take 8 (drop i s))
every_all p s i k t e h l = let n : k ≡ 8 = omega arith in rw n at e

module _ (f g : ℕ → ℕ) (a b : List ℕ) (i k : ℕ) (t : Bool) (e : t ≡ same (map f (take k (drop i a))) (map g (take k (drop i b)))) where
  pub eight_next : i + 8 ≤ length a → i + 8 ≤ length b → k < 8 → (x y : ℕ) → x ≡ f (get_or a (i + k) 0) → y ≡ g (get_or b (i + k) 0)
      → (t && eqb x y) ≡ same (map f (take (k + 1) (drop i a))) (map g (take (k + 1) (drop i b)))
  eight_next h m l x y ex ey = rw add-one (
      ap₂ ◌&&◌ e (ap₂ eqb (ex ∙ ap f (sym (get_or-drop i a k 0))) (ey ∙ ap g (sym (get_or-drop i b k 0))))
      ∙ sym (same_next f g (drop i a) (drop i b) k (omega (arith, length-drop i a)) (omega (arith, length-drop i b))))

  pub eight_all : k ≤ 8 → 8 ≤ k → t ≡ same_eight f g a b i
  unfolding same_eight
  eight_all h l = let n : k ≡ 8 = omega arith in rw n at e

pub same_none : (f g : ℕ → ℕ) (a b : List ℕ) → true ≡ same (map f (take 0 a)) (map g (take 0 b))
unfolding same
same_none f g a b = refl

pub map_as_is : (l : List ℕ) → map as_is l ≡ l
map_as_is [] = refl
map_as_is (x ∷ l) = ap (λ (t : List ℕ). x ∷ t) (map_as_is l)

pub same_eight_eq : (f g : ℕ → ℕ) (a b : List ℕ) (i : ℕ) → same_eight f g a b i ≡ true → map f (take 8 (drop i a)) ≡ map g (take 8 (drop i b))
unfolding same_eight
same_eight_eq f g a b i e = same_eq _ _ e

-- what is the same as it stands is the same however it is read
pub agree_eq : (f : ℕ → ℕ) (a b : List ℕ) (i : ℕ) → (same_eight as_is as_is a b i || same_eight f f a b i) ≡ true → map f (take 8 (drop i a)) ≡ map f (take 8 (drop i b))
agree_eq f a b i e = go (same_eight as_is as_is a b i) refl e
  where
    go : (p : Bool) → same_eight as_is as_is a b i ≡ p → (p || same_eight f f a b i) ≡ true → map f (take 8 (drop i a)) ≡ map f (take 8 (drop i b))
    go true h g = ap (map f) (sym (map_as_is (take 8 (drop i a))) ∙ same_eight_eq as_is as_is a b i h ∙ map_as_is (take 8 (drop i b)))
    go false h g = same_eight_eq f f a b i g

-- k bytes more that are the same
pub take_longer : (f : ℕ → ℕ) (a b : List ℕ) (i k : ℕ) → map f (take i a) ≡ map f (take i b) → map f (take k (drop i a)) ≡ map f (take k (drop i b))
    → map f (take (i + k) a) ≡ map f (take (i + k) b)
take_longer f a b i k e g = rw (take-add i k a, take-add i k b, map-append f (take i a) (take k (drop i a)), map-append f (take i b) (take k (drop i b)), e, g)

head_same : (x y : ℕ) (a b : List ℕ) → ◌≡◌ {A = List ℕ} (x ∷ a) (y ∷ b) → x ≡ y
head_same x y a b e = ap (λ (l : List ℕ). get_or l 0 0) e

tail_same : (x y : ℕ) (a b : List ℕ) → ◌≡◌ {A = List ℕ} (x ∷ a) (y ∷ b) → a ≡ b
tail_same x y a b e = ap (λ (l : List ℕ). drop 1 l) e

pub equivalent_skip : (i : ℕ) (a b : List ℕ) → i ≤ length a → i ≤ length b → fold (take i a) ≡ fold (take i b) → equivalent a b ≡ equivalent (drop i a) (drop i b)
unfolding equivalent same
equivalent_skip zero a b h g e = refl
equivalent_skip (suc i) [] b h g e = absurd (omega arith)
equivalent_skip (suc i) (x ∷ a) [] h g e = absurd (omega arith)
equivalent_skip (suc i) (x ∷ a) (y ∷ b) h g e =
    rw (head_same (lower x) (lower y) (fold (take i a)) (fold (take i b)) e, eq-eqb (lower y) (lower y) refl) (equivalent_skip i a b (omega arith) (omega arith) (tail_same (lower x) (lower y) (fold (take i a)) (fold (take i b)) e))

pub order_skip : (f : ℕ → ℕ) (i : ℕ) (a b : List ℕ) → i ≤ length a → i ≤ length b → map f (take i a) ≡ map f (take i b) → order (map f a) (map f b) ≡ order (map f (drop i a)) (map f (drop i b))
unfolding order
order_skip f zero a b h g e = refl
order_skip f (suc i) [] b h g e = absurd (omega arith)
order_skip f (suc i) (x ∷ a) [] h g e = absurd (omega arith)
order_skip f (suc i) (x ∷ a) (y ∷ b) h g e =
    rw (head_same (f x) (f y) (map f (take i a)) (map f (take i b)) e, le-ltb (f y) (f y) (omega arith)) (order_skip f i a b (omega arith) (omega arith) (tail_same (f x) (f y) (map f (take i a)) (map f (take i b)) e))
