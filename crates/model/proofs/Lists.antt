-- Lists of any entries: what holds of each and of every two, which some pass, those that pass.
-- Assumes nothing.
use Prim.Native.Nat.{ℕ, zero, suc, ◌+◌, ◌-◌, ◌≤◌, ◌<◌}
use mathlib.Core.Path.{◌≡◌, refl, ap, ap₂, sym, ◌∙◌}
use mathlib.Core.Bool.{Bool, true, false, ◌&&◌, ◌||◌, cond, true≢false, or-false}
use mathlib.Core.List.{List, [], ◌∷◌, ◌++◌, map}
use native.Mathlib.Omega.{arith}
use lib.Dec.{ltb}
use lib.ListN.{length, get_or, take, drop, length-drop}
use lib.Seq.{slice, length-take-le, get_or-take, get_or-drop, drop-nil, take-append-add, drop-append-add}
use borrow.Author.Tests.{ltb-true, ltb-false, lt-ltb, le-ltb}
use Rattle.model.specs.Sets.{any, filter, Each, AllPairs}
use Rattle.base.proofs.Bools.{or_false_left, or_false_right, not_passing}

-- what stands in a list that was mapped, whatever stands past its end
pub get_or_map_in : {E F : Type 0} (f : E → F) (xs : List E) (n : ℕ) (d : E) (e : F) → n < length xs → get_or (map f xs) n e ≡ f (get_or xs n d)
get_or_map_in f [] n d e l = absurd (omega arith)
get_or_map_in f (x ∷ xs) zero d e l = refl
get_or_map_in f (x ∷ xs) (suc n) d e l = get_or_map_in f xs n d e (omega arith)

module _ {E : Type 0} where
  -- EACH, PAIRS
  pub each_map : (P Q : E → Type 0) (xs : List E) → ((x : E) → P x → Q x) → Each P xs → Each Q xs
  each_map P Q [] f a = tt
  each_map P Q (x ∷ xs) f a = (f x a.0, each_map P Q xs f a.1)

  pub each_both : (P Q R : E → Type 0) (xs : List E) → ((x : E) → P x → Q x → R x) → Each P xs → Each Q xs → Each R xs
  each_both P Q R [] f a b = tt
  each_both P Q R (x ∷ xs) f a b = (f x a.0 b.0, each_both P Q R xs f a.1 b.1)

  pub each_append : (P : E → Type 0) (xs ys : List E) → Each P xs → Each P ys → Each P (xs ++ ys)
  each_append P [] ys a b = b
  each_append P (x ∷ xs) ys a b = (a.0, each_append P xs ys a.1 b)

  pub each_left : (P : E → Type 0) (xs ys : List E) → Each P (xs ++ ys) → Each P xs
  each_left P [] ys a = tt
  each_left P (x ∷ xs) ys a = (a.0, each_left P xs ys a.1)

  pub each_right : (P : E → Type 0) (xs ys : List E) → Each P (xs ++ ys) → Each P ys
  each_right P [] ys a = a
  each_right P (x ∷ xs) ys a = each_right P xs ys a.1

  pub each_all : (P : E → Type 0) → ((x : E) → P x) → (xs : List E) → Each P xs
  each_all P f [] = tt
  each_all P f (x ∷ xs) = (f x, each_all P f xs)

  pub each_at : (P : E → Type 0) (xs : List E) (n : ℕ) (d : E) → n < length xs → Each P xs → P (get_or xs n d)
  each_at P [] n d l h = absurd (omega arith)
  each_at P (x ∷ xs) zero d l h = h.0
  each_at P (x ∷ xs) (suc n) d l h = each_at P xs n d (omega arith) h.1

  pub each_drop : (P : E → Type 0) (n : ℕ) (xs : List E) → Each P xs → Each P (drop n xs)
  each_drop P zero xs h = h
  each_drop P (suc n) [] h = tt
  each_drop P (suc n) (x ∷ xs) h = each_drop P n xs h.1

  pub each_take : (P : E → Type 0) (n : ℕ) (xs : List E) → Each P xs → Each P (take n xs)
  each_take P zero xs h = tt
  each_take P (suc n) [] h = tt
  each_take P (suc n) (x ∷ xs) h = (h.0, each_take P n xs h.1)

  pub pairs_map : (R Q : E → E → Type 0) (xs : List E) → ((x y : E) → R x y → Q x y) → AllPairs R xs → AllPairs Q xs
  pairs_map R Q [] f a = tt
  pairs_map R Q (x ∷ xs) f a = (each_map (R x) (Q x) xs (λ y r. f x y r) a.0, pairs_map R Q xs f a.1)

  pub pairs_drop : (R : E → E → Type 0) (n : ℕ) (xs : List E) → AllPairs R xs → AllPairs R (drop n xs)
  pairs_drop R zero xs h = h
  pairs_drop R (suc n) [] h = tt
  pairs_drop R (suc n) (x ∷ xs) h = pairs_drop R n xs h.1

  pub pairs_take : (R : E → E → Type 0) (n : ℕ) (xs : List E) → AllPairs R xs → AllPairs R (take n xs)
  pairs_take R zero xs h = tt
  pairs_take R (suc n) [] h = tt
  pairs_take R (suc n) (x ∷ xs) h = (each_take (R x) n xs h.0, pairs_take R n xs h.1)

  pub pairs_both : (R Q : E → E → Type 0) (xs : List E) → AllPairs R xs → AllPairs Q xs → AllPairs (λ (x y : E). R x y × Q x y) xs
  pairs_both R Q [] a b = tt
  pairs_both R Q (x ∷ xs) a b = (
    each_both (R x) (Q x) (λ (y : E). R x y × Q x y) xs (λ y p q. (p, q)) a.0 b.0,
    pairs_both R Q xs a.1 b.1,
  )

  -- what holds of each, held together for every two
  pub pairs_each : (P : E → Type 0) (xs : List E) → Each P xs → AllPairs (λ (x y : E). P x × P y) xs
  pairs_each P [] h = tt
  pairs_each P (x ∷ xs) h = (each_map P (λ (y : E). P x × P y) xs (λ y k. (h.0, k)) h.1, pairs_each P xs h.1)

  -- of two entries by their numbers
  pub pairs_at : (R : E → E → Type 0) (xs : List E) (m n : ℕ) (d : E) → m < n → n < length xs → AllPairs R xs →
      R (get_or xs m d) (get_or xs n d)
  pairs_at R [] m n d l k h = absurd (omega arith)
  pairs_at R (x ∷ xs) m zero d l k h = absurd (omega arith)
  pairs_at R (x ∷ xs) zero (suc n) d l k h = each_at (R x) xs n d (omega arith) h.0
  pairs_at R (x ∷ xs) (suc m) (suc n) d l k h = pairs_at R xs m n d (omega arith) (omega arith) h.1

  pub map_each : {B : Type 0} (f g : E → B) (xs : List E) → Each (λ (x : E). f x ≡ g x) xs → map f xs ≡ map g xs
  map_each f g [] h = refl
  map_each f g (x ∷ xs) h = ap₂ ◌∷◌ h.0 (map_each f g xs h.1)

  -- SLICES
  pub slice_map : {F : Type 0} (f : F → E) (m n : ℕ) (xs : List F) → slice m n (map f xs) ≡ map f (slice m n xs)
  slice_map f m zero xs = drop-nil m ∙ sym (ap (map f) (drop-nil m))
  slice_map f m (suc n) [] = drop-nil m ∙ sym (ap (map f) (drop-nil m))
  slice_map f zero (suc n) (x ∷ xs) = ap (λ (l : List E). f x ∷ l) (slice_map f zero n xs)
  slice_map f (suc m) (suc n) (x ∷ xs) = slice_map f m n xs

  pub slice_append : (xs ys : List E) (m n : ℕ) → slice (length xs + m) (length xs + n) (xs ++ ys) ≡ slice m n ys
  slice_append xs ys m n = ap (drop (length xs + m)) (take-append-add xs ys n) ∙ drop-append-add xs (take n ys) m

  -- ANY
  pub any_none : (p : E → Bool) (xs : List E) → any p xs ≡ false → Each (λ (x : E). p x ≡ false) xs
  unfolding any
  any_none p [] h = tt
  any_none p (x ∷ xs) h = (or_false_left (p x) (any p xs) h, any_none p xs (or_false_right (p x) (any p xs) h))

  pub none_any : (p : E → Bool) (xs : List E) → Each (λ (x : E). p x ≡ false) xs → any p xs ≡ false
  unfolding any
  none_any p [] h = refl
  none_any p (x ∷ xs) h = rw h.0 (none_any p xs h.1)

  -- where a test, once passed, is passed by all that follow, some entry passes if the last does
  any_end : (p : E → Bool) (x : E) (xs : List E) (d : E) → AllPairs (λ (x y : E). p x ≡ true → p y ≡ true) (x ∷ xs) →
      any p (x ∷ xs) ≡ p (get_or (x ∷ xs) (length xs) d)
  unfolding any
  any_end p x [] d h = or-false (p x)
  any_end p x (y ∷ xs) d h = ap (λ (b : Bool). p x || b) (any_end p y xs d h.1) ∙ go (p x) refl
    where
      end : Bool
      end = p (get_or (y ∷ xs) (length xs) d)

      go : (b : Bool) → p x ≡ b → (b || end) ≡ end
      go true f = sym (each_at (λ (z : E). p x ≡ true → p z ≡ true) (y ∷ xs) (length xs) d (omega arith) h.0 f)
      go false f = refl

  pub any_last : (p : E → Bool) (xs : List E) (d : E) → AllPairs (λ (x y : E). p x ≡ true → p y ≡ true) xs →
      any p xs ≡ (ltb 0 (length xs) && p (get_or xs (length xs - 1) d))
  unfolding any
  any_last p [] d h = refl
  any_last p (x ∷ xs) d h =
      let e : suc (length xs) - 1 ≡ length xs = omega arith in
      any_end p x xs d h ∙ sym (rw (lt-ltb 0 (suc (length xs)) (omega arith), e))

  -- where it is passed by all that stand before, some entry passes if the first does
  pub any_head : (p : E → Bool) (xs : List E) (d : E) → AllPairs (λ (x y : E). p y ≡ true → p x ≡ true) xs →
      any p xs ≡ (ltb 0 (length xs) && p (get_or xs 0 d))
  unfolding any
  any_head p [] d h = refl
  any_head p (x ∷ xs) d h = go (p x) refl ∙ sym (rw (lt-ltb 0 (suc (length xs)) (omega arith)))
    where
      go : (b : Bool) → p x ≡ b → (b || any p xs) ≡ b
      go true e = refl
      go false e = none_any p xs (each_map (λ (y : E). p y ≡ true → p x ≡ true) (λ (y : E). p y ≡ false) xs
          (λ y f. not_passing (p y) (λ g. true≢false (sym (f g) ∙ e))) h.0)

  -- the last of the first n, and the first of the others
  pub last_of_take : (p : E → Bool) (n : ℕ) (xs : List E) (d : E) → n ≤ length xs →
      (ltb 0 (length (take n xs)) && p (get_or (take n xs) (length (take n xs) - 1) d)) ≡ (ltb 0 n && p (get_or xs (n - 1) d))
  last_of_take p n xs d l = rw (length-take-le n xs l) (go (ltb 0 n) refl)
    where
      go : (b : Bool) → ltb 0 n ≡ b → (b && p (get_or (take n xs) (n - 1) d)) ≡ (b && p (get_or xs (n - 1) d))
      go true e = let k : 0 < n = ltb-true 0 n e in ap p (get_or-take n xs (n - 1) d (omega arith))
      go false e = refl

  pub head_of_drop : (p : E → Bool) (n : ℕ) (xs : List E) (d : E) → (ltb 0 (length (drop n xs)) && p (get_or (drop n xs) 0 d))
      ≡ (ltb n (length xs) && p (get_or xs n d))
  head_of_drop p n xs d =
      let z : n + 0 ≡ n = omega arith in
      rw (length-drop, get_or-drop n xs 0 d, z) (go (ltb n (length xs)) refl)
    where
      go : (b : Bool) → ltb n (length xs) ≡ b → (ltb 0 (length xs - n) && p (get_or xs n d)) ≡ (b && p (get_or xs n d))
      go true e = rw (lt-ltb 0 (length xs - n) (omega (arith, ltb-true n (length xs) e)))
      go false e = rw (le-ltb 0 (length xs - n) (omega (arith, ltb-false n (length xs) e)))

  -- none that passes q passes p
  pub any_filter_none : (p q : E → Bool) (xs : List E) → any p (filter q xs) ≡ false → Each (λ (x : E). q x ≡ true → p x ≡ false) xs
  unfolding any filter
  any_filter_none p q [] h = tt
  any_filter_none p q (x ∷ xs) h = go (q x) refl h (any_filter_none p q xs)
    where
      go :
          (b : Bool) → q x ≡ b → any p (cond b (x ∷ filter q xs) (filter q xs)) ≡ false →
          (any p (filter q xs) ≡ false → Each (λ (y : E). q y ≡ true → p y ≡ false) xs) →
          (q x ≡ true → p x ≡ false) × Each (λ (y : E). q y ≡ true → p y ≡ false) xs
      go true e h k = ((λ f. or_false_left (p x) (any p (filter q xs)) h), k (or_false_right (p x) (any p (filter q xs)) h))
      go false e h k = ((λ f. absurd (true≢false (sym f ∙ e))), k h)

  pub any_filter : (p q : E → Bool) (xs : List E) → any p (filter q xs) ≡ any (λ (x : E). q x && p x) xs
  unfolding any filter
  any_filter p q [] = refl
  any_filter p q (x ∷ xs) = go (q x) (any_filter p q xs)
    where
      go : (t : Bool) → any p (filter q xs) ≡ any (λ (x : E). q x && p x) xs → any p (cond t (x ∷ filter q xs) (filter q xs))
          ≡ (t && p x || any (λ (x : E). q x && p x) xs)
      go true e = ap (λ (t : Bool). p x || t) e
      go false e = e

  pub any_same : (p q : E → Bool) → ((x : E) → p x ≡ q x) → (xs : List E) → any p xs ≡ any q xs
  unfolding any
  any_same p q e [] = refl
  any_same p q e (x ∷ xs) = rw (e x, any_same p q e xs)

  pub any_append : (p : E → Bool) (xs ys : List E) → any p (xs ++ ys) ≡ (any p xs || any p ys)
  unfolding any
  any_append p [] ys = refl
  any_append p (x ∷ xs) ys = go (p x) (any_append p xs ys)
    where
      go : (t : Bool) → any p (xs ++ ys) ≡ (any p xs || any p ys) → (t || any p (xs ++ ys)) ≡ (t || any p xs || any p ys)
      go true e = refl
      go false e = e

  pub any_map : {F : Type 0} (f : F → E) (p : E → Bool) (xs : List F) → any p (map f xs) ≡ any (λ (x : F). p (f x)) xs
  unfolding any
  any_map f p [] = refl
  any_map f p (x ∷ xs) = ap (λ (t : Bool). p (f x) || t) (any_map f p xs)

  -- FILTER
  pub filter_append : (p : E → Bool) (xs ys : List E) → filter p (xs ++ ys) ≡ filter p xs ++ filter p ys
  unfolding filter
  filter_append p [] ys = refl
  filter_append p (x ∷ xs) ys = go (p x) (filter_append p xs ys)
    where
      go : (q : Bool) → filter p (xs ++ ys) ≡ filter p xs ++ filter p ys → cond q (x ∷ filter p (xs ++ ys)) (filter p (xs ++ ys))
          ≡ cond q (x ∷ filter p xs) (filter p xs) ++ filter p ys
      go true h = ap (λ (l : List E). x ∷ l) h
      go false h = h

  pub filter_all : (p : E → Bool) (xs : List E) → Each (λ (x : E). p x ≡ true) xs → filter p xs ≡ xs
  unfolding filter
  filter_all p [] h = refl
  filter_all p (x ∷ xs) h = rw h.0 (ap (λ (l : List E). x ∷ l) (filter_all p xs h.1))

  pub filter_none : (p : E → Bool) (xs : List E) → Each (λ (x : E). p x ≡ false) xs → filter p xs ≡ []
  unfolding filter
  filter_none p [] h = refl
  filter_none p (x ∷ xs) h = rw h.0 (filter_none p xs h.1)

  pub filter_filter : (p q : E → Bool) (xs : List E) → ((x : E) → p x ≡ q x) → filter p (filter q xs) ≡ filter p xs
  unfolding filter
  filter_filter p q [] e = refl
  filter_filter p q (x ∷ xs) e = go (p x) refl (q x) refl (filter_filter p q xs e)
    where
      go : (b : Bool) → p x ≡ b → (c : Bool) → q x ≡ c → filter p (filter q xs) ≡ filter p xs →
          filter p (cond c (x ∷ filter q xs) (filter q xs)) ≡ cond b (x ∷ filter p xs) (filter p xs)
      go true f true g h = rw f (ap (λ (l : List E). x ∷ l) h)
      go false f true g h = rw f h
      go true f false g h = absurd (true≢false (sym f ∙ e x ∙ g))
      go false f false g h = h

  pub each_filter : (P Q : E → Type 0) (p : E → Bool) (xs : List E) → ((x : E) → p x ≡ true → P x → Q x) → Each P xs → Each Q (filter p xs)
  unfolding filter
  each_filter P Q p [] f h = tt
  each_filter P Q p (x ∷ xs) f h = go (p x) refl (each_filter P Q p xs f h.1)
    where
      go : (b : Bool) → p x ≡ b → Each Q (filter p xs) → Each Q (cond b (x ∷ filter p xs) (filter p xs))
      go true e k = (f x e h.0, k)
      go false e k = k

  pub pairs_filter : (R Q : E → E → Type 0) (p : E → Bool) (xs : List E) → ((x y : E) → p x ≡ true → p y ≡ true → R x y → Q x y) →
      AllPairs R xs → AllPairs Q (filter p xs)
  unfolding filter
  pairs_filter R Q p [] f h = tt
  pairs_filter R Q p (x ∷ xs) f h = go (p x) refl (pairs_filter R Q p xs f h.1)
    where
      go : (b : Bool) → p x ≡ b → AllPairs Q (filter p xs) → AllPairs Q (cond b (x ∷ filter p xs) (filter p xs))
      go true e k = (each_filter (R x) (Q x) p xs (λ y g r. f x y e g r) h.0, k)
      go false e k = k

  pub length_filter : (p : E → Bool) (xs : List E) → length (filter p xs) ≤ length xs
  unfolding filter
  length_filter p [] = omega arith
  length_filter p (x ∷ xs) = go (p x) (length_filter p xs)
    where
      go : (b : Bool) → length (filter p xs) ≤ length xs → length (cond b (x ∷ filter p xs) (filter p xs)) ≤ suc (length xs)
      go true h = omega arith
      go false h = omega arith
