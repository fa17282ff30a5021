-- Rows given one by one: a row put in, a row taken out.
-- Assumes nothing.
use mathlib.Core.Path.{◌≡◌, refl, sym, ap, ◌∙◌}
use mathlib.Core.Bool.{cond}
use Prim.Native.Nat.{ℕ, zero, suc, ◌+◌, ◌≤◌, ◌<◌}
use mathlib.Core.List.{List, [], ◌∷◌}
use native.Mathlib.Omega.{arith}
use native.Mathlib.Nat.{suc-add}
use lib.Dec.{eqb}
use lib.ListN.{length, get_or}
use borrow.Author.Tests.{eq-eqb, ne_eqb}
use Rattle.base.proofs.Cases.{by_value}
use Rattle.store.specs.Rows.{Row, no_row, tabulate, insert_at, remove_at, replace_at, total, row_size}

pub tabulate_same : (n : ℕ) (f g : ℕ → Row) → ((i : ℕ) → i < n → g i ≡ f i) → tabulate n g ≡ tabulate n f
unfolding tabulate
tabulate_same zero f g e = refl
tabulate_same (suc n) f g e =
    ap (λ (x : Row). x ∷ tabulate n (λ k. g (suc k))) (e zero (omega arith))
    ∙ ap (λ (l : List Row). f zero ∷ l) (tabulate_same n (λ k. f (suc k)) (λ k. g (suc k)) (λ i h. e (suc i) (omega arith)))

pub tabulate_insert : (r n : ℕ) (f g : ℕ → Row) (x : Row) → r ≤ n → ((i : ℕ) → i < r → g i ≡ f i) → g r ≡ x → ((i : ℕ) → r ≤ i → i < n → g (suc i) ≡ f i)
    → tabulate (suc n) g ≡ insert_at r x (tabulate n f)
unfolding tabulate insert_at
tabulate_insert zero n f g x h lo at hi =
    ap (λ (y : Row). y ∷ tabulate n (λ k. g (suc k))) at ∙ ap (λ (l : List Row). x ∷ l) (tabulate_same n f (λ k. g (suc k)) (λ i b. hi i (omega arith) b))
tabulate_insert (suc r) zero f g x h lo at hi = absurd (omega arith)
tabulate_insert (suc r) (suc n) f g x h lo at hi =
    ap (λ (y : Row). y ∷ tabulate (suc n) (λ k. g (suc k))) (lo zero (omega arith))
    ∙ ap (λ (l : List Row). f zero ∷ l)
    (tabulate_insert r n (λ k. f (suc k)) (λ k. g (suc k)) x (omega arith) (λ i b. lo (suc i) (omega arith)) at (λ i b q. hi (suc i) (omega arith) (omega arith)))

pub tabulate_remove : (r n : ℕ) (f g : ℕ → Row) → r ≤ n → ((i : ℕ) → i < r → g i ≡ f i) → ((i : ℕ) → r ≤ i → i < n → g i ≡ f (suc i))
    → tabulate n g ≡ remove_at r (tabulate (suc n) f)
unfolding tabulate remove_at
tabulate_remove zero n f g h lo hi = tabulate_same n (λ k. f (suc k)) g (λ i b. hi i (omega arith) b)
tabulate_remove (suc r) zero f g h lo hi = absurd (omega arith)
tabulate_remove (suc r) (suc n) f g h lo hi =
    ap (λ (y : Row). y ∷ tabulate n (λ k. g (suc k))) (lo zero (omega arith))
    ∙ rw suc-add (ap (λ (l : List Row). f zero ∷ l)
    (tabulate_remove r n (λ k. f (suc k)) (λ k. g (suc k)) (omega arith) (λ i b. lo (suc i) (omega arith)) (λ i b q. hi (suc i) (omega arith) (omega arith))))

pub tabulate_replace : (r n : ℕ) (f g : ℕ → Row) (x : Row) → r < n → g r ≡ x → ((i : ℕ) → i < n → (i ≡ r → ⊥) → g i ≡ f i) → tabulate n g ≡ replace_at r x (tabulate n f)
unfolding tabulate replace_at
tabulate_replace r zero f g x h at e = absurd (omega arith)
tabulate_replace zero (suc n) f g x h at e =
    ap (λ (y : Row). y ∷ tabulate n (λ k. g (suc k))) at
    ∙ ap (λ (l : List Row). x ∷ l) (tabulate_same n (λ k. f (suc k)) (λ k. g (suc k)) (λ i b. e (suc i) (omega arith) (λ z. omega arith)))
tabulate_replace (suc r) (suc n) f g x h at e =
    ap (λ (y : Row). y ∷ tabulate n (λ k. g (suc k))) (e zero (omega arith) (λ z. omega arith))
    ∙ rw suc-add (ap (λ (l : List Row). f zero ∷ l)
    (tabulate_replace r n (λ k. f (suc k)) (λ k. g (suc k)) x (omega arith) at (λ i b z. e (suc i) (omega arith) (λ y. z (omega arith)))))

-- two rows in the place of others
pub tabulate_replace_two : (i j n : ℕ) (f g : ℕ → Row) (x y : Row) → i < n → j < n → (i ≡ j → ⊥) → g i ≡ x → g j ≡ y
    → ((h : ℕ) → h < n → (h ≡ i → ⊥) → (h ≡ j → ⊥) → g h ≡ f h) → tabulate n g ≡ replace_at i x (replace_at j y (tabulate n f))
tabulate_replace_two i j n f g x y hi hj ne gi gj e =
    tabulate_replace i n between g x hi gi (λ h q z. by_value (λ (k : ℕ). g k ≡ between k) h j (gj ∙ sym between_here) (λ v. e h q z v ∙ sym (between_other h v)))
    ∙ ap (replace_at i x) (tabulate_replace j n f between y hj between_here (λ h q z. between_other h z))
  where
    between : ℕ → Row
    between h = cond (eqb h j) y (f h)

    between_here : between j ≡ y
    between_here = rw (eq-eqb j j refl) refl

    between_other : (h : ℕ) → (h ≡ j → ⊥) → between h ≡ f h
    between_other h v = rw (ne_eqb h j v) refl

pub length_tabulate : (n : ℕ) (f : ℕ → Row) → length (tabulate n f) ≡ n
unfolding tabulate
length_tabulate zero f = refl
length_tabulate (suc n) f = ap suc (length_tabulate n (λ k. f (suc k)))

pub get_or_tabulate : (n : ℕ) (f : ℕ → Row) (i : ℕ) → i < n → get_or (tabulate n f) i no_row ≡ f i
unfolding tabulate
get_or_tabulate zero f i h = absurd (omega arith)
get_or_tabulate (suc n) f zero h = refl
get_or_tabulate (suc n) f (suc i) h = get_or_tabulate n (λ k. f (suc k)) i (omega arith)

-- a row put in, taken out or replaced: the size of the rows
pub total_insert : (r : ℕ) (x : Row) (l : List Row) → total (insert_at r x l) ≡ row_size x + total l
unfolding total insert_at
total_insert zero x l = refl
total_insert (suc r) x [] = refl
total_insert (suc r) x (y ∷ l) = let e = total_insert r x l in omega arith

pub total_remove : (r : ℕ) (l : List Row) → r < length l → total (remove_at r l) + row_size (get_or l r no_row) ≡ total l
unfolding total remove_at
total_remove r [] h = absurd (omega arith)
total_remove zero (y ∷ l) h = omega arith
total_remove (suc r) (y ∷ l) h = let e = total_remove r l (omega arith) in rw (suc-add r 1) (omega arith)

pub total_replace : (r : ℕ) (x : Row) (l : List Row) → r < length l → total (replace_at r x l) + row_size (get_or l r no_row) ≡ row_size x + total l
unfolding total replace_at
total_replace r x [] h = absurd (omega arith)
total_replace zero x (y ∷ l) h = omega arith
total_replace (suc r) x (y ∷ l) h = let e = total_replace r x l (omega arith) in rw (suc-add r 1) (omega arith)

pub length_replace : (r : ℕ) (x : Row) (l : List Row) → r < length l → length (replace_at r x l) ≡ length l
unfolding replace_at
length_replace r x [] h = absurd (omega arith)
length_replace zero x (y ∷ l) h = refl
length_replace (suc r) x (y ∷ l) h = rw (suc-add r 1) (ap suc (length_replace r x l (omega arith)))

pub get_or_replace : (r i : ℕ) (x : Row) (l : List Row) → r < length l → (i ≡ r → ⊥) → get_or (replace_at r x l) i no_row ≡ get_or l i no_row
unfolding replace_at
get_or_replace r i x [] h ne = absurd (omega arith)
get_or_replace zero zero x (y ∷ l) h ne = absurd (ne refl)
get_or_replace zero (suc i) x (y ∷ l) h ne = refl
get_or_replace (suc r) zero x (y ∷ l) h ne = refl
get_or_replace (suc r) (suc i) x (y ∷ l) h ne = rw (suc-add r 1) (get_or_replace r i x l (omega arith) (λ z. ne (ap suc z)))
