-- Rows put in, taken out and replaced between those before and those behind them.
-- Assumes nothing.
use mathlib.Core.Path.{◌≡◌, sym, ap, ap₂, ◌∙◌}
use Prim.Native.Nat.{ℕ, ◌+◌}
use mathlib.Core.List.{List, [], ◌∷◌, ◌++◌, append_assoc}
use native.Mathlib.Omega.{arith}
use lib.ListN.{length, get_or, drop, length-append}
use lib.Seq.{take_at, drop_at, drop-drop, get_or-append-add}
use Rattle.store.specs.Layout.{count_of}
use Rattle.store.specs.Rows.{Row, no_row, row_at, rows_of, insert_at, remove_at, replace_at}
use Rattle.store.proofs.Headers.{rows_count, row_get_or}

-- a is so long as r says
module _ (a : List Row) (r : ℕ) (e : length a ≡ r) where
  pub insert_here : (x : Row) (c : List Row) → insert_at r x (a ++ c) ≡ a ++ (x ∷ c)
  unfolding insert_at
  insert_here x c = ap₂ (λ (p q : List Row). p ++ (x ∷ q)) (take_at a c r e) (drop_at a c r e)

  past : (x : Row) (c : List Row) → drop (r + 1) (a ++ (x ∷ c)) ≡ c
  past x c = sym (drop-drop 1 r (a ++ (x ∷ c))) ∙ ap (drop 1) (drop_at a (x ∷ c) r e)

  pub replace_here : (x y : Row) (c : List Row) → replace_at r x (a ++ (y ∷ c)) ≡ a ++ (x ∷ c)
  unfolding replace_at
  replace_here x y c = ap₂ (λ (p q : List Row). p ++ (x ∷ q)) (take_at a (y ∷ c) r e) (past y c)

  pub remove_here : (y : Row) (c : List Row) → remove_at r (a ++ (y ∷ c)) ≡ a ++ c
  unfolding remove_at
  remove_here y c = ap₂ (λ (p q : List Row). p ++ q) (take_at a (y ∷ c) r e) (past y c)

  get_or_here : (x : Row) (c : List Row) → get_or (a ++ (x ∷ c)) r no_row ≡ x
  get_or_here x c =
      let f : r ≡ length a + 0 = omega arith in
      ap (λ (k : ℕ). get_or (a ++ (x ∷ c)) k no_row) f ∙ get_or-append-add a (x ∷ c) 0 no_row

  -- the same one row further on
  one_on : (w : Row) → length (a ++ (w ∷ [])) ≡ r + 1
  one_on w = length-append a (w ∷ []) ∙ omega arith

  regroup : (w : Row) (c : List Row) → a ++ (w ∷ c) ≡ (a ++ (w ∷ [])) ++ c
  regroup w c = sym (append_assoc a (w ∷ []) c)

-- and r rows stand before these in a buffer
module _ (b : List ℕ) (a : List Row) (r : ℕ) (e : length a ≡ r) where
  module _ (x : Row) (c : List Row) (h : rows_of b ≡ a ++ (x ∷ c)) where
    pub count_at : count_of b ≡ r + (1 + length c)
    count_at = sym (rows_count b) ∙ ap length h ∙ length-append a (x ∷ c) ∙ omega arith

    pub row_at_lem : row_at b r ≡ x
    row_at_lem = sym (row_get_or b r (omega (arith, count_at))) ∙ ap (λ (l : List Row). get_or l r no_row) h ∙ get_or_here a r e x c

  module _ (x y : Row) (c : List Row) (h : rows_of b ≡ a ++ (x ∷ y ∷ c)) where
    behind : rows_of b ≡ (a ++ (x ∷ [])) ++ (y ∷ c)
    behind = h ∙ regroup a r e x (y ∷ c)

    pub row_behind : row_at b (r + 1) ≡ y
    row_behind = sym (row_get_or b (r + 1) (omega (arith, count_at x (y ∷ c) h))) ∙ ap (λ (l : List Row). get_or l (r + 1) no_row) behind ∙ get_or_here (a ++ (x ∷ [])) (r + 1) (one_on a r e x) y c

module _ (a : List Row) (r : ℕ) (e : length a ≡ r) where
  pub insert_behind : (w x : Row) (c : List Row) → insert_at (r + 1) x (a ++ (w ∷ c)) ≡ a ++ (w ∷ x ∷ c)
  insert_behind w x c =
      ap (insert_at (r + 1) x) (regroup a r e w c) ∙ insert_here (a ++ (w ∷ [])) (r + 1) (one_on a r e w) x c ∙ sym (regroup a r e w (x ∷ c))

  pub replace_behind : (w x y : Row) (c : List Row) → replace_at (r + 1) x (a ++ (w ∷ y ∷ c)) ≡ a ++ (w ∷ x ∷ c)
  replace_behind w x y c =
      ap (replace_at (r + 1) x) (regroup a r e w (y ∷ c)) ∙ replace_here (a ++ (w ∷ [])) (r + 1) (one_on a r e w) x y c ∙ sym (regroup a r e w (x ∷ c))

  pub remove_behind : (w y : Row) (c : List Row) → remove_at (r + 1) (a ++ (w ∷ y ∷ c)) ≡ a ++ (w ∷ c)
  remove_behind w y c =
      ap (remove_at (r + 1)) (regroup a r e w (y ∷ c)) ∙ remove_here (a ++ (w ∷ [])) (r + 1) (one_on a r e w) y c ∙ sym (regroup a r e w c)
