-- Where a comment ends: at the first `--`.
-- Assumes nothing.
use Prim.Native.Nat.{ℕ, suc, ◌+◌, ◌-◌, ◌≤◌, ◌<◌}
use native.Mathlib.Nat.{zero-add}
use native.Mathlib.Omega.{arith}
use mathlib.Core.Path.{◌≡◌, refl, sym, ap, ◌∙◌}
use mathlib.Core.Bool.{Bool, true, false, ◌&&◌, cond}
use mathlib.Core.List.{List, [], ◌∷◌}
use lib.Dec.{eqb}
use lib.ListN.{length, get_or, drop, length-drop, drop_of_length-le}
use lib.Seq.{drop-drop, get_or-drop}
use borrow.Author.Tests.{eq-eqb, ne_eqb}
use Rattle.base.proofs.Bools.{and_right_true}
use Rattle.base.proofs.Lists.{get_or_rest}
use Rattle.chars.specs.Bytes.{ascii}
use Rattle.chars.specs.Lists.{same, begins, first_passing, index_of}
use Rattle.chars.proofs.Searches.{drop_next}
use Rattle.chars.proofs.FirstBytes.{at_index}
use Rattle.markup.specs.Marks.{expected, dashes, comment}
use Rattle.markup.specs.Walks.{Reached, Walk, Walked}
use Rattle.markup.proofs.Rests.{drop_past, index_within, walked_from}

begins_dashes : (s : List ℕ) → begins (ascii "--") s ≡ (eqb (get_or s 0 0) 45 && eqb (get_or s 1 0) 45)
unfolding begins same
begins_dashes [] = refl
begins_dashes (x ∷ []) = refl
begins_dashes (x ∷ y ∷ s) = ap (λ (b : Bool). eqb x 45 && b) (and_right_true (eqb y 45))

dashes_step : (x : ℕ) (s : List ℕ) (q : Bool) → begins (ascii "--") (x ∷ s) ≡ q → dashes (x ∷ s) ≡ cond q 0 (suc (dashes s))
unfolding dashes
dashes_step x s q e = rw e

-- none stand before the first dash
dashes_skip : (s : List ℕ) → dashes s ≡ index_of 45 s + dashes (drop (index_of 45 s) s)
unfolding dashes first_passing
dashes_skip [] = refl
dashes_skip (x ∷ s) = go (eqb x 45) refl (dashes_skip s)
  where
    go : (q : Bool) → eqb x 45 ≡ q → dashes s ≡ index_of 45 s + dashes (drop (index_of 45 s) s)
        → dashes (x ∷ s) ≡ cond q 0 (suc (index_of 45 s)) + dashes (drop (cond q 0 (suc (index_of 45 s))) (x ∷ s))
    go true e h = sym (zero-add (dashes (x ∷ s)))
    go false e h = rw (begins_dashes (x ∷ s), e) (omega arith)

-- d is where the first dash stands from i on
module _ (s : List ℕ) (i d : ℕ) (found : d ≡ i + index_of 45 (drop i s)) where
  pub dashes_found : i + dashes (drop i s) ≡ d + dashes (drop d s)
  dashes_found = omega (arith, dashes_skip (drop i s), ap dashes (drop_past s i (index_of 45 (drop i s)) d found))

  dash_is : d < length s → get_or s d 0 ≡ 45
  dash_is h =
      let n : length (drop i s) ≡ length s - i = length-drop i s in
      ap (λ (k : ℕ). get_or s k 0) found ∙ sym (get_or-drop i s (index_of 45 (drop i s)) 0) ∙ at_index 45 (drop i s) (omega arith)

  -- there is none
  pub dashes_none : i ≤ length s → length s ≤ d → length s ≡ i + dashes (drop i s)
  unfolding dashes
  dashes_none h g =
      let w : Reached s i d = index_within s i 45 d h found in
      let z : dashes (drop d s) ≡ 0 = ap dashes (drop_of_length-le s g) in
      omega (arith, dashes_found)

  module _ (h : d < length s) (x : ℕ) (read : x ≡ get_or s (d + 1) 0) where
    test : begins (ascii "--") (drop d s) ≡ eqb x 45
    test = begins_dashes (drop d s) ∙ rw (get_or_rest d s, get_or-drop d s 1 0, ← read, dash_is h)

    dashes_there : (q : Bool) → eqb x 45 ≡ q → dashes (drop d s) ≡ cond q 0 (suc (dashes (drop (d + 1) s)))
    dashes_there q e =
        let n : drop d s ≡ get_or s d 0 ∷ drop (d + 1) s = drop_next s d h in
        ap dashes n ∙ dashes_step (get_or s d 0) (drop (d + 1) s) q (ap (begins (ascii "--")) (sym n) ∙ test ∙ e)

    -- another follows it
    pub dashes_here : x ≡ 45 → d ≡ i + dashes (drop i s)
    dashes_here e = omega (arith, dashes_found, dashes_there true (eq-eqb x 45 e))

    -- it stands alone
    pub dashes_past : (x ≡ 45 → ⊥) → i + dashes (drop i s) ≡ d + 1 + dashes (drop (d + 1) s)
    dashes_past e = omega (arith, dashes_found, dashes_there false (ne_eqb x 45 e))

-- the end of the comment at a, d being where the first `--` behind its mark stands
module _ (s : List ℕ) (a d : ℕ) (w : Reached s (a + 4) d) (is : d ≡ a + 4 + dashes (drop (a + 4) s)) where
  comment_is : expected (ascii "-->") (drop d s) ≡ comment (drop a s)
  unfolding comment
  comment_is =
      let e : d ≡ a + (4 + dashes (drop 4 (drop a s))) = is ∙ ap (λ (l : List ℕ). a + 4 + dashes l) (sym (drop-drop 4 a s)) ∙ omega arith in
      ap (λ (l : List ℕ). expected (ascii "-->") l) (drop_past s a (4 + dashes (drop 4 (drop a s))) d e)

  pub comment_read : (r : Walk) → Walked s d (expected (ascii "-->") (drop d s)) r → Walked s (a + 4) (comment (drop a s)) r
  comment_read r v = walked_from s (a + 4) d _ _ w.0 comment_is r v
