-- The texts of an entry in its row, and copied.
-- Assumes nothing.
use Prim.Native.Nat.{ℕ, zero, suc, ◌<◌}
use mathlib.Core.Path.{◌≡◌, refl, ap, ◌∙◌}
use mathlib.Core.Bool.{cond}
use mathlib.Core.List.{List, [], ◌∷◌, ◌++◌, append-nil}
use native.Mathlib.Omega.{arith}
use lib.Dec.{eqb}
use lib.ListN.{get_or}
use Rattle.output.specs.Answers.{Text, Answer, filled}
use Rattle.model.specs.Sets.{Bytes}
use Rattle.store.specs.Layout.{count_of}
use Rattle.store.specs.Rows.{Row, row_at, tag_at, field_of}
use Rattle.store.specs.Packages.{Shape, Sound}
use Rattle.contract.specs.Rows.{external_tag}
use Rattle.entries.specs.Listing.{field_count}
use Rattle.entries.specs.RowTexts.{row_texts, row_field, RowCopied}

-- A ROW'S TEXTS
-- the field k of the entry is one field of its row, but for an item's name and a relationship's mode
row_text : (x : Row) (set k : ℕ) → k < field_count set → (set ≡ 0 → k ≡ 0 → ⊥) → (set ≡ 3 → k ≡ 3 → ⊥) →
    field_of x (row_field set k) ≡ get_or (row_texts set x) k []
unfolding row_texts field_of
row_text x zero zero l y z = absurd (y refl refl)
row_text x zero (suc zero) l y z = refl
row_text x zero (suc (suc k)) l y z = absurd (omega arith)
row_text x (suc zero) zero l y z = refl
row_text x (suc zero) (suc zero) l y z = refl
row_text x (suc zero) (suc (suc k)) l y z = absurd (omega arith)
row_text x (suc (suc zero)) zero l y z = refl
row_text x (suc (suc zero)) (suc zero) l y z = refl
row_text x (suc (suc zero)) (suc (suc k)) l y z = absurd (omega arith)
row_text x (suc (suc (suc zero))) zero l y z = refl
row_text x (suc (suc (suc zero))) (suc zero) l y z = refl
row_text x (suc (suc (suc zero))) (suc (suc zero)) l y z = refl
row_text x (suc (suc (suc zero))) (suc (suc (suc zero))) l y z = absurd (z refl refl)
row_text x (suc (suc (suc zero))) (suc (suc (suc (suc zero)))) l y z = refl
row_text x (suc (suc (suc zero))) (suc (suc (suc (suc (suc k))))) l y z = absurd (omega arith)
row_text x (suc (suc (suc (suc set)))) k l y z = absurd (omega arith)

-- COPIED. The field k of the entry in row r
module _ (b : List ℕ) (r set k n : ℕ) (out : Bytes) (a : Answer) (l : r < count_of b) where
  -- an item's name, of which s and t are the parts
  pub name_copied : (s t : Bytes) → (set ≡ 0) × (k ≡ 0) → (Sound b → r < count_of b → s ≡ field_of (row_at b r) 0) →
      (Sound b → r < count_of b → t ≡ field_of (row_at b r) 1) → a ≡ filled 2 out (Text (s ++ t) (n ∷ [])) → RowCopied b r set k n out a
  unfolding row_texts field_of
  name_copied s t e es et w = record { text = s ++ t; told = w; is = λ q. rw (e.0, e.1, es q l, et q l) }

  -- a relationship's mode, which the tag g tells
  pub mode_copied : (g m : ℕ) → (set ≡ 3) × (k ≡ 3) → (Shape b → r < count_of b → g ≡ tag_at b r) → cond (eqb g external_tag) 1 0 ≡ m →
      a ≡ filled 2 out (Text (m ∷ []) (n ∷ [])) → RowCopied b r set k n out a
  unfolding row_texts
  mode_copied g m e eg em w = record { text = m ∷ []; told = w; is = λ q. rw (e.0, e.1, ← em, eg q.shape l) }

  -- any other field
  pub field_copied : (j : ℕ) (s : Bytes) → k < field_count set → (set ≡ 0 → k ≡ 0 → ⊥) → (set ≡ 3 → k ≡ 3 → ⊥) → j ≡ row_field set k →
      (Sound b → r < count_of b → s ≡ field_of (row_at b r) j) → a ≡ filled 2 out (Text (s ++ []) (n ∷ [])) → RowCopied b r set k n out a
  field_copied j s h y z ej es w = record {
    text = s ++ [];
    told = w;
    is = λ q. append-nil s ∙ es q l ∙ ap (field_of (row_at b r)) ej ∙ row_text (row_at b r) set k h y z;
  }
