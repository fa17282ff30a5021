-- The fields of an entry as they lie in its row. These are promises of inner functions.
-- Assumes nothing.
use Rattle.std.specs.Prelude.{ℕ, ◌≡◌, cond, List, [], ◌∷◌, ◌++◌, eqb, get_or}
use Rattle.output.specs.Answers.{Text, Answer, filled}
use Rattle.model.specs.Sets.{Bytes}
use Rattle.store.specs.Rows.{Row, row_at}
use Rattle.store.specs.Packages.{Sound}
use Rattle.contract.specs.Rows.{external_tag}

-- the texts of the entry in a row of the set
unfoldable pub row_texts : ℕ → Row → List Bytes
row_texts set x =
    get_or
    (((x.f0 ++ x.f1) ∷ x.f2 ∷ [])
    ∷ (x.f0 ∷ x.f1 ∷ [])
    ∷ (x.f0 ∷ x.f1 ∷ [])
    ∷ (x.f0 ∷ x.f1 ∷ x.f2 ∷ (cond (eqb x.tag external_tag) 1 0 ∷ []) ∷ x.f3 ∷ [])
    ∷ [])
    set []

-- the field of a row that is the field k of the entry, where it is one
abbrev pub row_field : ℕ → ℕ → ℕ
row_field set k = cond (eqb set 0) 2 (cond (eqb k 4) 3 k)

-- a is the answer that copies a text of a set with n entries: the field k of the entry in row r, if the buffer is sound
pub record RowCopied (b : List ℕ) (r set k n : ℕ) (out : Bytes) (a : Answer) : Type 0 where
  pub text : Bytes
  pub told : a ≡ filled 2 out (Text text (n ∷ []))
  pub is : Sound b → text ≡ get_or (row_texts set (row_at b r)) k []
