-- What is sent for a printed line, field by field.
-- Assumes nothing.
use Prim.Native.Nat.{ℕ, suc, ◌+◌, ◌-◌, ◌/◌, ◌%◌, ◌≤◌, ◌<◌}
use mathlib.Core.Path.{◌≡◌, refl, sym, ap, ◌∙◌}
use mathlib.Core.List.{List, [], ◌∷◌, ◌++◌, append_assoc}
use mathlib.Core.Option.{Option, some}
use native.Mathlib.Omega.{arith}
use lib.ListN.{length, length-append}
use borrow.Author.Tests.{eq-eqb, ne_eqb}
use Rattle.chars.specs.Bytes.{ascii}
use Rattle.output.specs.Sends.{Sent}
use Rattle.output.proofs.Sending.{sent_none, sent_more, sent_as}
use Rattle.model.specs.Sets.{Bytes}
use Rattle.model.specs.Texts.{line}
use Rattle.model.specs.Package.{State, Item, content, spelling, media_type_of}
use Rattle.model.specs.Sheet.{column, number_line, type_or_dash, part_line}
use Rattle.lines.specs.Printing.{padded, cell_of, type_given, columns, part_text}
use Rattle.lines.proofs.Columns.{column_suc, padded_suc, padded_none, column_length}

-- NUMBERS
pub sent_padded_none : (o : Bytes) (at w v : ℕ) → w ≡ 0 → Sent o at (padded w v) at o
sent_padded_none o at w v e = sent_as o o [] (padded w v) at at (padded_none w v e) (sent_none o at)

up : (w : ℕ) → 0 < w → suc (w - 1) ≡ w
up w h = omega arith

-- all columns but the last, then the last
module _ {o o₁ o₂ : Bytes} {at w m n : ℕ} (l : length o₁ ≡ length o) where
  pub sent_padded : (w ≡ 0 → ⊥) → (v : ℕ) {x : ℕ} → x ≡ cell_of v → Sent o at (padded (w - 1) (v / 10)) m o₁ → Sent o₁ m (x ∷ []) n o₂ → Sent o at (padded w v) n o₂
  sent_padded z v {x} e r s =
      sent_as o o₂ (padded (w - 1) (v / 10) ++ x ∷ []) (padded w v) at n
      (ap (λ (k : ℕ). padded k v) (sym (up w (omega arith))) ∙ padded_suc (w - 1) v ∙ ap (λ (y : ℕ). padded (w - 1) (v / 10) ++ y ∷ []) (sym e))
      (sent_more o o₁ o₂ (padded (w - 1) (v / 10)) (x ∷ []) at m n r l s)

  pub sent_number : 0 < w → (v : ℕ) → Sent o at (padded (w - 1) (v / 10)) m o₁ → Sent o₁ m ((48 + v % 10) ∷ []) n o₂ → Sent o at (column w v) n o₂
  sent_number h v r s =
      sent_as o o₂ (padded (w - 1) (v / 10) ++ (48 + v % 10) ∷ []) (column w v) at n (ap (λ (k : ℕ). column k v) (sym (up w h)) ∙ column_suc (w - 1) v)
      (sent_more o o₁ o₂ (padded (w - 1) (v / 10)) ((48 + v % 10) ∷ []) at m n r l s)

-- THE LINE OF A PART
pub part_line_lem : (S : State) (g : List Item) → part_line S g ≡ part_text (length g) (length (content g)) (spelling g) (media_type_of (spelling g) S)
part_line_lem S g = refl

pub type_given_lem : (t : Bytes) → (length t ≡ 0 → ⊥) → type_given t ≡ some t
type_given_lem t h = rw (ne_eqb (length t) 0 h)

pub type_none : (t : Bytes) → length t ≡ 0 → type_or_dash (type_given t) ≡ ascii "-"
type_none t h = rw (eq-eqb (length t) 0 h)

pub type_some : (t : Bytes) → (length t ≡ 0 → ⊥) → type_or_dash (type_given t) ≡ t
type_some t h = rw (ne_eqb (length t) 0 h)

pub type_length : (t : Bytes) → length t ≤ 127 → length (type_or_dash (type_given t)) ≤ 127
type_length [] h = omega arith
type_length (x ∷ t) h = rw (type_some (x ∷ t) (λ z. omega arith)) h

pub sent_columns : {o o₁ o₂ o₃ o₄ : Bytes} {m₁ m₂ m₃ m₄ : ℕ} (p b : ℕ) → length o₁ ≡ length o → length o₂ ≡ length o₁ → length o₃ ≡ length o₂
    → Sent o 0 (column 4 p) m₁ o₁ → Sent o₁ m₁ (ascii " ") m₂ o₂ → Sent o₂ m₂ (column 8 b) m₃ o₃ → Sent o₃ m₃ (ascii " ") m₄ o₄ → Sent o 0 (columns p b) m₄ o₄
sent_columns {o} {o₁} {o₂} {o₃} {o₄} {m₁} {m₂} {m₃} {m₄} p b l₁ l₂ l₃ s₁ s₂ s₃ s₄ =
    sent_more o o₁ o₄ (column 4 p) (ascii " " ++ (column 8 b ++ ascii " ")) 0 m₁ m₄ s₁ l₁
    (sent_more o₁ o₂ o₄ (ascii " ") (column 8 b ++ ascii " ") m₁ m₂ m₄ s₂ l₂
    (sent_more o₂ o₃ o₄ (column 8 b) (ascii " ") m₂ m₃ m₄ s₃ l₃ s₄))

pub sent_part_line : {o o₁ o₂ o₃ o₄ o₅ : Bytes} {m₁ m₂ m₃ m₄ m₅ : ℕ} (p b : ℕ) (name t : Bytes)
    → length o₁ ≡ length o → length o₂ ≡ length o₁ → length o₃ ≡ length o₂ → length o₄ ≡ length o₃
    → Sent o 0 (columns p b) m₁ o₁ → Sent o₁ m₁ name m₂ o₂ → Sent o₂ m₂ (ascii " ") m₃ o₃
    → Sent o₃ m₃ (type_or_dash (type_given t)) m₄ o₄ → Sent o₄ m₄ (ascii "\n") m₅ o₅
    → Sent o 0 (part_text p b name (type_given t)) m₅ o₅
sent_part_line {o} {o₁} {o₂} {o₃} {o₄} {o₅} {m₁} {m₂} {m₃} {m₄} {m₅} p b name t l₁ l₂ l₃ l₄ s₁ s₂ s₃ s₄ s₅ =
    sent_as o o₅ (columns p b ++ (name ++ (ascii " " ++ (k ++ ascii "\n")))) (part_text p b name (type_given t)) 0 m₅ (regroup (column 4 p) (column 8 b) k)
    (sent_more o o₁ o₅ (columns p b) (name ++ (ascii " " ++ (k ++ ascii "\n"))) 0 m₁ m₅ s₁ l₁
    (sent_more o₁ o₂ o₅ name (ascii " " ++ (k ++ ascii "\n")) m₁ m₂ m₅ s₂ l₂
    (sent_more o₂ o₃ o₅ (ascii " ") (k ++ ascii "\n") m₂ m₃ m₅ s₃ l₃
    (sent_more o₃ o₄ o₅ k (ascii "\n") m₃ m₄ m₅ s₄ l₄ s₅))))
  where
    k : Bytes
    k = type_or_dash (type_given t)

    regroup : (x y z : Bytes) → line (x ++ (ascii " " ++ (y ++ (ascii " " ++ (name ++ (ascii " " ++ z))))))
        ≡ (x ++ (ascii " " ++ (y ++ ascii " "))) ++ (name ++ (ascii " " ++ (z ++ ascii "\n")))
    regroup x y z = simp append_assoc

-- how long it is, of a name of 255 bytes at most and a type of 127
pub part_text_length : (p b : ℕ) (name : Bytes) (o : Option Bytes) → length name ≤ 255 → length (type_or_dash o) ≤ 127 → length (part_text p b name o) ≤ 398
part_text_length p b name o h k = go (column 4 p) (column 8 b) (type_or_dash o) (column_length 4 p (omega arith)) (column_length 8 b (omega arith)) k
  where
    go : (x y z : Bytes) → length x ≡ 4 → length y ≡ 8 → length z ≤ 127 → length (line (x ++ (ascii " " ++ (y ++ (ascii " " ++ (name ++ (ascii " " ++ z))))))) ≤ 398
    go x y z e f g = simp length-append (omega arith)

-- and how long the line of an answer is
pub answer_length : (n : ℕ) → length (number_line n) ≡ 4
answer_length n = go (column 3 n) (column_length 3 n (omega arith))
  where
    go : (x : Bytes) → length x ≡ 3 → length (line x) ≡ 4
    go x e = simp length-append (omega arith)
