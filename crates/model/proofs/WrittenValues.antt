-- Values in quotes mean what was written, and end where they should: no field holds `<` or `"`.
-- Assumes nothing.
use Prim.Native.Nat.{ℕ}
use mathlib.Core.Path.{◌≡◌, refl}
use mathlib.Core.Bool.{Bool, true, false, cond}
use mathlib.Core.List.{[], ◌∷◌, ◌++◌, flat_map}
use native.Mathlib.Omega.{arith}
use lib.Dec.{eqb}
use borrow.Author.Tests.{eqb-true, not-true}
use Rattle.base.proofs.Bools.{and_left, and_right, and_true}
use Rattle.chars.specs.Bytes.{ascii, letter, digit, hex_digit, unreserved, segment_byte, member}
use Rattle.chars.specs.Lists.{every, same, begins, tiled}
use Rattle.chars.proofs.UnitBytes.{but}
use Rattle.names.specs.Names.{part_name}
use Rattle.names.specs.Types.{media_type, extension, identifier}
use Rattle.names.specs.Iris.{iri}
use Rattle.names.proofs.NameBytes.{name_but}
use Rattle.names.proofs.FieldBytes.{media_type_but, extension_but, iri_but, identifier_but}
use Rattle.markup.specs.Marks.{less, quotable, value_unit, value_byte, unquoted}
use Rattle.model.specs.Sets.{Bytes}
use Rattle.model.specs.Texts.{ampersand, quoted}

abbrev pub quote_byte : ℕ
quote_byte = 34

-- what may be written in quotes
pub record Writable (s : Bytes) : Type 0 where
  pub unopened : every (but less) s ≡ true
  pub unmarked : every (but quote_byte) s ≡ true

-- IN QUOTES it is a value, it means the same, and it holds no quote mark either
pub quoted_quotable : (s : Bytes) → every (but less) s ≡ true → quotable (quoted s) ≡ true
unfolding quoted flat_map every tiled value_unit begins same
quoted_quotable [] e = refl
quoted_quotable (x ∷ s) e = go (eqb x ampersand) refl (quoted_quotable s (and_right (but less x) (every (but less) s) e))
  where
    go : (q : Bool) → eqb x ampersand ≡ q → quotable (quoted s) ≡ true → quotable (cond q (ascii "&amp;") (x ∷ []) ++ quoted s) ≡ true
    go true f ih = ih
    go false f ih = rw (not-true (eqb x less) (and_left (but less x) (every (but less) s) e), f) ih

pub unquoted_quoted : (s : Bytes) → every (but less) s ≡ true → unquoted 0 (quoted s) ≡ s
unfolding quoted flat_map every unquoted value_unit value_byte begins same
unquoted_quoted [] e = refl
unquoted_quoted (x ∷ s) e = go (eqb x ampersand) refl (unquoted_quoted s (and_right (but less x) (every (but less) s) e))
  where
    go : (q : Bool) → eqb x ampersand ≡ q → unquoted 0 (quoted s) ≡ s → unquoted 0 (cond q (ascii "&amp;") (x ∷ []) ++ quoted s) ≡ x ∷ s
    go true f ih = rw (ih, eqb-true x ampersand f)
    go false f ih = rw (not-true (eqb x less) (and_left (but less x) (every (but less) s) e), f, ih)

pub quoted_unmarked : (s : Bytes) → every (but quote_byte) s ≡ true → every (but quote_byte) (quoted s) ≡ true
unfolding quoted flat_map every
quoted_unmarked [] e = refl
quoted_unmarked (x ∷ s) e = go (eqb x ampersand) (quoted_unmarked s (and_right (but quote_byte x) (every (but quote_byte) s) e))
  where
    go : (q : Bool) → every (but quote_byte) (quoted s) ≡ true → every (but quote_byte) (cond q (ascii "&amp;") (x ∷ []) ++ quoted s) ≡ true
    go true ih = ih
    go false ih = and_true (but quote_byte x) (every (but quote_byte) (quoted s)) (and_left (but quote_byte x) (every (but quote_byte) s) e) ih

-- THE FIELDS
module _ (s : Bytes) where
  pub type_writable : media_type s ≡ true → Writable s
  unfolding member letter digit
  type_writable e = record { unopened = media_type_but less refl refl refl refl s e; unmarked = media_type_but quote_byte refl refl refl refl s e }

  pub extension_writable : extension s ≡ true → Writable s
  unfolding hex_digit segment_byte unreserved letter digit
  extension_writable e =
      record { unopened = extension_but less refl refl (omega arith) refl s e; unmarked = extension_but quote_byte refl refl (omega arith) refl s e }

  pub name_writable : part_name s ≡ true → Writable s
  unfolding hex_digit segment_byte unreserved letter digit
  name_writable e =
      record { unopened = name_but s e less refl refl refl (omega arith) refl; unmarked = name_but s e quote_byte refl refl refl (omega arith) refl }

  pub id_writable : identifier s ≡ true → Writable s
  unfolding member letter digit
  id_writable e = record { unopened = identifier_but less refl s e; unmarked = identifier_but quote_byte refl s e }

  pub iri_writable : iri s ≡ true → Writable s
  unfolding hex_digit segment_byte unreserved letter digit
  iri_writable e = record { unopened = iri_but less refl refl (omega arith) refl s e; unmarked = iri_but quote_byte refl refl (omega arith) refl s e }
