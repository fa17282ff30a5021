-- What a value means: the byte at a place of it, and the bytes from there on.
-- Assumes nothing.
use Prim.Native.Nat.{ℕ, zero, suc, pred, ◌+◌, ◌-◌, ◌≤◌, ◌<◌}
use native.Mathlib.Numerals.{add-one}
use native.Mathlib.Omega.{arith, min_cases}
use mathlib.Core.Path.{◌≡◌, refl, sym, ap, ◌∙◌, subst}
use mathlib.Core.Bool.{Bool, true, false, cond}
use mathlib.Core.List.{List, [], ◌∷◌, ◌++◌, append-nil}
use lib.Dec.{eqb, leb}
use lib.ListN.{length, get_or, take, drop, set, length-append, length-drop, drop_of_length-le}
use lib.Seq.{take-suc-set, take_all, take_at, length-take-le, append_snoc, drop-drop}
use borrow.Author.Tests.{eq-eqb, ne_eqb, leb-true, leb-false}
use Rattle.std.specs.Prelude.{Option, Some, None, MatchOption, unwrap_or}
use Rattle.base.proofs.Lists.{get_or_rest}
use Rattle.chars.specs.Bytes.{ascii}
use Rattle.chars.specs.Lists.{same, begins}
use Rattle.chars.proofs.SameTexts.{same_lengths}
use Rattle.markup.specs.Marks.{Entity, entity, entities, entity_of, value_unit, value_byte, unquoted}
use Rattle.markup.specs.Walks.{EntityIs, NoEntity}
use Rattle.markup.specs.EntryPlaces.{field_size, Decoded}
use Rattle.markup.specs.declared.values.Entity.{Entity as UnitRead}
use Rattle.markup.proofs.Units.{unit_entity, unit_none}

-- AT A PLACE. An entity of no bytes means none
abbrev chosen : (a b c d e : Bool) → Entity
chosen a b c d e =
    cond a (entity (ascii "&lt;") 60) (cond b (entity (ascii "&gt;") 62) (cond c (entity (ascii "&amp;") 38)
    (cond d (entity (ascii "&apos;") 39) (cond e (entity (ascii "&quot;") 34) (entity [] 0)))))

none_chosen : (a b c d e : Bool) → length (chosen a b c d e).text ≡ 0 → (chosen a b c d e).byte ≡ 0
none_chosen true b c d e h = absurd (omega arith)
none_chosen false true c d e h = absurd (omega arith)
none_chosen false false true d e h = absurd (omega arith)
none_chosen false false false true e h = absurd (omega arith)
none_chosen false false false false true h = absurd (omega arith)
none_chosen false false false false false h = refl

entity_none : (l : List ℕ) → length (entity_of entities l).text ≡ 0 → (entity_of entities l).byte ≡ 0
entity_none l h =
    none_chosen (begins (ascii "&lt;") l) (begins (ascii "&gt;") l) (begins (ascii "&amp;") l) (begins (ascii "&apos;") l) (begins (ascii "&quot;") l) h

-- what stands at i takes n bytes and means b
abbrev ByteIs : List ℕ → ℕ → ℕ → ℕ → Type 0
ByteIs s i n b = (n ≡ suc (pred (value_unit (drop i s)))) × (b ≡ value_byte (drop i s)) × (i + n ≤ length s)

some_units : (n : ℕ) → (n ≡ 0 → ⊥) → n ≡ suc (pred n)
some_units zero f = absurd (f refl)
some_units (suc n) f = refl

module _ (s : List ℕ) (i : ℕ) (h : i < length s) where
  module _ (e : get_or s i 0 ≡ 38) where
    tells : value_byte (drop i s) ≡ (entity_of entities (drop i s)).byte
    unfolding value_byte
    tells = rw (get_or_rest i s, eq-eqb (get_or s i 0) 38 e)

    unlike : get_or s i 0 ≡ 60 → ⊥
    unlike z = omega (arith, e, z)

    pub byte_entity : (n b : ℕ) → EntityIs s i n b → ByteIs s i n b
    byte_entity n b w =
        let u = unit_entity s i h unlike e n b w in
        (some_units n (λ z. omega (arith, w.0, z)) ∙ ap (λ (k : ℕ). suc (pred k)) u.1, w.2 ∙ sym tells, w.3)

    pub byte_none : NoEntity s i → ByteIs s i 1 0
    byte_none z = (ap (λ (k : ℕ). suc (pred k)) (sym (unit_none s i h unlike e z)), sym (entity_none (drop i s) z) ∙ sym tells, omega arith)

    -- an entity, or else the mark alone
    pub byte_marked : (r : Option UnitRead) → MatchOption r (NoEntity s i) (λ u. EntityIs s i u.length u.byte)
        → ByteIs s i (unwrap_or r (record { length = 1; byte = 0 })).length (unwrap_or r (record { length = 1; byte = 0 })).byte
    byte_marked (Some u) w = byte_entity u.length u.byte w
    byte_marked None z = byte_none z

  pub byte_plain : (get_or s i 0 ≡ 38 → ⊥) → ByteIs s i 1 (get_or s i 0)
  unfolding value_unit value_byte
  byte_plain f = (rw (get_or_rest i s, ne_eqb (get_or s i 0) 38 f) (one (eqb (get_or s i 0) 60)), rw (get_or_rest i s, ne_eqb (get_or s i 0) 38 f), omega arith)
    where
      one : (t : Bool) → 1 ≡ suc (pred (cond t 0 1))
      one true = refl
      one false = refl

-- FROM THERE ON
unquoted_past : (k : ℕ) (l : List ℕ) → unquoted k l ≡ unquoted 0 (drop k l)
unfolding unquoted
unquoted_past zero l = refl
unquoted_past (suc k) [] = refl
unquoted_past (suc k) (x ∷ l) = unquoted_past k l

unquoted_first : (l : List ℕ) (n : ℕ) → 0 < length l → n ≡ suc (pred (value_unit l)) → unquoted 0 l ≡ value_byte l ∷ unquoted 0 (drop n l)
unfolding unquoted
unquoted_first [] n h e = absurd (omega arith)
unquoted_first (x ∷ l) n h e = rw e (ap (λ (t : List ℕ). value_byte (x ∷ l) ∷ t) (unquoted_past (pred (value_unit (x ∷ l))) l))

unquoted_next : (s : List ℕ) (i n b : ℕ) → i < length s → ByteIs s i n b → unquoted 0 (drop i s) ≡ b ∷ unquoted 0 (drop (i + n) s)
unquoted_next s i n b h w =
    let l : length (drop i s) ≡ length s - i = length-drop i s in
    unquoted_first (drop i s) n (omega arith) w.0
    ∙ ap (λ (x : ℕ). x ∷ unquoted 0 (drop n (drop i s))) (sym w.1)
    ∙ ap (λ (t : List ℕ). b ∷ unquoted 0 t) (drop-drop n i s)

-- DECODED as far as n bytes of an array, the others being those from i on
module _ (s out : List ℕ) (i n : ℕ) (size : length out ≡ field_size) (few : n ≤ field_size)
    (so : unquoted 0 s ≡ take n out ++ unquoted 0 (drop i s)) where
  front : length (take n out) ≡ n
  front = length-take-le n out (omega arith)

  pub decode_next : (k b : ℕ) → i < length s → n < field_size → ByteIs s i k b →
      unquoted 0 s ≡ take (n + 1) (set out n b) ++ unquoted 0 (drop (i + k) s)
  decode_next k b h room w =
      so ∙ ap (λ (t : List ℕ). take n out ++ t) (unquoted_next s i k b h w)
      ∙ sym (append_snoc (take n out) b (unquoted 0 (drop (i + k) s)))
      ∙ ap (λ (t : List ℕ). t ++ unquoted 0 (drop (i + k) s)) (sym (take-suc-set out n b (omega arith)))
      ∙ ap (λ (j : ℕ). take j (set out n b) ++ unquoted 0 (drop (i + k) s)) (sym (add-one n))

  total : length (unquoted 0 s) ≡ n + length (unquoted 0 (drop i s))
  total = ap length so ∙ length-append (take n out) (unquoted 0 (drop i s)) ∙ ap (λ (j : ℕ). j + length (unquoted 0 (drop i s))) front

  pub decoded_full : n ≡ field_size → Decoded s out field_size
  decoded_full e =
      subst (λ (k : ℕ). Decoded s out k) e (record {
        size = size;
        count = omega (arith, total, e, min_cases);
        is = sym (ap (take field_size) so ∙ take_at (take n out) (unquoted 0 (drop i s)) field_size (front ∙ e));
      })

  pub decoded_all : length s ≤ i → Decoded s out n
  unfolding unquoted
  decoded_all h =
      let nil : unquoted 0 (drop i s) ≡ [] = ap (unquoted 0) (drop_of_length-le s h) in
      let whole : unquoted 0 s ≡ take n out = so ∙ ap (λ (t : List ℕ). take n out ++ t) nil ∙ append-nil (take n out) in
      let l : length (unquoted 0 s) ≡ n = ap length whole ∙ front in
      record {
        size = size;
        count = omega (arith, l, few, min_cases);
        is = sym (take_all field_size (unquoted 0 s) (omega arith) ∙ whole);
      }

pub decoded_within : (s out : List ℕ) (n : ℕ) → Decoded s out n → n ≤ length out
decoded_within s out n d = omega (arith, d.size, d.count, min_cases)

-- a text shorter than the array is the value if it is what the array holds of it
module _ (s out t : List ℕ) (n : ℕ) (d : Decoded s out n) (short : length t < field_size) where
  pub decoded_same : same (take n out) t ≡ same (unquoted 0 s) t
  decoded_same = ap (λ (l : List ℕ). same l t) d.is ∙ go (leb (length (unquoted 0 s)) field_size) refl
    where
      go : (p : Bool) → leb (length (unquoted 0 s)) field_size ≡ p → same (take field_size (unquoted 0 s)) t ≡ same (unquoted 0 s) t
      go true e = ap (λ (l : List ℕ). same l t) (take_all field_size (unquoted 0 s) (leb-true (length (unquoted 0 s)) field_size e))
      go false e =
          let l : field_size < length (unquoted 0 s) = leb-false (length (unquoted 0 s)) field_size e in
          let k : length (take field_size (unquoted 0 s)) ≡ field_size = length-take-le field_size (unquoted 0 s) (omega arith) in
          same_lengths (take field_size (unquoted 0 s)) t (λ z. omega arith) ∙ sym (same_lengths (unquoted 0 s) t (λ z. omega arith))
