-- What stands at a place of a value: an entity, a byte, or neither.
-- Assumes nothing.
use Prim.Native.Nat.{ℕ, ◌+◌, ◌≤◌, ◌<◌}
use native.Mathlib.Omega.{arith}
use mathlib.Core.Path.{◌≡◌, sym, ap, ◌∙◌}
use mathlib.Core.Bool.{Bool, true, false, not, ◌&&◌, true≢false}
use mathlib.Core.List.{List}
use lib.Dec.{eqb}
use lib.ListN.{length, get_or, drop}
use borrow.Author.Tests.{eq-eqb, ne_eqb, not-true}
use Rattle.base.proofs.Bools.{and_left, and_right, and_both}
use Rattle.base.proofs.Lists.{get_or_rest}
use Rattle.chars.specs.Bytes.{ascii}
use Rattle.chars.specs.Lists.{begins}
use Rattle.chars.proofs.Tiles.{tiled_step}
use Rattle.markup.specs.Marks.{Entity, entity, entities, entity_of, value_unit, quotable}
use Rattle.markup.specs.Walks.{plain, EntityIs, NoEntity, UnitIs}
use Rattle.markup.proofs.Rests.{stands_within}

-- the tests of the code, in its order: each answer wants the ones before it
module _ (s : List ℕ) (i : ℕ) (h : i ≤ length s) (t : Bool) (e : t ≡ begins (ascii "&lt;") (drop i s)) where
  is_here : (x : Entity) → entity_of entities (drop i s) ≡ x → 0 < length x.text → begins x.text (drop i s) ≡ true → EntityIs s i (length x.text) x.byte
  is_here x f p g = (p, ap (λ (y : Entity). length y.text) (sym f), ap (λ (y : Entity). y.byte) (sym f), stands_within s i x.text h g)

  pub is_lt : t ≡ true → EntityIs s i 4 60
  is_lt q = let f : begins (ascii "&lt;") (drop i s) ≡ true = sym e ∙ q in is_here (entity (ascii "&lt;") 60) (rw f) (omega arith) f

  module _ (n : t ≡ false) (t2 : Bool) (e2 : t2 ≡ begins (ascii "&gt;") (drop i s)) where
    n1 : begins (ascii "&lt;") (drop i s) ≡ false
    n1 = sym e ∙ n

    pub is_gt : t2 ≡ true → EntityIs s i 4 62
    is_gt q = let f : begins (ascii "&gt;") (drop i s) ≡ true = sym e2 ∙ q in is_here (entity (ascii "&gt;") 62) (rw (n1, f)) (omega arith) f

    module _ (m2 : t2 ≡ false) (t3 : Bool) (e3 : t3 ≡ begins (ascii "&amp;") (drop i s)) where
      n2 : begins (ascii "&gt;") (drop i s) ≡ false
      n2 = sym e2 ∙ m2

      pub is_amp : t3 ≡ true → EntityIs s i 5 38
      is_amp q = let f : begins (ascii "&amp;") (drop i s) ≡ true = sym e3 ∙ q in is_here (entity (ascii "&amp;") 38) (rw (n1, n2, f)) (omega arith) f

      module _ (m3 : t3 ≡ false) (t4 : Bool) (e4 : t4 ≡ begins (ascii "&apos;") (drop i s)) where
        n3 : begins (ascii "&amp;") (drop i s) ≡ false
        n3 = sym e3 ∙ m3

        pub is_apos : t4 ≡ true → EntityIs s i 6 39
        is_apos q = let f : begins (ascii "&apos;") (drop i s) ≡ true = sym e4 ∙ q in is_here (entity (ascii "&apos;") 39) (rw (n1, n2, n3, f)) (omega arith) f

        module _ (m4 : t4 ≡ false) (t5 : Bool) (e5 : t5 ≡ begins (ascii "&quot;") (drop i s)) where
          n4 : begins (ascii "&apos;") (drop i s) ≡ false
          n4 = sym e4 ∙ m4

          pub is_quot : t5 ≡ true → EntityIs s i 6 34
          is_quot q =
              let f : begins (ascii "&quot;") (drop i s) ≡ true = sym e5 ∙ q in
              is_here (entity (ascii "&quot;") 34) (rw (n1, n2, n3, n4, f)) (omega arith) f

          pub is_none : t5 ≡ false → NoEntity s i
          is_none q =
              let f : begins (ascii "&quot;") (drop i s) ≡ false = sym e5 ∙ q in
              let z : entity_of entities (drop i s) ≡ entity (ascii "") 0 = rw (n1, n2, n3, n4, f) in
              ap (λ (y : Entity). length y.text) z

module _ (s : List ℕ) (i : ℕ) (h : i < length s) where
  pub unit_less : get_or s i 0 ≡ 60 → value_unit (drop i s) ≡ 0
  unfolding value_unit
  unit_less e = rw (get_or_rest i s, eq-eqb (get_or s i 0) 60 e)

  unit_is : (get_or s i 0 ≡ 60 → ⊥) → get_or s i 0 ≡ 38 → value_unit (drop i s) ≡ length (entity_of entities (drop i s)).text
  unfolding value_unit
  unit_is f e = rw (get_or_rest i s, ne_eqb (get_or s i 0) 60 f, eq-eqb (get_or s i 0) 38 e)

  pub unit_entity : (get_or s i 0 ≡ 60 → ⊥) → get_or s i 0 ≡ 38 → (n b : ℕ) → EntityIs s i n b → UnitIs s i n
  unit_entity f e n b w = (w.0, w.1 ∙ sym (unit_is f e), w.3)

  pub unit_none : (get_or s i 0 ≡ 60 → ⊥) → get_or s i 0 ≡ 38 → NoEntity s i → value_unit (drop i s) ≡ 0
  unit_none f e z = unit_is f e ∙ z

  pub unit_byte : (get_or s i 0 ≡ 60 → ⊥) → (get_or s i 0 ≡ 38 → ⊥) → UnitIs s i 1
  unfolding value_unit
  unit_byte f g = (omega arith, rw (get_or_rest i s, ne_eqb (get_or s i 0) 60 f, ne_eqb (get_or s i 0) 38 g), omega arith)

  -- a plain byte is passed over
  pub plain_byte : (t : Bool) → t ≡ plain (get_or s i 0) → t ≡ true → quotable (drop i s) ≡ quotable (drop (i + 1) s)
  plain_byte t e q =
      let b = and_both (not (eqb (get_or s i 0) 60)) (not (eqb (get_or s i 0) 38)) (sym e ∙ q) in
      let u : UnitIs s i 1 = unit_byte (unlike 60 b.0) (unlike 38 b.1) in
      tiled_step value_unit s i 1 (sym u.1) (λ z. absurd (omega arith)) u.2
    where
      unlike : (x : ℕ) → not (eqb (get_or s i 0) x) ≡ true → get_or s i 0 ≡ x → ⊥
      unlike x n z = true≢false (sym (eq-eqb (get_or s i 0) x z) ∙ not-true _ n)

-- bytes from i on are tested, k of them so far: if all are plain, they are passed over
module _ (s : List ℕ) (i : ℕ) where
  same_place : (j k : ℕ) → j ≡ k → quotable (drop j s) ≡ quotable (drop k s)
  same_place j k e = ap (λ (n : ℕ). quotable (drop n s)) e

  pub plain_none : quotable (drop i s) ≡ quotable (drop (i + 0) s)
  plain_none = same_place i (i + 0) (omega arith)

  module _ (k : ℕ) (all : Bool) (h : all ≡ true → quotable (drop i s) ≡ quotable (drop (i + k) s)) where
    pub plain_more : i + k < length s → (t : Bool) → t ≡ plain (get_or s (i + k) 0) → (all && t) ≡ true →
        quotable (drop i s) ≡ quotable (drop (i + (k + 1)) s)
    plain_more l t e q =
        h (and_left all t q) ∙ plain_byte s (i + k) l t e (and_right all t q) ∙ same_place (i + k + 1) (i + (k + 1)) (omega arith)

    pub plain_done : (n : ℕ) → k ≡ n → all ≡ true → quotable (drop i s) ≡ quotable (drop (i + n) s)
    plain_done n e q = h q ∙ same_place (i + k) (i + n) (omega arith)
