-- A place in a stream s stands for the bytes that remain from there on: how far it lies behind another, and what stands there.
-- Assumes nothing.
use Prim.Native.Nat.{ℕ, ◌+◌, ◌-◌, ◌≤◌, ◌<◌}
use native.Mathlib.Omega.{arith}
use mathlib.Core.Path.{◌≡◌, refl, sym, ap, ◌∙◌, subst}
use mathlib.Core.Bool.{Bool, true, false, false≢true}
use mathlib.Core.List.{List}
use lib.Dec.{leb, eqb}
use lib.ListN.{length, get_or, drop, length-drop, get_or-eq_default, get_or-append}
use lib.Seq.{drop-drop, get_or-drop}
use borrow.Author.Tests.{eqb-true, leb-true, leb-false}
use Rattle.std.specs.Prelude.{Ok, Err, Option as Optional, Some, IfSome}
use Rattle.base.proofs.Lists.{get_or_rest}
use Rattle.base.proofs.Bools.{and_left}
use Rattle.chars.specs.Lists.{begins, first_passing, index_of}
use Rattle.chars.proofs.Derivability.{begins_split}
use Rattle.chars.proofs.Searches.{first_le}
use Rattle.chars.proofs.SameTexts.{begins_short}
use Rattle.markup.specs.Marks.{Outcome, On, less, name_first, expected}
use Rattle.markup.specs.Tags.{opens}
use Rattle.markup.specs.Walks.{Reached, Walk, Within, Walked, WalkedContent, TagWithin, TagAt}
use Rattle.markup.specs.declared.marks.Fault.TheVariants.{Malformed}
use Rattle.markup.specs.declared.tags.StartTag.{StartTag}

pub begins_within : (t s : List ℕ) → begins t s ≡ true → length t ≤ length s
begins_within t s e = go (leb (length t) (length s)) refl
  where
    go : (q : Bool) → leb (length t) (length s) ≡ q → length t ≤ length s
    go true h = leb-true (length t) (length s) h
    go false h = absurd (false≢true (sym (begins_short t s (leb-false (length t) (length s) h)) ∙ e))

-- where t begins, its bytes stand
pub begins_byte : (t s : List ℕ) (k : ℕ) → k < length t → begins t s ≡ true → get_or s k 0 ≡ get_or t k 0
begins_byte t s k h e = ap (λ (l : List ℕ). get_or l k 0) (begins_split t s e) ∙ get_or-append t (drop (length t) s) 0 k h

-- a text does not stand at i where another byte stands in its second place
pub second_differs : (t s : List ℕ) (i : ℕ) → 1 < length t → (get_or s (i + 1) 0 ≡ get_or t 1 0 → ⊥) → false ≡ begins t (drop i s)
second_differs t s i h n = go (begins t (drop i s)) refl
  where
    go : (q : Bool) → begins t (drop i s) ≡ q → false ≡ begins t (drop i s)
    go true e = absurd (n (sym (get_or-drop i s 1 0) ∙ begins_byte t (drop i s) 1 h e))
    go false e = sym e

-- a byte that is not 0 is one of s
pub byte_within : (s : List ℕ) (i : ℕ) → (get_or s i 0 ≡ 0 → ⊥) → i < length s
byte_within s i n = go (leb (length s) i) refl
  where
    go : (q : Bool) → leb (length s) i ≡ q → i < length s
    go true h = absurd (n (get_or-eq_default s 0 (leb-true (length s) i h)))
    go false h = leb-false (length s) i h

module _ (s : List ℕ) (at : ℕ) where
  -- r lies n bytes further on
  pub drop_past : (n r : ℕ) → r ≡ at + n → drop r s ≡ drop n (drop at s)
  drop_past n r e = ap (λ (k : ℕ). drop k s) e ∙ sym (drop-drop n at s)

  -- r is where the first byte stands that passes p
  pub first_within : (p : ℕ → Bool) (r : ℕ) → at ≤ length s → r ≡ at + first_passing p (drop at s) → Reached s at r
  first_within p r h e =
      let l : first_passing p (drop at s) ≤ length (drop at s) = first_le p (drop at s) in
      let n : length (drop at s) ≡ length s - at = length-drop at s in
      (omega arith, omega arith)

  pub index_within : (b r : ℕ) → at ≤ length s → r ≡ at + index_of b (drop at s) → Reached s at r
  index_within b r h e = first_within (λ (x : ℕ). eqb x b) r h e

  -- a text that stands at `at`
  pub stands_within : (t : List ℕ) → at ≤ length s → begins t (drop at s) ≡ true → at + length t ≤ length s
  stands_within t h e =
      let l : length t ≤ length (drop at s) = begins_within t (drop at s) e in
      let n : length (drop at s) ≡ length s - at = length-drop at s in
      omega arith

  module _ (t : List ℕ) (b : Bool) (e : b ≡ begins t (drop at s)) where
    pub expected_on : at ≤ length s → b ≡ true → Walked s at (expected t (drop at s)) (Ok (at + length t))
    expected_on h q =
        let f : begins t (drop at s) ≡ true = sym e ∙ q in
        record { within = (omega arith, stands_within t h f); is = rw f (ap On (sym (drop-drop (length t) at s))) }

    pub expected_off : b ≡ false → Walked s at (expected t (drop at s)) (Err Malformed)
    expected_off q =
        let f : begins t (drop at s) ≡ false = sym e ∙ q in
        record { within = tt; is = rw f }

-- what is reached from a place is reached from one before it
pub within_from : (s : List ℕ) (a b : ℕ) → a ≤ b → (r : Walk) → Within s b r → Within s a r
within_from s a b h (Ok n) w = (omega arith, w.1)
within_from s a b h (Err f) w = tt

pub walked_from : (s : List ℕ) (a b : ℕ) (o p : Outcome) → a ≤ b → o ≡ p → (r : Walk) → Walked s b o r → Walked s a p r
walked_from s a b o p h e r w = record { within = within_from s a b h r w.within; is = w.is ∙ e }

-- where a walk, content and a start tag lead to
pub walked_at : {s : List ℕ} {at t : ℕ} {o : Outcome} {w : Walk} → Walked s at o w → w ≡ Ok t → Reached s at t
walked_at {s} {at} p e = subst (λ (x : Walk). Within s at x) e p.within

pub content_at : {s : List ℕ} {at left t : ℕ} {text : Bool} {w : Walk} → WalkedContent s at left text w → w ≡ Ok t → Reached s at t
content_at {s} {at} p e = subst (λ (x : Walk). Within s at x) e p.within

pub tag_reach : {s : List ℕ} {at : ℕ} {t : StartTag} {r : Optional StartTag} → TagAt s at r → r ≡ Some t → TagWithin s at t
tag_reach {s} {at} p e = subst (λ (x : Optional StartTag). IfSome x (TagWithin s at)) e p.within

-- a start tag stands before the end
pub opens_within : (s : List ℕ) (t : ℕ) {b : Bool} → b ≡ opens (drop t s) → b ≡ true → t + 1 ≤ length s
opens_within s t {b} e q =
    let o : opens (drop t s) ≡ true = sym e ∙ q in
    let x = get_or (drop t s) 0 0 in
    let a : x ≡ 60 = eqb-true x 60 (and_left (eqb x less) (name_first (get_or (drop t s) 1 0)) o) in
    let f : x ≡ get_or s t 0 = get_or_rest t s in
    let w : t < length s = byte_within s t (λ z. omega arith) in
    omega arith
