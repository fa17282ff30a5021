-- The components of an IRI, from what the searches ensure.
-- Assumes nothing.
use Prim.Native.Nat.{◌-◌, ℕ, ◌<◌, ◌+◌, ◌≤◌}
use mathlib.Core.Path.{◌≡◌, sym, ◌∙◌, ap, refl}
use mathlib.Core.Bool.{false, not, Bool, cond, ◌&&◌, true}
use mathlib.Core.List.{List}
use native.Mathlib.Omega.{arith}
use lib.Dec.{eqb}
use lib.ListN.{get_or, length, take, drop, length-drop, take-append-drop}
use lib.Seq.{drop-drop, length-take-le}
use borrow.Author.Tests.{eq-eqb, ne_eqb, eqb-true, eqb-false}
use Rattle.chars.specs.Bytes.{colon, slash, member, number_sign}
use Rattle.chars.specs.Lists.{first_passing, index_of, is_empty}
use Rattle.chars.specs.declared.search.Alphabet.TheVariants.{AuthorityEnd, PathEnd}
use Rattle.base.proofs.Bools.{and_false}
use Rattle.base.proofs.Lists.{take_rest}
use Rattle.chars.proofs.Searches.{first_le, index_le}
use Rattle.chars.proofs.UnitLengths.{passes_lt}
use Rattle.names.specs.Iris.{scheme_end, colon_first}
use Rattle.iri.specs.Components.{scheme_length, authority_length, after_scheme, after_authority, path_length, after_path, scheme_of}
use Rattle.iri.specs.Components.{authority_of, path_of, query_of, fragment_of, ComponentsReturn, recompose}
use Rattle.iri.specs.Scratch.{SplitAt}

-- a byte that is not 0 lies within s
pub byte_lt : (s : List ℕ) (k x b : ℕ) → eqb 0 b ≡ false → x ≡ get_or s k 0 → x ≡ b → k < length s
byte_lt s k x b z e q = passes_lt (λ (y : ℕ). eqb y b) z s k (eq-eqb (get_or s k 0) b (sym e ∙ q))

module _ (s : List ℕ) (k x : ℕ) (ek : k ≡ scheme_end s) (ex : x ≡ get_or s k 0) where
  at_end : get_or s (scheme_end s) 0 ≡ x
  at_end = ap (λ (i : ℕ). get_or s i 0) (sym ek) ∙ sym ex

  pub scheme_yes : x ≡ colon → (k ≡ 0 → ⊥) → k + 1 ≡ scheme_length s
  unfolding scheme_length colon_first
  scheme_yes q z = rw (at_end, eq-eqb x colon q, ← ek, ne_eqb k 0 z)

  pub scheme_zero : k ≡ 0 → 0 ≡ scheme_length s
  unfolding scheme_length colon_first
  scheme_zero z = rw (at_end, ← ek, z, and_false)

  pub scheme_no : (x ≡ colon → ⊥) → 0 ≡ scheme_length s
  unfolding scheme_length colon_first
  scheme_no q = rw (at_end, ne_eqb x colon q)

pub scheme_le : (s : List ℕ) → scheme_length s ≤ length s
unfolding scheme_length colon_first
scheme_le s = go (eqb (get_or s (scheme_end s) 0) colon) refl (not (eqb (scheme_end s) 0))
  where
    go : (q : Bool) → eqb (get_or s (scheme_end s) 0) colon ≡ q → (r : Bool) → cond (q && r) (scheme_end s + 1) 0 ≤ length s
    go true e true = omega (arith, passes_lt (λ (y : ℕ). eqb y colon) refl s (scheme_end s) e)
    go true e false = omega arith
    go false e r = omega arith

module _ (s : List ℕ) (x y : ℕ) (ex : x ≡ get_or s 0 0) (ey : y ≡ get_or s 1 0) where
  pub authority_start : y ≡ slash → 2 ≤ length s
  authority_start q = byte_lt s 1 y slash refl ey q

  pub authority_yes : (n : ℕ) → x ≡ slash → y ≡ slash → n ≡ first_passing (member AuthorityEnd) (take (length s - 2) (drop 2 s)) → 2 + n ≡ authority_length s
  unfolding authority_length
  authority_yes n p q e = rw (← ex, ← ey, p, q, e, take_rest s 2)

  pub authority_half : (y ≡ slash → ⊥) → 0 ≡ authority_length s
  unfolding authority_length
  authority_half q = rw (← ey, ne_eqb y slash q, and_false)

pub authority_no : (s : List ℕ) (x : ℕ) → x ≡ get_or s 0 0 → (x ≡ slash → ⊥) → 0 ≡ authority_length s
unfolding authority_length
authority_no s x e q = rw (← e, ne_eqb x slash q)

pub authority_le : (s : List ℕ) → authority_length s ≤ length s
unfolding authority_length
authority_le s = go (eqb (get_or s 0 0) slash) (eqb (get_or s 1 0) slash) refl
  where
    go : (p q : Bool) → eqb (get_or s 1 0) slash ≡ q → cond (p && q) (2 + first_passing (member AuthorityEnd) (drop 2 s)) 0 ≤ length s
    go true true e = omega (arith, first_le (member AuthorityEnd) (drop 2 s), length-drop 2 s, passes_lt (λ (z : ℕ). eqb z slash) refl s 1 e)
    go true false e = omega arith
    go false q e = omega arith

pub authority_two : (s : List ℕ) → (authority_length s ≡ 0 → ⊥) → 2 ≤ authority_length s
unfolding authority_length
authority_two s = go (eqb (get_or s 0 0) slash && eqb (get_or s 1 0) slash)
  where
    go : (q : Bool) → (cond q (2 + first_passing (member AuthorityEnd) (drop 2 s)) 0 ≡ 0 → ⊥) → 2 ≤ cond q (2 + first_passing (member AuthorityEnd) (drop 2 s)) 0
    go true f = omega arith
    go false f = absurd (f refl)

-- the four searches, one after the other
module _ (s : List ℕ) (a : ℕ) (ea : a ≡ scheme_length s) where
  pub split_a : a ≤ length s
  split_a = omega (arith, scheme_le s)

  after_scheme_lem : after_scheme s ≡ drop a s
  unfolding after_scheme
  after_scheme_lem = rw (← ea)

  module _ (n : ℕ) (en : n ≡ authority_length (take (length s - a) (drop a s))) where
    n_is : n ≡ authority_length (drop a s)
    n_is = en ∙ ap authority_length (take_rest s a)

    pub split_b : a + n ≤ length s
    split_b = omega (arith, n_is, authority_le (drop a s), length-drop a s, split_a)

    after_authority_lem : after_authority s ≡ drop (a + n) s
    unfolding after_authority
    after_authority_lem = rw (after_scheme_lem, ← n_is, drop-drop n a s)

    module _ (m : ℕ) (em : m ≡ path_length (take (length s - (a + n)) (drop (a + n) s))) where
      m_is : m ≡ path_length (drop (a + n) s)
      m_is = em ∙ ap (first_passing (member PathEnd)) (take_rest s (a + n))

      pub split_p : a + n + m ≤ length s
      split_p = omega (arith, m_is, first_le (member PathEnd) (drop (a + n) s), length-drop (a + n) s, split_b)

      after_path_lem : after_path s ≡ drop (a + n + m) s
      unfolding after_path
      after_path_lem = rw (after_authority_lem, ← m_is, drop-drop m (a + n) s)

      pub split_is : (q : ℕ) → q ≡ a + n + m + index_of number_sign (drop (a + n + m) s) → SplitAt s a (a + n) (a + n + m) q
      unfolding scheme_of authority_of path_of query_of fragment_of
      split_is q eq =
          let i = index_of number_sign (drop (a + n + m) s) in
          let eb : a + n - a ≡ n = omega arith in
          let ep : a + n + m - (a + n) ≡ m = omega arith in
          let ei : q - (a + n + m) ≡ index_of number_sign (drop (a + n + m) s) = omega arith in
          record {
            scheme = rw (← ea);
            authority = rw (after_scheme_lem, ← n_is, eb);
            path = rw (after_authority_lem, ← m_is, ep);
            query = rw (after_path_lem, ei);
            fragment = rw (after_path_lem, drop-drop (index_of number_sign (drop (a + n + m) s)) (a + n + m) s, eq);
            a_le = omega arith;
            b_le = omega arith;
            p_le = omega arith;
            q_le = omega (arith, index_le number_sign (drop (a + n + m) s), length-drop (a + n + m) s, split_p);
          }

-- the lengths of the components
module _ (s : List ℕ) (a b p q : ℕ) (h : SplitAt s a b p q) where
  part_length : (i j : ℕ) → i ≤ j → j ≤ length s → length (take (j - i) (drop i s)) ≡ j - i
  part_length i j l m = length-take-le (j - i) (drop i s) (simp length-drop (omega arith))

  pub scheme_length_lem : length (scheme_of s) ≡ a
  scheme_length_lem = rw (← h.scheme) (length-take-le a s (omega arith))

  pub authority_length_lem : length (authority_of s) ≡ b - a
  authority_length_lem = rw (← h.authority) (part_length a b (omega arith) (omega arith))

  pub path_length_lem : length (path_of s) ≡ p - b
  path_length_lem = rw (← h.path) (part_length b p (omega arith) (omega arith))

  pub query_length : length (query_of s) ≡ q - p
  query_length = rw (← h.query) (part_length p q (omega arith) (omega arith))

  pub fragment_length : length (fragment_of s) ≡ length s - q
  fragment_length = rw (← h.fragment) (length-drop q s)

  -- neither scheme nor authority; neither query nor fragment
  pub none_before : (is_empty (scheme_of s) && is_empty (authority_of s)) ≡ eqb b 0
  none_before = rw (scheme_length_lem, authority_length_lem) (go (eqb b 0) refl)
    where
      go : (t : Bool) → eqb b 0 ≡ t → (eqb a 0 && eqb (b - a) 0) ≡ t
      go true e = let z : b ≡ 0 = eqb-true b 0 e in rw (eq-eqb a 0 (omega arith), eq-eqb (b - a) 0 (omega arith))
      go false e = no (eqb a 0) refl
        where
          no : (u : Bool) → eqb a 0 ≡ u → (u && eqb (b - a) 0) ≡ false
          no true f = let y : a ≡ 0 = eqb-true a 0 f in ne_eqb (b - a) 0 (λ z. eqb-false b 0 e (omega arith))
          no false f = refl

  pub none_after : (is_empty (query_of s) && is_empty (fragment_of s)) ≡ eqb p (length s)
  none_after = rw (query_length, fragment_length) (go (eqb p (length s)) refl)
    where
      go : (t : Bool) → eqb p (length s) ≡ t → (eqb (q - p) 0 && eqb (length s - q) 0) ≡ t
      go true e = let z : p ≡ length s = eqb-true p (length s) e in rw (eq-eqb (q - p) 0 (omega arith), eq-eqb (length s - q) 0 (omega arith))
      go false e = no (eqb (q - p) 0) refl
        where
          no : (u : Bool) → eqb (q - p) 0 ≡ u → (u && eqb (length s - q) 0) ≡ false
          no true f = let y : q - p ≡ 0 = eqb-true (q - p) 0 f in ne_eqb (length s - q) 0 (λ z. eqb-false p (length s) e (omega arith))
          no false f = refl

-- the five components, one after the other
pub components_return : ComponentsReturn
unfolding recompose scheme_of authority_of path_of query_of fragment_of after_path after_authority after_scheme
components_return s =
    let a = drop (scheme_length s) s in
    let b = drop (authority_length a) a in
    let c = drop (path_length b) b in
    rw (take-append-drop (index_of number_sign c) c, take-append-drop (path_length b) b, take-append-drop (authority_length a) a) (take-append-drop (scheme_length s) s)
