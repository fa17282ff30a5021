-- RFC 3986, 5.2.2 and 5.3, from where the components of the base and of the reference end.
-- Assumes nothing.
use Prim.Native.Nat.{◌-◌, ℕ, ◌≤◌, ◌+◌}
use mathlib.Core.Path.{ap, ◌≡◌, sym, ◌∙◌, refl}
use mathlib.Core.Bool.{true, false, Bool, not}
use mathlib.Core.List.{List, [], ◌++◌, append_assoc}
use native.Mathlib.Omega.{arith}
use lib.Dec.{eqb}
use lib.ListN.{take, drop, take-append-drop, length, length-append}
use lib.Seq.{take-add, drop-drop}
use borrow.Author.Tests.{eq-eqb, ne_eqb, eqb-true, eqb-false, not-true, not-false}
use Rattle.chars.specs.Lists.{is_empty}
use Rattle.names.specs.Iris.{package_iri, iri}
use Rattle.output.specs.Answers.{Refused, Text}
use Rattle.iri.specs.Components.{scheme_of, authority_of, path_of, defined, query_of, fragment_of, recompose}
use Rattle.iri.specs.References.{target, transform, remove_dot_segments, relative_path, resolve, resolve_reference}
use Rattle.iri.specs.Scratch.{Taken, DotsRemoved, Went, Reached}
use Rattle.output.specs.Sends.{Sent}
use Rattle.iri.specs.declared.split.Parts.{Parts}
use Rattle.names.proofs.Lengths.{package_few, iri_few}
use Rattle.base.proofs.Lists.{length_take_le_length, length_part_le}
use Rattle.output.proofs.Sending.{sent_text}
use Rattle.iri.proofs.Splitting.{scheme_length_lem, authority_length_lem, path_length_lem, query_length}

-- parts of a list that meet
take_append_part : (s : List ℕ) (i j : ℕ) → i ≤ j → take i s ++ take (j - i) (drop i s) ≡ take j s
take_append_part s i j l = let e : i + (j - i) ≡ j = omega arith in sym (ap (λ (n : ℕ). take n s) (sym e) ∙ take-add i (j - i) s)

part_append_drop : (s : List ℕ) (i j : ℕ) → i ≤ j → take (j - i) (drop i s) ++ drop j s ≡ drop i s
part_append_drop s i j l =
    let e : i + (j - i) ≡ j = omega arith in
    ap (λ (t : List ℕ). take (j - i) (drop i s) ++ t) (sym (drop-drop (j - i) i s ∙ ap (λ (n : ℕ). drop n s) e)) ∙ take-append-drop (j - i) (drop i s)

module _ (base r : List ℕ) (b x : Parts) (h : Taken base r b x) where
  -- which components of the reference are defined
  scheme_none : x.scheme ≡ 0 → is_empty (scheme_of r) ≡ true
  scheme_none z = rw (scheme_length_lem r _ _ _ _ h.reference_is) (eq-eqb x.scheme 0 z)

  scheme_some : (x.scheme ≡ 0 → ⊥) → is_empty (scheme_of r) ≡ false
  scheme_some z = rw (scheme_length_lem r _ _ _ _ h.reference_is) (ne_eqb x.scheme 0 z)

  authority_none : x.authority ≡ 0 → is_empty (authority_of r) ≡ true
  authority_none z = rw (authority_length_lem r _ _ _ _ h.reference_is) (eq-eqb (x.authority - x.scheme) 0 (omega arith))

  authority_some : x.scheme ≡ 0 → (x.authority ≡ 0 → ⊥) → is_empty (authority_of r) ≡ false
  authority_some y z = rw (authority_length_lem r _ _ _ _ h.reference_is) (ne_eqb (x.authority - x.scheme) 0 (λ e. z (omega arith)))

  path_none : x.path ≡ 0 → is_empty (path_of r) ≡ true
  path_none z = rw (path_length_lem r _ _ _ _ h.reference_is) (eq-eqb (x.path - x.authority) 0 (omega arith))

  path_some : x.authority ≡ 0 → (x.path ≡ 0 → ⊥) → is_empty (path_of r) ≡ false
  path_some y z = rw (path_length_lem r _ _ _ _ h.reference_is) (ne_eqb (x.path - x.authority) 0 (λ e. z (omega arith)))

  no_scheme : x.authority ≡ 0 → x.scheme ≡ 0
  no_scheme z = omega (arith, h.reference_is.a_le)

  -- the scheme and the authority of the target
  pub head_own : (x.scheme ≡ 0 → ⊥) → (target base r).scheme ++ (target base r).authority ≡ take x.authority r
  unfolding transform
  head_own s = rw (scheme_some s, ← h.reference_is.scheme, ← h.reference_is.authority) (take_append_part r x.scheme x.authority h.reference_is.a_le)

  pub head_authority : x.scheme ≡ 0 → (x.authority ≡ 0 → ⊥) → (target base r).scheme ++ (target base r).authority ≡ take b.scheme base ++ take x.authority r
  unfolding transform
  head_authority z a =
      let e : x.authority - x.scheme ≡ x.authority = omega arith in
      let f : take (x.authority - x.scheme) (drop x.scheme r) ≡ take x.authority r = rw (e, z) in
      rw (scheme_none z, authority_some z a, ← h.base_is.scheme, ← h.reference_is.authority, f)

  pub head_base : x.authority ≡ 0 → (target base r).scheme ++ (target base r).authority ≡ take b.authority base
  unfolding transform
  head_base y = go (is_empty (path_of r)) refl
    where
      own : scheme_of base ++ authority_of base ≡ take b.authority base
      own = rw (← h.base_is.scheme, ← h.base_is.authority) (take_append_part base b.scheme b.authority h.base_is.a_le)

      go : (t : Bool) → is_empty (path_of r) ≡ t → (target base r).scheme ++ (target base r).authority ≡ take b.authority base
      go true e = rw (scheme_none (no_scheme y), authority_none y, e) own
      go false e = rw (scheme_none (no_scheme y), authority_none y, e) own

  -- its path
  pub path_own : (x.authority ≡ 0 → ⊥) → (target base r).path ≡ remove_dot_segments (take (x.path - x.authority) (drop x.authority r))
  unfolding transform
  path_own a = go (eqb x.scheme 0) refl
    where
      go : (t : Bool) → eqb x.scheme 0 ≡ t → (target base r).path ≡ remove_dot_segments (take (x.path - x.authority) (drop x.authority r))
      go true e = rw (scheme_none (eqb-true _ _ e), authority_some (eqb-true _ _ e) a, ← h.reference_is.path)
      go false e = rw (scheme_some (eqb-false _ _ e), ← h.reference_is.path)

  pub path_base : x.authority ≡ 0 → x.path ≡ 0 → (target base r).path ≡ take (b.path - b.authority) (drop b.authority base)
  unfolding transform
  path_base y z = rw (scheme_none (no_scheme y), authority_none y, path_none z, ← h.base_is.path)

  base_authority : defined (authority_of base) ≡ not (eqb b.scheme b.authority)
  base_authority = rw (authority_length_lem base _ _ _ _ h.base_is) (go (eqb b.scheme b.authority) refl)
    where
      go : (t : Bool) → eqb b.scheme b.authority ≡ t → not (eqb (b.authority - b.scheme) 0) ≡ not t
      go true e = let f : b.scheme ≡ b.authority = eqb-true b.scheme b.authority e in rw (eq-eqb (b.authority - b.scheme) 0 (omega arith))
      go false e = rw (ne_eqb (b.authority - b.scheme) 0 (λ f. eqb-false b.scheme b.authority e (omega (arith, h.base_is.a_le))))

  pub path_merged : x.authority ≡ 0 → (x.path ≡ 0 → ⊥) → (target base r).path ≡ relative_path (not (eqb b.scheme b.authority)) (take (b.path - b.authority) (drop b.authority base)) (take x.path r)
  unfolding transform
  path_merged y z =
      let e : x.path - x.authority ≡ x.path = omega arith in
      let f : take (x.path - x.authority) (drop x.authority r) ≡ take x.path r = rw (e, y) in
      rw (scheme_none (no_scheme y), authority_none y, path_some y z, base_authority, ← h.base_is.path, ← h.reference_is.path, f)

  -- its query and its fragment
  query_own : (x.query ≡ 0 → ⊥) → (target base r).query ≡ query_of r
  unfolding transform
  query_own q = go (eqb x.scheme 0) refl (eqb x.authority 0) refl (eqb x.path 0) refl
    where
      go : (s : Bool) → eqb x.scheme 0 ≡ s → (a : Bool) → eqb x.authority 0 ≡ a → (p : Bool) → eqb x.path 0 ≡ p → (target base r).query ≡ query_of r
      go false d a e p f = rw (scheme_some (eqb-false _ _ d))
      go true d false e p f = rw (scheme_none (eqb-true _ _ d), authority_some (eqb-true _ _ d) (eqb-false _ _ e))
      go true d true e false f = rw (scheme_none (eqb-true _ _ d), authority_none (eqb-true _ _ e), path_some (eqb-true _ _ e) (eqb-false _ _ f))
      go true d true e true f =
          let w : x.path ≡ 0 = eqb-true _ _ f in
          let v : is_empty (query_of r) ≡ false = rw (query_length r _ _ _ _ h.reference_is) (ne_eqb (x.query - x.path) 0 (λ y. q (omega arith))) in
          rw (scheme_none (eqb-true _ _ d), authority_none (eqb-true _ _ e), path_none w, v)

  fragment_is : (target base r).fragment ≡ fragment_of r
  unfolding transform
  fragment_is = go (is_empty (scheme_of r)) refl (is_empty (authority_of r)) refl (is_empty (path_of r)) refl
    where
      go : (s : Bool) → is_empty (scheme_of r) ≡ s → (a : Bool) → is_empty (authority_of r) ≡ a → (p : Bool) → is_empty (path_of r) ≡ p → (target base r).fragment ≡ fragment_of r
      go false d a e p f = rw d
      go true d false e p f = rw (d, e)
      go true d true e false f = rw (d, e, f)
      go true d true e true f = rw (d, e, f)

  pub tail_own : (x.query ≡ 0 → ⊥) → (target base r).query ++ (target base r).fragment ≡ drop x.path r
  tail_own q = rw (query_own q, fragment_is, ← h.reference_is.query, ← h.reference_is.fragment) (part_append_drop r x.path x.query h.reference_is.p_le)

  pub tail_base : x.query ≡ 0 → (target base r).query ++ (target base r).fragment ≡ take (b.query - b.path) (drop b.path base) ++ r
  unfolding transform
  tail_base q =
      let p : x.path ≡ 0 = omega (arith, h.reference_is.p_le) in
      let a : x.authority ≡ 0 = omega (arith, h.reference_is.b_le) in
      let v : is_empty (query_of r) ≡ true = rw (query_length r _ _ _ _ h.reference_is) (eq-eqb (x.query - x.path) 0 (omega arith)) in
      let f : fragment_of r ≡ r = sym h.reference_is.fragment ∙ rw q in
      rw (scheme_none (no_scheme a), authority_none a, path_none p, v, ← h.base_is.query, f)

  -- where the components end
  pub reference_authority_le : x.authority ≤ length r
  reference_authority_le = omega (arith, h.reference_is.b_le, h.reference_is.p_le, h.reference_is.q_le)

  pub reference_path_le : x.path ≤ length r
  reference_path_le = omega (arith, h.reference_is.p_le, h.reference_is.q_le)

  pub base_authority_le : b.authority ≤ length base
  base_authority_le = omega (arith, h.base_is.b_le, h.base_is.p_le, h.base_is.q_le)

  pub base_scheme_le : b.scheme ≤ length base
  base_scheme_le = omega (arith, h.base_is.a_le, base_authority_le)

  pub head_few : length ((target base r).scheme ++ (target base r).authority) ≤ 510
  head_few = go (eqb x.scheme 0) refl (eqb x.authority 0) refl
    where
      go : (s : Bool) → eqb x.scheme 0 ≡ s → (a : Bool) → eqb x.authority 0 ≡ a → length ((target base r).scheme ++ (target base r).authority) ≤ 510
      go false d a e = rw (head_own (eqb-false _ _ d)) (omega (arith, length_take_le_length x.authority r, h.reference_few))
      go true d false e =
          rw (head_authority (eqb-true _ _ d) (eqb-false _ _ e), length-append)
          (omega (arith, length_take_le_length b.scheme base, length_take_le_length x.authority r, h.base_few, h.reference_few))
      go true d true e = rw (head_base (eqb-true _ _ e)) (omega (arith, length_take_le_length b.authority base, h.base_few))

  -- the path in scratch
  pub went_own : (x.authority ≡ 0 → ⊥) → (k : ℕ) (out' : List ℕ) → DotsRemoved (take (x.path - x.authority) (drop x.authority r)) k out' → Went base r k out'
  went_own a k out' d =
      record { text = d.text ∙ sym (path_own a); few = omega (arith, d.few, length_part_le (x.path - x.authority) x.authority r, h.reference_few) }

  pub went_base : x.authority ≡ 0 → x.path ≡ 0 → (o : List ℕ) (k : ℕ) (out' : List ℕ) → 512 ≤ length o
      → Sent o 0 (take (b.path - b.authority) (drop b.authority base)) k out' → Went base r k out'
  went_base y z o k out' l s =
      let f : k ≤ 255 = omega (arith, s.next_is, length_part_le (b.path - b.authority) b.authority base, h.base_few) in
      record { text = sent_text o out' _ k s (omega arith) ∙ sym (path_base y z); few = omega arith }

  pub went_merged : x.authority ≡ 0 → (x.path ≡ 0 → ⊥) → (k : ℕ) (out' : List ℕ)
      → Reached (not (eqb b.scheme b.authority)) (take (b.path - b.authority) (drop b.authority base)) (take x.path r) k out' → Went base r k out'
  went_merged y z k out' d = record {
    text = d.text ∙ sym (path_merged y z);
    few = omega (arith, d.few, length_part_le (b.path - b.authority) b.authority base, length_take_le_length x.path r, h.base_few, h.reference_few);
  }

-- recomposed
pub resolve_append : (base r path : List ℕ) → path ≡ (target base r).path
    → resolve base r ≡ (((target base r).scheme ++ (target base r).authority) ++ path) ++ ((target base r).query ++ (target base r).fragment)
unfolding resolve recompose
resolve_append base r path e = rw e (simp append_assoc)

-- a reference, judged
module _ (base r : List ℕ) (i : Bool) (ei : i ≡ package_iri base) where
  pub reference_base : not i ≡ true → resolve_reference base r ≡ Refused 9
  unfolding resolve_reference
  reference_base q = rw (← ei, not-true i q)

  module _ (qi : not i ≡ false) (j : Bool) (ej : j ≡ iri r) where
    pub reference_no : not j ≡ true → resolve_reference base r ≡ Refused 9
    unfolding resolve_reference
    reference_no q = rw (← ei, not-false i qi, ← ej, not-true j q)

    module _ (qj : not j ≡ false) where
      pub reference_text : resolve_reference base r ≡ Text (resolve base r) []
      unfolding resolve_reference
      reference_text = rw (← ei, not-false i qi, ← ej, not-false j qj)

      pub judged_few : (length base ≤ 255) × (length r ≤ 255)
      judged_few = (package_few base (sym ei ∙ not-false i qi), iri_few r (sym ej ∙ not-false j qj))
