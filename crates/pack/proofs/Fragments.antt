-- A package IRI without its fragment is a package IRI.
-- Assumes nothing.
use Prim.Native.Nat.{ℕ, ◌+◌, ◌≤◌, suc, ◌<◌}
use mathlib.Core.Path.{◌≡◌, ap, ◌∙◌, sym}
use mathlib.Core.Bool.{false, ◌&&◌, cond, true, not, Bool, ◌||◌}
use mathlib.Core.List.{List, ◌∷◌, []}
use mathlib.Core.Logic.{⊎_elim}
use native.Mathlib.Nat.{eq-or-lt_of_le}
use native.Mathlib.Omega.{arith}
use lib.Dec.{eqb}
use lib.ListN.{get_or, length, take, drop, get_or-eq_default, drop_of_length-le}
use lib.Seq.{length-take-le, get_or-take, take-take}
use borrow.Author.Tests.{eqb-true, ne_eqb, eq-eqb, le-leb}
use Rattle.chars.specs.Bytes.{member, number_sign, colon, slash, within}
use Rattle.chars.specs.Characters.{unit}
use Rattle.chars.specs.Lists.{tiled, index_of, first_passing, lacks}
use Rattle.chars.specs.declared.search.Alphabet.TheVariants.{SchemeEnd}
use Rattle.chars.specs.declared.units.Grammar.TheVariants.{Iri}
use Rattle.base.proofs.Bools.{and_true, and_left, and_right}
use Rattle.chars.proofs.Searches.{index_le}
use Rattle.names.specs.Iris.{package_iri, iri, colon_first, scheme, scheme_end}
use Rattle.iri.specs.Components.{question}
use Rattle.pack.specs.Pack.{unfragmented}
use Rattle.base.proofs.Cases.{by_value}
use Rattle.names.proofs.Lengths.{package_few}
use Rattle.chars.proofs.FirstBytes.{at_index, first_take, index_before}
use Rattle.chars.proofs.UnitEnds.{tiled_front}

-- an end comes no later than the first number sign
first_before : (s : List ℕ) → first_passing (member SchemeEnd) s ≤ index_of number_sign s
unfolding first_passing member
first_before [] = omega arith
first_before (x ∷ s) =
    by_value (λ (y : ℕ). first_passing (member SchemeEnd) (y ∷ s) ≤ cond (eqb y number_sign) 0 (suc (index_of number_sign s))) x number_sign
    (omega arith)
    (λ d. rw (ne_eqb x number_sign d) (go (eqb x colon || (eqb x slash || (eqb x question || (false || false)))) (first_before s)))
  where
    go : (q : Bool) → first_passing (member SchemeEnd) s ≤ index_of number_sign s → cond q 0 (suc (first_passing (member SchemeEnd) s)) ≤ suc (index_of number_sign s)
    go true h = omega arith
    go false h = omega arith

-- where a scheme is, its colon stands before the number sign
module _ (p : List ℕ) (h : package_iri p ≡ true) where
  is_iri : iri p ≡ true
  unfolding package_iri
  is_iri = and_left (iri p) (colon_first p) h

  colon_at : get_or p (scheme_end p) 0 ≡ colon
  unfolding package_iri colon_first
  colon_at = eqb-true (get_or p (scheme_end p) 0) colon (and_right (iri p) (colon_first p) h)

  -- the colon is before the number sign
  early : first_passing (member SchemeEnd) p < index_of number_sign p
  early = ⊎_elim
      (λ q. ⊎_elim
      (λ l. absurd (let z : get_or p (first_passing (member SchemeEnd) p) 0 ≡ 0 = get_or-eq_default p 0 (let a : length p ≤ first_passing (member SchemeEnd) p = omega arith in a) in omega (arith, colon_at)))
      (λ l. absurd (let z : get_or p (index_of number_sign p) 0 ≡ number_sign = at_index number_sign p l in let y : get_or p (index_of number_sign p) 0 ≡ colon = ap (λ (i : ℕ). get_or p i 0) (sym q) ∙ colon_at in omega arith))
      (eq-or-lt_of_le (index_le number_sign p)))
      (λ l. l)
      (eq-or-lt_of_le (first_before p))

  before_length : length (unfragmented p) ≡ index_of number_sign p
  unfolding unfragmented
  before_length = length-take-le (index_of number_sign p) p (index_le number_sign p)

  pub before_index : index_of number_sign (unfragmented p) ≡ length (unfragmented p)
  unfolding unfragmented
  before_index = index_before number_sign p

  pub before_lacks : lacks number_sign (unfragmented p) ≡ true
  unfolding lacks
  before_lacks = eq-eqb (index_of number_sign (unfragmented p)) (length (unfragmented p)) before_index

  before_first : first_passing (member SchemeEnd) (unfragmented p) ≡ first_passing (member SchemeEnd) p
  unfolding unfragmented
  before_first = first_take (member SchemeEnd) p (index_of number_sign p) early

  before_colon : get_or (unfragmented p) (first_passing (member SchemeEnd) p) 0 ≡ colon
  unfolding unfragmented
  before_colon = get_or-take (index_of number_sign p) p (first_passing (member SchemeEnd) p) 0 early ∙ colon_at

  before_scheme : take (first_passing (member SchemeEnd) p) (unfragmented p) ≡ take (first_passing (member SchemeEnd) p) p
  unfolding unfragmented
  before_scheme = take-take (first_passing (member SchemeEnd) p) (index_of number_sign p) p (let e = early in omega arith)

  pub before_size : length (unfragmented p) ≤ 255
  before_size = omega (arith, package_few p h, before_length, index_le number_sign p)

  tiles : tiled (unit Iri) 0 p ≡ true → tiled (unit Iri) 0 (unfragmented p) ≡ true
  unfolding unfragmented
  tiles e = tiled_front p e

  before_iri : iri (unfragmented p) ≡ true
  unfolding iri colon_first lacks first_passing
  before_iri = let a = within 1 255 (length p) in let b = tiled (unit Iri) 0 p in let c = lacks number_sign (drop (index_of number_sign p + 1) p) in
      let d = not (eqb (get_or p (first_passing (member SchemeEnd) p) 0) colon) || scheme (take (first_passing (member SchemeEnd) p) p) in
      let t : tiled (unit Iri) 0 p ≡ true = and_right a b (and_left (a && b) c (and_left (a && b && c) d is_iri)) in
      let u : tiled (unit Iri) 0 (unfragmented p) ≡ true = tiles t in
      let n : (not (eqb colon colon) || scheme (take (first_passing (member SchemeEnd) p) p)) ≡ true = rw colon_at at (and_right (a && b && c) d is_iri) in
      let f : length (unfragmented p) ≤ index_of number_sign (unfragmented p) + 1 = omega (arith, before_index) in
      let v : drop (index_of number_sign (unfragmented p) + 1) (unfragmented p) ≡ [] = drop_of_length-le (unfragmented p) f in
      rw (before_first, before_colon, before_scheme, v, u, le-leb 1 (length (unfragmented p)) (omega (arith, before_length, early)), le-leb (length (unfragmented p)) 255 before_size) n

  pub before_package : package_iri (unfragmented p) ≡ true
  unfolding package_iri colon_first
  before_package = and_true (iri (unfragmented p)) _ before_iri (rw (before_first, before_colon))
