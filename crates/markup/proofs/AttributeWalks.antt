-- Walks over attributes: one of them looked for by its name, those without a prefix counted. k of them were passed, the walk has come to i.
-- Assumes nothing.
use Prim.Native.Nat.{ℕ, suc, ◌+◌, ◌-◌, ◌≤◌, ◌<◌}
use native.Mathlib.Omega.{arith}
use mathlib.Core.Path.{◌≡◌, refl, sym, ap, ◌∙◌, subst}
use mathlib.Core.Bool.{Bool, true, false, cond}
use mathlib.Core.List.{List, [], ◌∷◌}
use mathlib.Core.Option.{Option}
use lib.ListN.{length, take, drop}
use Rattle.std.specs.Prelude.{Option as Optional, Some, None, IfSome, is_some}
use Rattle.base.specs.Buffer.{part}
use Rattle.chars.specs.Lists.{same}
use Rattle.markup.specs.Marks.{prefixed}
use Rattle.markup.specs.Tags.{Attribute, Has, HasNot, next_attribute, attributes_at, attribute_named, is_there, named, own}
use Rattle.markup.specs.Walks.{Spanned, SpanWithin, Sought, attribute_in, of_span, found_in}
use Rattle.markup.specs.declared.attributes.Span.{Span}
use Rattle.markup.proofs.AttributeLists.{attributes_first, attributes_none}
use Rattle.markup.proofs.AttributePlaces.{span_from}
use Rattle.markup.proofs.Distinct.{named_here, named_later, named_nil}

-- what stands at i
module _ (s : List ℕ) (i : ℕ) (r : Optional Span) (p : Spanned s i (next_attribute (drop i s)) r) where
  pub missing_is : r ≡ None → next_attribute (drop i s) ≡ HasNot
  missing_is e = sym p.is ∙ ap (of_span s) e

  module _ (sp : Span) (e : r ≡ Some sp) where
    pub given_is : next_attribute (drop i s) ≡ Has (attribute_in s sp) (drop sp.next s)
    given_is = sym p.is ∙ ap (of_span s) e

    pub given_within : SpanWithin s i sp
    given_within = subst (λ (x : Optional Span). IfSome x (SpanWithin s i)) e p.within

  module _ (count k : ℕ) where
    rest_none : r ≡ None → attributes_at (count - k) (drop i s) ≡ []
    rest_none e = attributes_none (count - k) (drop i s) (missing_is e)

    module _ (sp : Span) (e : r ≡ Some sp) (h : k < count) where
      rest_more : attributes_at (count - k) (drop i s) ≡ attribute_in s sp ∷ attributes_at (count - (k + 1)) (drop sp.next s)
      rest_more =
          let up : count - k ≡ suc (count - (k + 1)) = omega arith in
          ap (λ (j : ℕ). attributes_at j (drop i s)) up
          ∙ attributes_first (count - (k + 1)) (drop i s) (attribute_in s sp) (drop sp.next s) (given_is sp e)

rest_end : (t : List ℕ) (count k : ℕ) → count ≤ k → attributes_at (count - k) t ≡ []
unfolding attributes_at
rest_end t count k h = let z : count - k ≡ 0 = omega arith in ap (λ (j : ℕ). attributes_at j t) z

all_left : (t : List ℕ) (count : ℕ) → attributes_at count t ≡ attributes_at (count - 0) t
all_left t count = let z : count ≡ count - 0 = omega arith in ap (λ (j : ℕ). attributes_at j t) z

-- LOOKED FOR: w is the name
pub sought_begin : (w t : List ℕ) (count : ℕ) → attribute_named w (attributes_at count t) ≡ attribute_named w (attributes_at (count - 0) t)
sought_begin w t count = ap (attribute_named w) (all_left t count)

module _ (s : List ℕ) (i count k : ℕ) (w : List ℕ) (whole : Option Attribute) (so : whole ≡ attribute_named w (attributes_at (count - k) (drop i s))) where
  pub sought_end : (at : ℕ) → count ≤ k → Sought s at whole None
  sought_end at h = record { within = tt; is = sym (so ∙ ap (attribute_named w) (rest_end (drop i s) count k h) ∙ named_nil w) }

  module _ (r : Optional Span) (p : Spanned s i (next_attribute (drop i s)) r) where
    pub sought_none : (at : ℕ) → r ≡ None → Sought s at whole None
    sought_none at e = record { within = tt; is = sym (so ∙ ap (attribute_named w) (rest_none s i r p count k e) ∙ named_nil w) }

    module _ (sp : Span) (e : r ≡ Some sp) (h : k < count) (t : Bool)
        (test : t ≡ same (take (sp.name_end - sp.name) (drop sp.name s)) w) where
      whole_is : whole ≡ attribute_named w (attribute_in s sp ∷ attributes_at (count - (k + 1)) (drop sp.next s))
      whole_is = so ∙ ap (attribute_named w) (rest_more s i r p count k sp e h)

      test_is : same (part sp.name (sp.name_end - sp.name) s) w ≡ t
      unfolding part
      test_is = sym test

      pub sought_here : (at : ℕ) → at ≤ i → t ≡ true → Sought s at whole (Some sp)
      sought_here at g y =
          record {
            within = span_from s at i g (Some sp) (given_within s i r p sp e);
            is = sym (whole_is ∙ named_here w (attribute_in s sp) (attributes_at (count - (k + 1)) (drop sp.next s)) (test_is ∙ y));
          }

      pub sought_on : t ≡ false → whole ≡ attribute_named w (attributes_at (count - (k + 1)) (drop sp.next s))
      sought_on y = whole_is ∙ named_later w (attribute_in s sp) (attributes_at (count - (k + 1)) (drop sp.next s)) (test_is ∙ y)

-- whether there is one of the name from `at` to `end`
module _ (s : List ℕ) (from at end : ℕ) (xs : List Attribute) (r : Optional Span) (p : Sought s from (attribute_named (take (end - at) (drop at s)) xs) r) where
  pub named_found : is_some r ≡ named (part at (end - at) s) xs
  unfolding part
  named_found = go r ∙ ap is_there p.is
    where
      go : (x : Optional Span) → is_some x ≡ is_there (found_in s x)
      go (Some sp) = refl
      go None = refl

-- COUNTED: n of those passed have no prefix
own_nil : length (own []) ≡ 0
unfolding own
own_nil = refl

own_cons : (a : Attribute) (xs : List Attribute) → length (own (a ∷ xs)) ≡ cond (prefixed a.name) 0 1 + length (own xs)
unfolding own
own_cons a xs = go (prefixed a.name)
  where
    go : (q : Bool) → length (cond q (own xs) (a ∷ own xs)) ≡ cond q 0 1 + length (own xs)
    go true = omega arith
    go false = omega arith

pub own_begin : (t : List ℕ) (count : ℕ) → length (own (attributes_at count t)) ≡ 0 + length (own (attributes_at (count - 0) t))
own_begin t count =
    let e : length (own (attributes_at count t)) ≡ length (own (attributes_at (count - 0) t)) = ap (λ (l : List Attribute). length (own l)) (all_left t count) in
    omega arith

few : (q : Bool) (m : ℕ) → m ≡ cond q 0 1 → m ≤ 1
few true m e = omega arith
few false m e = omega arith

pub one_at_most : (s : List ℕ) (at end m : ℕ) → m ≡ cond (prefixed (part at (end - at) s)) 0 1 → m ≤ 1
one_at_most s at end m e = few (prefixed (part at (end - at) s)) m e

module _ (s : List ℕ) (i count k n whole : ℕ) (so : whole ≡ n + length (own (attributes_at (count - k) (drop i s)))) where
  pub own_end : count ≤ k → n ≡ whole
  own_end h =
      let z : length (own (attributes_at (count - k) (drop i s))) ≡ 0 = ap (λ (l : List Attribute). length (own l)) (rest_end (drop i s) count k h) ∙ own_nil in
      omega arith

  module _ (r : Optional Span) (p : Spanned s i (next_attribute (drop i s)) r) where
    pub own_none : r ≡ None → n ≡ whole
    own_none e =
        let z : length (own (attributes_at (count - k) (drop i s))) ≡ 0 = ap (λ (l : List Attribute). length (own l)) (rest_none s i r p count k e) ∙ own_nil in
        omega arith

    pub own_on : (sp : Span) → r ≡ Some sp → k < count →
        (m : ℕ) → m ≡ cond (prefixed (part sp.name (sp.name_end - sp.name) s)) 0 1 →
        whole ≡ n + m + length (own (attributes_at (count - (k + 1)) (drop sp.next s)))
    own_on sp e h m f =
        let a : Attribute = attribute_in s sp in
        let z : length (own (attributes_at (count - k) (drop i s))) ≡ m + length (own (attributes_at (count - (k + 1)) (drop sp.next s))) =
        ap (λ (l : List Attribute). length (own l)) (rest_more s i r p count k sp e h)
        ∙ own_cons a (attributes_at (count - (k + 1)) (drop sp.next s))
        ∙ ap (λ (j : ℕ). j + length (own (attributes_at (count - (k + 1)) (drop sp.next s)))) (sym f) in
        omega arith
