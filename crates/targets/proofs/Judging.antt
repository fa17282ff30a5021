-- Sources and targets of relationships, from what their judges ensure.
-- Assumes nothing.
use Prim.Native.Nat.{ℕ, ◌≤◌}
use mathlib.Core.Path.{◌≡◌, refl, ◌∙◌, sym, ap}
use mathlib.Core.Bool.{true, ◌&&◌, Bool, false, not, cond}
use mathlib.Core.List.{List, []}
use native.Mathlib.Omega.{arith}
use lib.Dec.{eqb}
use lib.ListN.{length, take}
use lib.Seq.{length-take-le}
use borrow.Author.Tests.{not-true, not-false, le-leb, eq-eqb, ne_eqb}
use Rattle.chars.specs.Bytes.{ascii}
use Rattle.chars.specs.Lists.{same, is_empty}
use Rattle.base.proofs.Bools.{and_left, and_assoc}
use Rattle.chars.proofs.Equivalence.{same_eq}
use Rattle.names.specs.Iris.{iri}
use Rattle.names.specs.Names.{part_name, reserved}
use Rattle.output.specs.Answers.{Refused, Text}
use Rattle.iri.specs.Components.{scheme_of, authority_of, query_of, fragment_of}
use Rattle.iri.specs.Scratch.{SplitAt, Reached}
use Rattle.targets.specs.Scratch.{NamedAs}
use Rattle.output.proofs.Answering.{number_some, unless_refused}
use Rattle.targets.specs.Targets.{source_refusal, internal, internal_refusal, resolve_path, target_refusal, target_refusal_from, resolve_target}
use Rattle.output.specs.Refusals.{number}
use Rattle.output.specs.declared.refusals.Refusal.{Refusal}
use Rattle.std.specs.Prelude.{Ok}
use Rattle.base.proofs.Lists.{length_take_le_length}
use Rattle.iri.proofs.Splitting.{none_before, none_after}
use Rattle.names.proofs.Lengths.{iri_few, name_few}

-- a source, judged
pub source_root : (s : List ℕ) (x : Bool) → x ≡ same s (ascii "/") → x ≡ true → source_refusal s ≡ 0
unfolding source_refusal
source_root s x e q = rw (← e, q)

module _ (s : List ℕ) (x : Bool) (ex : x ≡ same s (ascii "/")) (qx : x ≡ false) (y : Bool) (ey : y ≡ part_name s) where
  pub source_no : not y ≡ true → source_refusal s ≡ 4
  unfolding source_refusal
  source_no q = rw (← ex, qx, ← ey, not-true y q)

  module _ (qy : not y ≡ false) (z : Bool) (ez : z ≡ reserved s) where
    pub source_reserved : z ≡ true → source_refusal s ≡ 5
    unfolding source_refusal
    source_reserved q = rw (← ex, qx, ← ey, not-false y qy, ← ez, q)

    pub source_passes : z ≡ false → source_refusal s ≡ 0
    unfolding source_refusal
    source_passes q = rw (← ex, qx, ← ey, not-false y qy, ← ez, q)

pub source_few : (s : List ℕ) → source_refusal s ≡ 0 → length s ≤ 255
unfolding source_refusal
source_few s z = go (same s (ascii "/")) refl (part_name s) refl z
  where
    go : (p : Bool) → same s (ascii "/") ≡ p → (q : Bool) → part_name s ≡ q → ◌≡◌ {A = ℕ} (cond p 0 (cond q (cond (reserved s) 5 0) 4)) 0 → length s ≤ 255
    go true e q f h = rw (same_eq s (ascii "/") e) (omega arith)
    go false e true f h = name_few s f
    go false e false f h = absurd (omega arith)

-- an internal target
pub internal_no : (t : List ℕ) (i : Bool) → i ≡ iri t → not i ≡ true → internal t ≡ false
unfolding internal
internal_no t i e q = rw (← e, not-true i q)

pub internal_is : (t : List ℕ) (a b p q : ℕ) (i : Bool) → i ≡ iri t → not i ≡ false → SplitAt t a b p q → internal t ≡ eqb b 0 && eqb p (length t)
unfolding internal
internal_is t a b p q i e n h =
    rw (← e, not-false i n) (and_assoc (is_empty (scheme_of t) && is_empty (authority_of t)) (is_empty (query_of t)) (is_empty (fragment_of t)) ∙ rw (none_before t a b p q h, none_after t a b p q h))

-- the name that it resolves to
module _ (source target : List ℕ) (i : Bool) (ei : i ≡ internal target) where
  pub target_no : not i ≡ true → internal_refusal source target ≡ 9
  unfolding internal_refusal
  target_no q = rw (← ei, not-true i q)

  module _ (qi : not i ≡ false) where
    pub target_few : length target ≤ 255
    unfolding internal
    target_few =
        let a = iri target in
        let b = is_empty (scheme_of target) in
        let c = is_empty (authority_of target) in
        let d = is_empty (query_of target) in
        iri_few target (and_left a b (and_left (a && b) c (and_left (a && b && c) d (and_left (a && b && c && d) (is_empty (fragment_of target)) (sym ei ∙ not-false i qi)))))

    module _ (k : ℕ) (out : List ℕ) (r : Reached true source target k out) where
      is_path : take k out ≡ resolve_path source target
      unfolding resolve_path
      is_path = r.text

      module _ (p : Bool) (ep : p ≡ part_name (take k out)) where
        pub target_none : not p ≡ true → internal_refusal source target ≡ 9
        unfolding internal_refusal
        target_none q = rw (← ei, not-false i qi, ← is_path, ← ep, not-true p q)

        module _ (qp : not p ≡ false) (v : Bool) (ev : v ≡ reserved (take k out)) where
          pub target_reserved : v ≡ true → internal_refusal source target ≡ 5
          unfolding internal_refusal
          target_reserved q = rw (← ei, not-false i qi, ← is_path, ← ep, not-false p qp, ← ev, q)

          target_passes : v ≡ false → internal_refusal source target ≡ 0
          unfolding internal_refusal
          target_passes q = rw (← ei, not-false i qi, ← is_path, ← ep, not-false p qp, ← ev, q)

          pub target_named : v ≡ false → k ≤ length out → NamedAs source target (Ok k) out
          target_named q l = (target_passes q, is_path, sym (length-take-le k out l) ∙ ap length is_path)

pub named_le : (source target out : List ℕ) (k : ℕ) → NamedAs source target (Ok k) out → k ≤ length out
named_le source target out k h = let e : k ≡ length (take k out) = h.2 ∙ ap length (sym h.1) in omega (arith, length_take_le_length k out)

-- a target's refusal, by its mode
module _ (mode : ℕ) (source target : List ℕ) (l : length source ≤ 255) where
  pub refusal_internal : mode ≡ 0 → target_refusal_from mode source target ≡ internal_refusal source target
  unfolding target_refusal
  refusal_internal z = rw (le-leb (length source) 255 l, eq-eqb mode 0 z)

  module _ (z : mode ≡ 0 → ⊥) (i : Bool) (ei : i ≡ iri target) where
    pub refusal_none : i ≡ true → target_refusal_from mode source target ≡ 0
    unfolding target_refusal
    refusal_none q = rw (le-leb (length source) 255 l, ne_eqb mode 0 z, ← ei, q)

    pub refusal_9 : i ≡ false → target_refusal_from mode source target ≡ 9
    unfolding target_refusal
    refusal_9 q = rw (le-leb (length source) 255 l, ne_eqb mode 0 z, ← ei, q)

-- any number but 0 is external
pub by_number : (mode : ℕ) (source target : List ℕ) → (mode ≡ 0 → ⊥) → target_refusal_from 1 source target ≡ target_refusal_from mode source target
unfolding target_refusal
by_number mode source target z = rw (ne_eqb mode 0 z)

pub target_source : (source target : List ℕ) (r : Refusal) → number r ≡ source_refusal source
    → resolve_target source target ≡ Refused (number r)
unfolding resolve_target
target_source source target r e = rw (← e) (unless_refused (number r) _ (number_some r))

module _ (source target : List ℕ) (e : source_refusal source ≡ 0) where
  pub target_refused : (r : Refusal) → internal_refusal source target ≡ number r → resolve_target source target ≡ Refused (number r)
  unfolding resolve_target
  target_refused r f = rw (e, f) (unless_refused (number r) _ (number_some r))

  pub target_text : internal_refusal source target ≡ 0 → resolve_target source target ≡ Text (resolve_path source target) []
  unfolding resolve_target
  target_text f = rw (e, f)
