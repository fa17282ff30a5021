-- The root of a stream, from what was read of its tag, and what stands around it.
-- Assumes nothing.
use Prim.Native.Nat.{ℕ, ◌+◌, ◌-◌, ◌≤◌}
use native.Mathlib.Omega.{arith}
use mathlib.Core.Path.{◌≡◌, refl, sym, ap, ◌∙◌}
use mathlib.Core.Bool.{Bool, true, false}
use mathlib.Core.List.{List, [], ◌∷◌}
use lib.ListN.{length, drop, length-drop, drop_of_length-le}
use lib.Seq.{drop-drop}
use Rattle.std.specs.Prelude.{Result, Ok, Err, Option as Optional, Some, None}
use Rattle.chars.specs.Lists.{begins}
use Rattle.markup.specs.Marks.{Outcome, On, malformed}
use Rattle.markup.specs.Tags.{start_tag, opens}
use Rattle.markup.specs.Elements.{between}
use Rattle.markup.specs.Entries.{Entry}
use Rattle.markup.specs.Streams.{Said, Unread, where_on, choose, ended, root_held, root_of, root_at, xml_declaration, after_declaration, said}
use Rattle.markup.specs.Walks.{Walk, of_walk, Walked, of_tagged, TagAt}
use Rattle.markup.specs.EntryPlaces.{tag_in, RootAt}
use Rattle.markup.specs.StreamPlaces.{Rooted, EndsWith}
use Rattle.markup.specs.declared.marks.Fault.{Fault}
use Rattle.markup.specs.declared.marks.Fault.TheVariants.{Malformed}
use Rattle.markup.specs.declared.tags.StartTag.{StartTag}
use Rattle.markup.specs.declared.entries.Kind.{Kind}
use Rattle.markup.specs.declared.streams.Root.{Root}
use Rattle.markup.specs.declared.streams.Root.TheVariants.{Holds, Empty}
use Rattle.markup.proofs.Rests.{walked_at, tag_reach}

-- THE ROOT'S TAG, read from `at` on
module _ (K : Kind) {s : List ℕ} {at : ℕ} {r : Optional StartTag} (tag : TagAt s at r) where
  root_read : (x : Optional StartTag) → r ≡ x → root_of K (of_tagged s at x) ≡ root_of K (start_tag (drop at s))
  root_read x e = sym (ap (λ (y : Optional StartTag). root_of K (of_tagged s at y)) e) ∙ ap (root_of K) tag.is

  pub root_tagless : r ≡ None → Rooted K s (root_of K (start_tag (drop at s))) (Err Malformed)
  root_tagless e = record { within = tt; is = root_read None e }

  module _ {t : StartTag} (e : r ≡ Some t) {b : Bool} (is : RootAt K s at t.name_end t.count b) where
    abbrev holding : Bool → Said
    holding x = root_held K (tag_in s at t.name_end t.count x) (drop t.next s)

    root_named : (c : Bool) → b ≡ c → choose c (holding t.empty) (Unread malformed) ≡ root_of K (start_tag (drop at s))
    root_named c q =
        ap (λ (x : Bool). choose x (holding t.empty) (Unread malformed)) (sym q ∙ is.is t.empty) ∙ root_read (Some t) e

    pub root_other : b ≡ false → Rooted K s (root_of K (start_tag (drop at s))) (Err Malformed)
    root_other q = record { within = tt; is = root_named false q }

    module _ (q : b ≡ true) where
      root_held_lem : (x : Bool) → t.empty ≡ x → holding x ≡ root_of K (start_tag (drop at s))
      root_held_lem x z = sym (ap holding z) ∙ root_named true q

      pub root_empty : t.empty ≡ true → Rooted K s (root_of K (start_tag (drop at s))) (Ok (Empty t.next))
      root_empty z = record { within = (tag_reach tag e).2; is = root_held_lem true z }

      pub root_holds : t.empty ≡ false → Rooted K s (root_of K (start_tag (drop at s))) (Ok (Holds at t.name_end t.next))
      root_holds z = let l = tag_reach tag e in record { within = ((omega arith, omega arith), l.2); is = root_held_lem false z }

-- THE STREAM, behind its declaration at d
module _ (K : Kind) {s : List ℕ} {d : ℕ} (declared : (d ≤ length s) × (drop d s ≡ after_declaration s)) {w : Walk}
    (gap : Walked s d (between false (drop d s)) w) where
  stream_gap : (x : Walk) → w ≡ x → where_on (of_walk s x) (root_at K) ≡ said K s
  unfolding said
  stream_gap x e =
      sym (ap (λ (y : Walk). where_on (of_walk s y) (root_at K)) e)
      ∙ ap (λ (o : Outcome). where_on o (root_at K)) gap.is
      ∙ ap (λ (t : List ℕ). where_on (between false t) (root_at K)) declared.1

  pub stream_bad : {n : Fault} → w ≡ Err n → Rooted K s (said K s) (Err n)
  stream_bad {n} e = record { within = tt; is = stream_gap (Err n) e }

  module _ {t : ℕ} (e : w ≡ Ok t) {b : Bool} (o : b ≡ opens (drop t s)) where
    stream_root : (c : Bool) → b ≡ c → choose c (root_of K (start_tag (drop (t + 1) s))) (Unread malformed) ≡ said K s
    stream_root c q =
        ap (λ (x : Bool). choose x (root_of K (start_tag (drop (t + 1) s))) (Unread malformed)) (sym q ∙ o)
        ∙ ap (λ (x : List ℕ). choose (opens (drop t s)) (root_of K (start_tag x)) (Unread malformed)) (sym (drop-drop 1 t s))
        ∙ stream_gap (Ok t) e

    pub stream_none : b ≡ false → Rooted K s (said K s) (Err Malformed)
    stream_none q = record { within = tt; is = stream_root false q }

    pub stream_rooted : b ≡ true → {r : Result Root Fault} → Rooted K s (root_of K (start_tag (drop (t + 1) s))) r → Rooted K s (said K s) r
    stream_rooted q p = record { within = p.within; is = p.is ∙ stream_root true q }

-- the declaration
module _ (s : List ℕ) (b : Bool) (e : b ≡ begins xml_declaration (drop 0 s)) where
  pub declared : 38 ≤ length s → b ≡ true → (38 ≤ length s) × (drop 38 s ≡ after_declaration s)
  declared h q = let f : begins xml_declaration s ≡ true = sym e ∙ q in (h, rw f)

  pub undeclared : b ≡ false → (0 ≤ length s) × (drop 0 s ≡ after_declaration s)
  undeclared q = let f : begins xml_declaration s ≡ false = sym e ∙ q in (omega arith, rw f)

-- THE END: what stands behind the root, read from `at` on
module _ {s : List ℕ} {at : ℕ} {w : Walk} (gap : Walked s at (between false (drop at s)) w) where
  end_gap : (es : List Entry) (x : Walk) → w ≡ x → ended es (of_walk s x) ≡ ended es (between false (drop at s))
  end_gap es x e = sym (ap (λ (y : Walk). ended es (of_walk s y)) e) ∙ ap (ended es) gap.is

  pub end_off : {n : Fault} → w ≡ Err n → EndsWith s (between false (drop at s)) (Err n)
  end_off {n} e = record { is = λ es. end_gap es (Err n) e }

  module _ {t : ℕ} (e : w ≡ Ok t) where
    pub end_none : t ≡ length s → EndsWith s (between false (drop at s)) (Ok tt)
    end_none h = let g : length s ≤ t = omega arith in record { is = λ es. rw (drop_of_length-le s g) at (end_gap es (Ok t) e) }

    pub end_more : (t ≡ length s → ⊥) → EndsWith s (between false (drop at s)) (Err Malformed)
    end_more h = record { is = λ es. go es (drop t s) refl (end_gap es (Ok t) e) }
      where
        go : (es : List Entry) (x : List ℕ) → drop t s ≡ x → ended es (On x) ≡ ended es (between false (drop at s))
            → Unread malformed ≡ ended es (between false (drop at s))
        go es [] q f =
            let m : ◌≡◌ {A = ℕ} 0 (length s - t) = sym (ap length q) ∙ length-drop t s in
            let v = walked_at gap e in
            absurd (omega arith)
        go es (b ∷ x) q f = f
