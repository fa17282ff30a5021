-- The entries of the root's content, from what was read of their tags and of what they hold.
-- Assumes nothing.
use Prim.Native.Nat.{ℕ, ◌+◌, ◌-◌, ◌≤◌, ◌<◌}
use native.Mathlib.Omega.{arith}
use mathlib.Core.Path.{◌≡◌, refl, sym, ap, ◌∙◌, subst}
use mathlib.Core.Bool.{Bool, true, false, false≢true, true≢false}
use mathlib.Core.List.{List}
use mathlib.Core.Option.{Option, none, some}
use lib.ListN.{length, drop, length-drop}
use Rattle.std.specs.Prelude.{Result, Ok, Err, Option as Optional, Some, None, is_some, IfOk, MatchResult}
use Rattle.base.specs.Buffer.{part}
use Rattle.markup.specs.Marks.{Outcome, and_then}
use Rattle.markup.specs.Tags.{start_tag, end_tag}
use Rattle.markup.specs.Entries.{Entry}
use Rattle.markup.specs.Streams.{Said, Unread, where_on, with_entry, entry_held, judged, entry_then, entries_in}
use Rattle.markup.specs.Walks.{Reached, number, Walk, of_walk, Within, Walked, WalkedContent, of_tagged, TagAt}
use Rattle.markup.specs.EntryPlaces.{of_entered, Entering, tag_in, EntryAt}
use Rattle.markup.specs.StreamPlaces.{RefusedBy, TagThen, NextAt, ReadAt}
use Rattle.markup.specs.PiecePlaces.{HeldAt, started_entry, entry_in, is_entry, enter, of_piece, PieceWithin, PieceAt, EntryNextOf, EntryNextAt}
use Rattle.markup.specs.declared.marks.Fault.{Fault}
use Rattle.markup.specs.declared.marks.Fault.TheVariants.{Malformed}
use Rattle.markup.specs.declared.tags.StartTag.{StartTag}
use Rattle.markup.specs.declared.entries.Kind.{Kind}
use Rattle.markup.specs.declared.entries.Entered.{Entered as EnteredAt}
use Rattle.markup.specs.declared.entries.Entered.TheVariants.{Typed, Related}
use Rattle.markup.specs.declared.streams.Next.{Next}
use Rattle.markup.specs.declared.streams.Next.TheVariants.{Tag, End}
use Rattle.markup.specs.declared.pieces.Piece.{Piece}
use Rattle.markup.specs.declared.pieces.Piece.TheVariants.{Entered, Done}
use Rattle.markup.proofs.Rests.{within_from, content_at, tag_reach}

-- WHAT AN ENTRY HOLDS, whose name stands from `at` to `end` and whose start tag ends at `next`
pub holds_nothing : {s : List ℕ} {at end next : ℕ} {empty : Bool} → next ≤ length s → empty ≡ true → HeldAt s at end next empty (Ok next)
holds_nothing h e = record { within = (omega arith, h); is = λ count. rw e }

module _ {s : List ℕ} (at end : ℕ) {next : ℕ} {empty : Bool} (e : empty ≡ false) {w : Walk} (inside : WalkedContent s next 14 false w) where
  holds_content : (count : ℕ) (x : Walk) → w ≡ x
      → and_then (of_walk s x) (end_tag (part at (end - at) s)) ≡ entry_held (tag_in s at end count empty) (drop next s)
  holds_content count x f =
      let n : length (drop next s) ≡ length s - next = length-drop next s in
      sym (ap (λ (y : Walk). and_then (of_walk s y) (end_tag (part at (end - at) s))) f)
      ∙ rw (e, ← inside.is (length (drop next s)) (omega arith))

  pub holds_off : {n : Fault} → w ≡ Err n → HeldAt s at end next empty (Err n)
  holds_off {n} f = record { within = tt; is = λ count. holds_content count (Err n) f }

  pub holds_on : {d : ℕ} → w ≡ Ok d → {x : Walk} → Walked s d (end_tag (part at (end - at) s) (drop d s)) x → HeldAt s at end next empty x
  holds_on {d} f {x} q = record {
    within = within_from s next d (content_at inside f).0 x q.within;
    is = λ count. q.is ∙ holds_content count (Ok d) f;
  }

-- what the code tells of an entry
entered_not : (s : List ℕ) (a : Optional EnteredAt) → is_some a ≡ false → of_entered s a ≡ none
entered_not s (Some x) e = absurd (true≢false e)
entered_not s None e = refl

entered_is : (s : List ℕ) (a : Optional EnteredAt) → is_some a ≡ true → is_entry (of_entered s a) ≡ true
entered_is s (Some (Typed default key media)) e = refl
entered_is s (Some (Related id iri mode target)) e = refl
entered_is s None e = absurd (false≢true e)

-- AN ENTRY whose tag was read from `at` on
abbrev entry_from : Kind → List ℕ → ℕ → (List ℕ → Said) → Said
entry_from K s at f = entry_then K f (start_tag (drop at s))

module _ (K : Kind) {s : List ℕ} {at : ℕ} {r : Optional StartTag} (tag : TagAt s at r) where
  entry_read : (f : List ℕ → Said) (x : Optional StartTag) → r ≡ x → entry_then K f (of_tagged s at x) ≡ entry_from K s at f
  entry_read f x e = sym (ap (λ (y : Optional StartTag). entry_then K f (of_tagged s at y)) e) ∙ ap (entry_then K f) tag.is

  -- by the places of its values
  pub no_entry : r ≡ None → Entering s (entry_in K s at) None
  no_entry e = record { within = tt; is = sym (ap (λ (x : Optional StartTag). started_entry K (of_tagged s at x)) e) ∙ ap (started_entry K) tag.is }

  entry_told : {t : StartTag} → r ≡ Some t → {a : Optional EnteredAt} → EntryAt K s at t.name_end t.count a → entry_in K s at ≡ of_entered s a
  entry_told {t} e p = ap (started_entry K) (sym tag.is) ∙ ap (λ (x : Optional StartTag). started_entry K (of_tagged s at x)) e ∙ sym (p.is t.empty)

  pub entering : {t : StartTag} → r ≡ Some t → {a : Optional EnteredAt} → EntryAt K s at t.name_end t.count a → Entering s (entry_in K s at) a
  entering e p = record { within = p.within; is = sym (entry_told e p) }

  pub entry_tagless : r ≡ None → PieceAt K s at (entry_from K s at) (Err Malformed)
  entry_tagless e = record { within = tt; is = λ f. entry_read f None e }

  module _ {t : StartTag} (e : r ≡ Some t) {a : Optional EnteredAt} (entered : EntryAt K s at t.name_end t.count a) where
    abbrev judging : (List ℕ → Said) → Option Entry → Said
    judging f x = judged f (tag_in s at t.name_end t.count t.empty) (drop t.next s) x

    entry_judged : (f : List ℕ → Said) (x : Option Entry) → of_entered s a ≡ x → judging f x ≡ entry_from K s at f
    entry_judged f x q = ap (judging f) (sym q ∙ entered.is t.empty) ∙ entry_read f (Some t) e

    entry_is : entry_in K s at ≡ of_entered s a
    entry_is = entry_told e entered

    is_entry_lem : is_some a ≡ true → is_entry (entry_in K s at) ≡ true
    is_entry_lem q = ap is_entry entry_is ∙ entered_is s a q

    -- it is no entry
    pub entry_none : is_some a ≡ false → PieceAt K s at (entry_from K s at) (Err Malformed)
    entry_none q = record { within = tt; is = λ f. entry_judged f none (entered_not s a q) }

    -- it is one
    module _ (q : is_some a ≡ true) {w : Walk} (held : HeldAt s at t.name_end t.next t.empty w) where
      some_judged : (f : List ℕ → Said) (x : Option Entry) → is_entry x ≡ true → enter x (where_on (of_walk s w) f) ≡ judging f x
      some_judged f none o = absurd (false≢true o)
      some_judged f (some x) o = ap (λ (y : Outcome). with_entry x (where_on y f)) (held.is t.count)

      entry_some : (f : List ℕ → Said) (x : Walk) → w ≡ x → enter (entry_in K s at) (where_on (of_walk s x) f) ≡ entry_from K s at f
      entry_some f x z =
          sym (ap (λ (y : Walk). enter (entry_in K s at) (where_on (of_walk s y) f)) z)
          ∙ some_judged f (entry_in K s at) (is_entry_lem q) ∙ ap (judging f) entry_is ∙ entry_judged f (of_entered s a) refl

      off_enter : (x : Option Entry) (n : ℕ) → is_entry x ≡ true → Unread n ≡ enter x (Unread n)
      off_enter none n o = absurd (false≢true o)
      off_enter (some x) n o = refl

      pub entry_off : {n : Fault} → w ≡ Err n → PieceAt K s at (entry_from K s at) (Err n)
      entry_off {n} z = record { within = tt; is = λ f. off_enter (entry_in K s at) (number n) (is_entry_lem q) ∙ entry_some f (Err n) z }

      pub entry_on : {d : ℕ} → w ≡ Ok d → PieceAt K s at (entry_from K s at) (Ok (Entered at d))
      entry_on {d} z =
          let v : Reached s t.next d = subst (λ (x : Walk). Within s t.next x) z held.within in
          let l = tag_reach tag e in
          record { within = (omega arith, omega arith, v.1, is_entry_lem q); is = λ f. entry_some f (Ok d) z }

-- THE NEXT ENTRY, of content that begins at a
module _ {s : List ℕ} {a : ℕ} (h : a ≤ length s) {r : Result Next Fault} (read : ReadAt s a r) where
  next_is : (x : Result Next Fault) → r ≡ x → NextAt s a x
  next_is x e = subst (λ (y : Result Next Fault). NextAt s a y) e (read.is h)

  pub entry_end_lem : {K : Kind} {n : ℕ} → r ≡ Ok (End n) → EntryNextAt K s a (Ok (Done n))
  entry_end_lem {K} {n} e = let v = next_is (Ok (End n)) e in record { within = v.within; is = λ k g. v.is K k g }

  pub entry_fail : {K : Kind} {n : Fault} → r ≡ Err n → EntryNextAt K s a (Err n)
  entry_fail {K} {n} e = record { within = tt; is = λ k g. (next_is (Err n) e).is K k g }

  module _ {t : ℕ} (e : r ≡ Ok (Tag t)) where
    pub tag_at_lem : (a < t) × (t ≤ length s)
    tag_at_lem = (next_is (Ok (Tag t)) e).within

    pub entry_next : {K : Kind} {q : Result Piece Fault} → PieceAt K s t (entry_from K s t) q → EntryNextAt K s a q
    entry_next {K} {q} p = record { within = within q p.within; is = λ k g. go k g q p.within p.is }
      where
        within : (x : Result Piece Fault) → IfOk x (PieceWithin K s t) → IfOk x (PieceWithin K s a)
        within (Ok (Entered u next)) w = let v = tag_at_lem in (omega arith, w.1, w.2, w.3)
        within (Ok (Done n)) w = let v = tag_at_lem in (omega arith, w.1)
        within (Err n) w = tt

        then : (k : ℕ) → length s ≤ a + k → TagThen K s t (entries_in K k (drop a s))
        then k g = (next_is (Ok (Tag t)) e).is K k g

        go : (k : ℕ) → length s ≤ a + k → (x : Result Piece Fault) → IfOk x (PieceWithin K s t)
            → ((f : List ℕ → Said) → of_piece K s f x ≡ entry_from K s t f)
            → MatchResult x (EntryNextOf K s (entries_in K k (drop a s))) (RefusedBy (entries_in K k (drop a s)))
        go k g (Ok (Entered u next)) w is =
            let c = then k g in
            let m : length s ≤ t + c.calls = c.enough in
            record { calls = c.calls; enough = omega (arith, m, w.0); is = c.is ∙ sym (is (λ (x : List ℕ). entries_in K c.calls x)) }
        go k g (Ok (Done n)) w is = let c = then k g in c.is ∙ sym (is (λ (x : List ℕ). entries_in K c.calls x))
        go k g (Err n) w is = let c = then k g in c.is ∙ sym (is (λ (x : List ℕ). entries_in K c.calls x))
