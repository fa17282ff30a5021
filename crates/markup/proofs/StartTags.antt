-- The attributes of a start tag, and the tag.
-- Assumes nothing.
use Prim.Native.Nat.{ℕ, ◌+◌, ◌-◌, ◌≤◌, ◌<◌}
use native.Mathlib.Omega.{arith}
use mathlib.Core.Path.{◌≡◌, refl, sym, ap, ◌∙◌, subst}
use mathlib.Core.Bool.{Bool, true, false, cond}
use mathlib.Core.List.{List, [], ◌∷◌, ◌++◌}
use lib.ListN.{length, get_or, drop, set, length-drop, length-set}
use Rattle.std.specs.Prelude.{Option as Optional, Some, None, IfSome}
use Rattle.base.specs.Buffer.{part}
use Rattle.markup.specs.Marks.{name_at, after_blanks}
use Rattle.markup.specs.Tags.{Attribute, next_attribute, attributes_at, after_attributes, distinct, named, NoTag, closing, start_after, start_tag}
use Rattle.markup.specs.Walks.{Reached, Spanned, SpanWithin, attribute_in, mark_of, Marked, AllListed, TagListed, ListedAt, EndAt, EndWithin, TagAt, TagWithin}
use Rattle.markup.specs.declared.attributes.Span.{Span}
use Rattle.markup.specs.declared.tags.Listed.{Listed}
use Rattle.markup.specs.declared.tags.StartTag.{StartTag}
use Rattle.markup.proofs.AttributeLists.{attributes_more, behind_more, attributes_on, attributes_all, behind_all}
use Rattle.markup.proofs.AttributeWalks.{missing_is, given_is, given_within}
use Rattle.markup.proofs.Distinct.{distinct_more, distinct_not}
use Rattle.markup.proofs.NameMarks.{marked_more, unmarked}
use Rattle.markup.proofs.NameTexts.{name_part, behind_name, no_name_at, name_at_lem}

-- THE LOOP over the attributes from `at` on has read k and come to i
pub record Listing (s : List ℕ) (at : ℕ) (marks : List Bool) (i k : ℕ) : Type 0 where
  pub from : at + k ≤ i
  pub to : i ≤ length s
  pub size : length marks ≡ 64
  pub marked : Marked marks (attributes_at k (drop at s))
  pub distinctly : distinct (attributes_at k (drop at s)) ≡ true
  pub rest : after_attributes k (drop at s) ≡ drop i s

pub listing_none : (s : List ℕ) (at : ℕ) (marks : List Bool) → at ≤ length s → length marks ≡ 64 → Listing s at marks at 0
unfolding attributes_at after_attributes distinct
listing_none s at marks h e = record { from = omega arith; to = h; size = e; marked = tt; distinctly = refl; rest = refl }

module _ (s : List ℕ) (at : ℕ) (marks : List Bool) (i k : ℕ) (so : Listing s at marks i k) where
  -- a name whose mark is not set
  pub listing_new : (w : List ℕ) (m : ℕ) → m ≡ mark_of w → get_or marks m false ≡ false → named w (attributes_at k (drop at s)) ≡ false
  listing_new w m e f =
      unmarked marks w (attributes_at k (drop at s)) so.marked
      (ap (λ (j : ℕ). get_or marks j false) (sym e) ∙ f)

  module _ (r : Optional Span) (p : Spanned s i (next_attribute (drop i s)) r) where
    -- there are no more
    pub listing_all : r ≡ None → (q : ℕ) → Reached s i q → drop q s ≡ after_blanks (drop i s) → TagListed s at k q
    listing_all e q h b = record {
      end = i;
      listed = record { within = (so.from, so.to); distinctly = so.distinctly; rest = so.rest; none = missing_is s i r p e };
      within = h;
      behind = b;
    }

    -- one more
    module _ (sp : Span) (e : r ≡ Some sp) where
      pub listing_repeated : named (part sp.name (sp.name_end - sp.name) s) (attributes_at k (drop at s)) ≡ true →
          distinct (attributes_at (length (drop at s)) (drop at s)) ≡ false
      listing_repeated f =
          let a : Attribute = attribute_in s sp in
          let w : SpanWithin s i sp = given_within s i r p sp e in
          let l : length (drop at s) ≡ length s - at = length-drop at s in
          let g : at + k ≤ i = so.from in
          ap distinct (attributes_on k (drop at s) (drop i s) so.rest a (drop sp.next s) (given_is s i r p sp e)
          (length (drop at s)) (omega arith))
          ∙ distinct_not (attributes_at k (drop at s)) a (attributes_at (length (drop at s) - k - 1) (drop sp.next s)) f

      pub listing_more : (m : ℕ) → m ≡ mark_of (part sp.name (sp.name_end - sp.name) s) → m < 64 →
          named (part sp.name (sp.name_end - sp.name) s) (attributes_at k (drop at s)) ≡ false →
          Listing s at (set marks m true) sp.next (k + 1)
      listing_more m q h f =
          let a : Attribute = attribute_in s sp in
          let w : SpanWithin s i sp = given_within s i r p sp e in
          let x = given_is s i r p sp e in
          let l : length marks ≡ 64 = so.size in
          let g : at + k ≤ i = so.from in
          let more : attributes_at (k + 1) (drop at s) ≡ attributes_at k (drop at s) ++ (a ∷ []) =
          attributes_more k (drop at s) (drop i s) so.rest a (drop sp.next s) x in
          record {
            from = omega arith;
            to = w.5;
            size = length-set marks m true ∙ l;
            marked = rw more (marked_more marks m (attributes_at k (drop at s)) a q (omega arith) so.marked);
            distinctly = ap distinct more ∙ distinct_more (attributes_at k (drop at s)) a so.distinctly f;
            rest = behind_more k (drop at s) (drop i s) so.rest a (drop sp.next s) x;
          }

-- what the attributes of a tag are told to be
module _ (s : List ℕ) (at : ℕ) (r : Optional Listed) (p : ListedAt s at r) where
  pub listed_all : (l : Listed) → r ≡ Some l → TagListed s at l.count l.next
  listed_all l e = subst (λ (x : Optional Listed). ListedAt s at x) e p

  pub listed_repeated : r ≡ None → distinct (attributes_at (length (drop at s)) (drop at s)) ≡ false
  listed_repeated e = subst (λ (x : Optional Listed). ListedAt s at x) e p

-- THE TAG: its name ends at n
module _ (s : List ℕ) (at n : ℕ) (within : Reached s at n) (here : n ≡ at + length (name_at (drop at s))) where
  pub tag_nameless : n ≡ at → TagAt s at None
  unfolding start_tag
  tag_nameless e = record { within = tt; is = rw (no_name_at s at n here e) }

  module _ (some : n ≡ at → ⊥) where
    start_is : start_tag (drop at s) ≡ start_after (part at (n - at) s) (drop n s)
    unfolding start_tag
    start_is = rw (name_at_lem s at n here some, ← behind_name s at n here, name_part s at n here)

    pub tag_repeated : distinct (attributes_at (length (drop n s)) (drop n s)) ≡ false → TagAt s at None
    tag_repeated e =
        record {
          within = tt;
          is = sym (start_is ∙ ap (λ (b : Bool). cond b (closing (part at (n - at) s) (attributes_at (length (drop n s)) (drop n s))
              (after_blanks (after_attributes (length (drop n s)) (drop n s)))) NoTag) e);
        }

    -- its attributes end at `end`, the blanks behind them at q
    module _ (count end q : ℕ) (all : AllListed s n count end) (blanks : drop q s ≡ after_blanks (drop end s)) where
      start_closing : start_tag (drop at s) ≡ closing (part at (n - at) s) (attributes_at count (drop n s)) (drop q s)
      start_closing =
          let name : List ℕ = part at (n - at) s in
          let l : length (drop n s) ≡ length s - n = length-drop n s in
          let m : ℕ = length (drop n s) in
          let h : count ≤ m = omega (arith, all.within.0, all.within.1) in
          let xs : attributes_at m (drop n s) ≡ attributes_at count (drop n s) = attributes_all count (drop n s) (drop end s) all.rest all.none m h in
          let t : after_attributes m (drop n s) ≡ drop end s = behind_all count (drop n s) (drop end s) all.rest all.none m h in
          start_is
          ∙ ap (λ (ys : List Attribute). cond (distinct ys) (closing name ys (after_blanks (after_attributes m (drop n s)))) NoTag) xs
          ∙ ap (λ (b : Bool). cond b (closing name (attributes_at count (drop n s)) (after_blanks (after_attributes m (drop n s)))) NoTag) all.distinctly
          ∙ ap (λ (y : List ℕ). closing name (attributes_at count (drop n s)) y) (ap after_blanks t ∙ sym blanks)

      tag_within : end ≤ q → (r : Optional StartTag) → IfSome r (EndWithin s n count q) → IfSome r (TagWithin s at)
      tag_within h (Some t) w =
          let g : (n + count ≤ end) × (end ≤ length s) = all.within in
          let a : at ≤ n = within.0 in
          (omega arith, omega arith, w.3)
      tag_within h None w = tt

      pub tag_is : end ≤ q → (r : Optional StartTag) → EndAt s n count q r → TagAt s at r
      tag_is h r p = record { within = tag_within h r p.within; is = p.is at ∙ sym start_closing }
