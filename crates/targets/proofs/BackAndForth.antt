-- The Relationships part of a source, and back: back of forth is the source, forth of back is equivalent to the name.
-- Assumes nothing.
use Prim.Native.Nat.{ℕ, ◌+◌, ◌-◌, suc, ◌≤◌, zero}
use mathlib.Core.Path.{◌≡◌, ap, ◌∙◌, sym, refl, subst}
use mathlib.Core.Bool.{true, Bool, false, ◌&&◌}
use mathlib.Core.List.{List, ◌++◌, ◌∷◌, append_assoc, []}
use native.Mathlib.Omega.{arith}
use lib.Dec.{leb, eqb}
use lib.ListN.{length, length-append, drop, take, take-append-drop}
use lib.Seq.{drop-append-add, take-append_seam, drop-append_seam, length-take-le, take-take}
use borrow.Author.Tests.{le-leb, eqb-true}
use Rattle.chars.specs.Bytes.{slash, ascii}
use Rattle.chars.specs.Folding.{fold, ends_in, equivalent, lower}
use Rattle.chars.specs.Lists.{after_last}
use Rattle.base.proofs.Bools.{and_left, and_right}
use Rattle.chars.proofs.Equivalence.{equivalent_refl, fold_equivalent, equivalent_fold}
use Rattle.chars.proofs.Searches.{last_le}
use Rattle.names.specs.Names.{last_segment, folder, reserved}
use Rattle.names.proofs.Reserved.{second_le}
use Rattle.output.specs.Answers.{Text, provided}
use Rattle.targets.specs.Relationships.{source_of, source_part, BackOfForth, relationships_of, ForthOfBack, BackOfEquivalent}
use Rattle.targets.specs.Targets.{source_refusal}
use Rattle.chars.proofs.FoldedTexts.{fold_append, equivalent_length}
use Rattle.names.proofs.FoldedNames.{equivalent_reserved}
use Rattle.targets.proofs.FoldedSources.{equivalent_sources, equivalent_back}
use Rattle.targets.proofs.Judging.{source_few}
use Rattle.chars.proofs.LastBytes.{last_append_some, last_append_none, last_take, last_drop, last_snoc_take, last_take_none}
use Rattle.targets.proofs.Sources.{last_slash}

-- a name f r / m, where f ends with its last slash and neither r nor m has one
module _ (f r m : List ℕ) (ef : after_last slash f ≡ length f) (er : after_last slash r ≡ 0) (em : after_last slash m ≡ 0) where
  abbrev name : List ℕ
  name = f ++ (r ++ slash ∷ m)

  slash_m : after_last slash (slash ∷ m) ≡ 1
  unfolding after_last
  slash_m = rw em

  last_is : after_last slash name ≡ length (f ++ r) + 1
  last_is =
      last_append_some slash f (r ++ slash ∷ m) (length r) (last_append_some slash r (slash ∷ m) 0 slash_m ∙ (let e : length r + 1 ≡ suc (length r) = omega arith in e))
      ∙ (let e : length f + suc (length r) ≡ length f + length r + 1 = omega arith in e) ∙ ap (λ (n : ℕ). n + 1) (sym (length-append f r))

  joined : name ≡ (f ++ r) ++ slash ∷ m
  joined = sym (append_assoc f r (slash ∷ m))

  pub last_segment_is : last_segment name ≡ m
  last_segment_is = rw last_is (ap (drop (length (f ++ r) + 1)) joined ∙ drop-append-add (f ++ r) (slash ∷ m) 1)

  pub folder_is : folder name ≡ f ++ r
  folder_is =
      let e : length (f ++ r) + 1 - 1 ≡ length (f ++ r) = omega arith in
      rw (last_is, e) (ap (take (length (f ++ r))) joined ∙ take-append_seam (f ++ r) (slash ∷ m))

  pub folder_last : after_last slash (f ++ r) ≡ length f
  folder_last = last_append_none slash f r er ∙ ef

  pub folder_segment : last_segment (f ++ r) ≡ r
  folder_segment = rw folder_last (drop-append_seam f r)

rels_clear : after_last slash (ascii "_rels") ≡ 0
unfolding after_last
rels_clear = refl

end_clear : (l : List ℕ) → after_last slash l ≡ 0 → after_last slash (l ++ ascii ".rels") ≡ 0
unfolding after_last
end_clear l e = last_append_none slash l (ascii ".rels") refl ∙ e

ends_in_rels : (l : List ℕ) → ends_in (ascii ".rels") (l ++ ascii ".rels") ≡ true
unfolding ends_in
ends_in_rels l =
    let n : length (l ++ ascii ".rels") ≡ length l + 5 = length-append l (ascii ".rels") in
    let e : length l + 5 - 5 ≡ length l = omega arith in
    rw (n, e, le-leb 5 (length l + 5) (omega arith), drop-append_seam l (ascii ".rels")) (equivalent_refl (ascii ".rels"))

-- back of forth
module _ (f l : List ℕ) (ef : after_last slash f ≡ length f) (el : after_last slash l ≡ 0) where
  abbrev part : List ℕ
  part = f ++ (ascii "_rels" ++ slash ∷ (l ++ ascii ".rels"))

  part_reserved : reserved part ≡ true
  unfolding reserved
  part_reserved =
      rw (
        folder_is f (ascii "_rels") (l ++ ascii ".rels") ef rels_clear (end_clear l el),
        folder_segment f (ascii "_rels") (l ++ ascii ".rels") ef rels_clear (end_clear l el),
        last_segment_is f (ascii "_rels") (l ++ ascii ".rels") ef rels_clear (end_clear l el),
        ends_in_rels l,
        equivalent_refl (ascii "_rels"),
      )

  part_source : source_of part ≡ f ++ l
  unfolding source_of
  part_source =
      let n : length (l ++ ascii ".rels") - 5 ≡ length l = omega (arith, length-append l (ascii ".rels")) in
      rw (
        folder_is f (ascii "_rels") (l ++ ascii ".rels") ef rels_clear (end_clear l el),
        folder_last f (ascii "_rels") (l ++ ascii ".rels") ef rels_clear (end_clear l el),
        last_segment_is f (ascii "_rels") (l ++ ascii ".rels") ef rels_clear (end_clear l el),
        n,
        take-append_seam f (ascii "_rels" ++ slash ∷ (l ++ ascii ".rels")),
        take-append_seam l (ascii ".rels"),
      )

  part_length : length part ≡ length (f ++ l) + 11
  part_length = simp length-append (omega arith)

  part_back : (s : List ℕ) → f ++ l ≡ s → source_refusal s ≡ 0 → source_part part ≡ Text s []
  unfolding source_part
  part_back s e h =
      let n : length part ≤ 266 = omega (arith, part_length, ap length e, source_few s h) in
      rw (le-leb (length part) 266 n, part_reserved, part_source, e, h)

pub back_of_forth : BackOfForth
unfolding relationships_of
back_of_forth s h =
    let n : length (take (after_last slash s) s) ≡ after_last slash s = length-take-le (after_last slash s) s (last_le slash s) in
    part_back (take (after_last slash s) s) (last_segment s) (last_take slash s ∙ sym n) (last_drop slash s) s (take-append-drop (after_last slash s) s) h

-- forth of back
text_is : (c : Bool) (t x : List ℕ) → provided c 4 (Text t []) ≡ Text x [] → (c ≡ true) × (t ≡ x)
text_is true t x e = (refl, cc)
text_is false t x e = let z : ◌≡◌ {A = ℕ} 0 1 = cc in absurd (omega arith)

-- a name cut at its last two segments: f r / m e
module _ (f r m e : List ℕ) (ef : after_last slash f ≡ length f) (er : equivalent r (ascii "_rels") ≡ true) (em : after_last slash m ≡ 0) (ee : equivalent e (ascii ".rels") ≡ true) where
  back_parts : relationships_of (f ++ m) ≡ f ++ (ascii "_rels/" ++ (m ++ ascii ".rels"))
  unfolding relationships_of
  back_parts = rw (last_append_none slash f m em, ef, take-append_seam f m, drop-append_seam f m)

  back_equivalent : equivalent (relationships_of (f ++ m)) (f ++ (r ++ slash ∷ (m ++ e))) ≡ true
  unfolding lower
  back_equivalent =
      fold_equivalent _ _ (ap fold back_parts
      ∙ rw (
        fold_append f (ascii "_rels" ++ slash ∷ (m ++ ascii ".rels")),
        fold_append (ascii "_rels") (slash ∷ (m ++ ascii ".rels")),
        fold_append m (ascii ".rels"),
        fold_append f (r ++ slash ∷ (m ++ e)),
        fold_append r (slash ∷ (m ++ e)),
        fold_append m e,
        equivalent_fold r (ascii "_rels") er,
        equivalent_fold e (ascii ".rels") ee,
      ))

-- the parts of a reserved name
module _ (s : List ℕ) (form : reserved s ≡ true) where
  abbrev q : ℕ
  q = after_last slash s

  abbrev p : ℕ
  p = after_last slash (folder s)

  abbrev stem : List ℕ
  stem = take (length (last_segment s) - 5) (last_segment s)

  abbrev ending : List ℕ
  ending = drop (length (last_segment s) - 5) (last_segment s)

  p_le : p ≤ q - 1
  p_le = second_le s q refl p refl

  front_is : take p (folder s) ≡ take p s
  front_is = take-take p (q - 1) s p_le

  up_to : take q s ≡ folder s ++ slash ∷ []
  up_to = go q refl
    where
      go : (n : ℕ) → q ≡ n → take n s ≡ take (n - 1) s ++ slash ∷ []
      go zero e = absurd (omega (arith, last_slash s form q refl))
      go (suc k) e = let d : suc k - 1 ≡ k = omega arith in rw d (last_snoc_take slash s k e)

  whole : s ≡ take p s ++ (last_segment (folder s) ++ slash ∷ (stem ++ ending))
  whole =
      sym (take-append-drop q s) ∙ ap (λ (l : List ℕ). l ++ last_segment s) up_to ∙ append_assoc (folder s) (slash ∷ []) (last_segment s)
      ∙ ap (λ (l : List ℕ). l ++ slash ∷ last_segment s) (sym (take-append-drop p (folder s)) ∙ ap (λ (l : List ℕ). l ++ last_segment (folder s)) front_is)
      ∙ append_assoc (take p s) (last_segment (folder s)) (slash ∷ last_segment s)
      ∙ ap (λ (l : List ℕ). take p s ++ (last_segment (folder s) ++ slash ∷ l)) (sym (take-append-drop (length (last_segment s) - 5) (last_segment s)))

  front_last : after_last slash (take p s) ≡ length (take p s)
  front_last =
      let l : length (take p s) ≡ p = length-take-le p s (omega (arith, p_le, last_le slash s)) in
      ap (after_last slash) (sym front_is) ∙ last_take slash (folder s) ∙ sym l

  rels_is : equivalent (last_segment (folder s)) (ascii "_rels") ≡ true
  unfolding reserved
  rels_is = and_left (equivalent (last_segment (folder s)) (ascii "_rels")) (ends_in (ascii ".rels") (last_segment s)) form

  ending_is : equivalent ending (ascii ".rels") ≡ true
  unfolding reserved ends_in
  ending_is = and_right (leb 5 (length (last_segment s))) (equivalent ending (ascii ".rels")) (and_right (equivalent (last_segment (folder s)) (ascii "_rels")) (ends_in (ascii ".rels") (last_segment s)) form)

  source_forth : equivalent (relationships_of (source_of s)) s ≡ true
  unfolding source_of
  source_forth =
      subst (λ (l : List ℕ). equivalent (relationships_of (take p s ++ stem)) l ≡ true) (sym whole)
      (back_equivalent (take p s) (last_segment (folder s)) stem ending front_last rels_is (last_take_none slash (last_segment s) (length (last_segment s) - 5) (last_drop slash s)) ending_is)

pub forth_of_back : ForthOfBack
unfolding source_part
forth_of_back s x e =
    let a = leb (length s) 266 in
    let b = eqb (source_refusal (source_of s)) 0 in
    let h = text_is (a && reserved s && b) (source_of s) x e in
    let r : reserved s ≡ true = and_right a (reserved s) (and_left (a && reserved s) b h.0) in
    let k : source_refusal (source_of s) ≡ 0 = eqb-true (source_refusal (source_of s)) 0 (and_right (a && reserved s) b h.0) in
    subst (λ (l : List ℕ). (source_refusal l ≡ 0) × (equivalent (relationships_of l) s ≡ true)) h.1 (k, source_forth s r)

-- every name that is equivalent to one that a source gives
pub back_of_equivalent : BackOfEquivalent
unfolding source_part
back_of_equivalent s x h e =
    let n = relationships_of x in
    let f : fold s ≡ fold (relationships_of x) = equivalent_fold s (relationships_of x) e in
    let a = leb (length (relationships_of x)) 266 in
    let b = eqb (source_refusal (source_of (relationships_of x))) 0 in
    let t = text_is (a && reserved (relationships_of x) && b) (source_of (relationships_of x)) x (back_of_forth x h) in (
      rw (equivalent_length s (relationships_of x) f, equivalent_reserved s (relationships_of x) f, equivalent_sources (source_of s) (source_of (relationships_of x)) (equivalent_back s (relationships_of x) f), t.0),
      fold_equivalent (source_of s) x (equivalent_back s (relationships_of x) f ∙ ap fold t.1),
    )
