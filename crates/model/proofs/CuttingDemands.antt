-- What `specs/CuttingDemand.antt` asks of cutting and joining.
-- Assumes nothing.
use Prim.Native.Nat.{ℕ, ◌≤◌, ◌<◌}
use mathlib.Core.Path.{◌≡◌, refl, sym, ap, ap₂, subst, ◌∙◌}
use mathlib.Core.Bool.{Bool, true, false, not}
use mathlib.Core.List.{List, [], ◌∷◌, ◌++◌, flat_map, append-nil}
use native.Mathlib.Omega.{arith}
use native.Mathlib.Nat.{mod-lt, div-add-mod}
use lib.ListN.{length, get_or}
use Rattle.chars.specs.Folding.{equivalent}
use Rattle.chars.proofs.Equivalence.{equivalent_fold}
use Rattle.names.specs.Names.{part_name}
use Rattle.output.specs.Answers.{Answer}
use Rattle.model.specs.Sets.{Bytes, any, Each}
use Rattle.model.specs.Fields.{when, first}
use Rattle.model.specs.Package.{Item, State, item_kind, no_item, group, is_part, content, spelling}
use Rattle.model.specs.Cutting.{is_whole, quotient, rest, pieces, joined_item, with_all, cut_made, join_made, cut_refusal, join_refusal}
use Rattle.model.specs.Calls.{JoinPart, done, refused, changed, change, cut}
use Rattle.model.specs.Good.{Good}
use Rattle.model.specs.CuttingDemand.{CutsKeepGood, JoinsKeepGood, CutInto, CutsDivide, JoinsMakeOne, JoinsFit, JoinsUndoCuts, Alike}
use Rattle.model.specs.CuttingDemand.{CutsKeepAnswers, JoinsKeepAnswers}
use Rattle.model.proofs.Appends.{filter_same}
use Rattle.model.proofs.Refusals.{none_all, picked, changed_done, changed_accepted}
use Rattle.model.proofs.Groups.{alike, unlike, alike_same}
use Rattle.model.proofs.Exchanges.{Around, front, back, around_own, exchanged}
use Rattle.model.proofs.Pieces.{own_prefix, own_suffix, pieces_part, pieces_spelling, pieces_not_whole}
use Rattle.model.proofs.PieceBytes.{length_pieces, piece_at_lem, piece_size_lem, pieces_content}
use Rattle.model.proofs.Wholes.{part_some, whole_part}
use Rattle.model.proofs.CutRefusals.{cut_accepted, cut_done, cut_part, cut_whole, cut_low, cut_high, join_part}
use Rattle.model.proofs.Cutting.{group_named, group_around, regrouped_around, cut_prefixes, cut_sorted}
use Rattle.model.proofs.Steps.{change_good, cut_step_good}
use Rattle.model.proofs.GroupAnswers.{same_group, answers_alike}

pub cuts_keep_good : CutsKeepGood
cuts_keep_good room S name n g = cut_step_good S name n g

pub joins_keep_good : JoinsKeepGood
joins_keep_good room S name g = change_good S (JoinPart name) g

-- "joining never does": its refusals are 4, 13 and 18
pub joins_fit : JoinsFit
unfolding change join_refusal first
joins_fit room S name h = go (not (part_name name)) (not (is_part (group name S.items))) (is_whole (group name S.items)) h
  where
    go : (a b c : Bool) → (changed (first (when a 4 ∷ when b 13 ∷ when c 18 ∷ [])) S (join_made S name)).0.number ≡ 15 → ⊥
    go true b c e = omega arith
    go false true c e = omega arith
    go false false true e = omega arith
    go false false false e = omega arith

-- a refused call leaves the answers too
alike_itself : (room : ℕ) (S : State) → Alike room S S
alike_itself room S = record { reading = λ _ _ _. refl; media_type = λ _ _. refl; position = λ _ _. refl }

-- AN ACCEPTED CUT
module _ (S : State) (G : Good S) (name : Bytes) (n : ℕ) (c : cut_refusal S name n ≡ 0) where
  abbrev g : List Item
  g = group name S.items

  abbrev new : List Item
  new = pieces g n

  some : 0 < length g
  some = part_some g (cut_part S name n c)

  low : 0 < n
  low = cut_low S name n c

  high : n ≤ 256
  high = cut_high S name n c

  -- the pieces stand in the part's place,
  cut_around : Around name (cut_made S name n).items (front name S.items) new (back name S.items)
  cut_around = regrouped_around S G name some new (cut_prefixes S G name n some high) (cut_sorted S G name n some high)

  -- are a part that is not whole, and have its spelling and content
  new_part : is_part new ≡ true
  unfolding pieces
  new_part = pieces_part (spelling g) (group_named S G name some) _ _ n _ low (omega (arith, high))

  new_pieces : is_whole new ≡ false
  unfolding pieces
  new_pieces = pieces_not_whole (spelling g) (group_named S G name some) _ _ n 0 _ (omega (arith, high))

  new_spelling : spelling new ≡ spelling g
  unfolding pieces
  new_spelling = pieces_spelling (spelling g) (group_named S G name some) _ _ n _ low

  new_content : content new ≡ content g
  new_content = pieces_content g n low

  divided : CutInto (length (content g)) n (quotient g n) (rest g n) (spelling g) (group name (cut_made S name n).items)
  divided =
      subst (CutInto (length (content g)) n (quotient g n) (rest g n) (spelling g)) (sym (around_own cut_around))
      (record {
        whole = sym (div-add-mod (length (content g)) n);
        below = mod-lt (length (content g)) low;
        number = length_pieces g n;
        name = λ k l. ap (λ (i : Item). i.name) (piece_at_lem g n k l);
        size = λ k l. ap (λ (i : Item). length i.bytes) (piece_at_lem g n k l) ∙ piece_size_lem g n k l;
      })

pub cuts_divide : CutsDivide
cuts_divide room S name n q r G h =
    let c = cut_accepted S name n (ap (λ (x : Answer). x.number) h) in
    let e = cut_done S name n c in
    let g = group name S.items in
    let v : quotient g n ∷ rest g n ∷ [] ≡ q ∷ r ∷ [] = sym (ap (λ (x : Answer × State). x.0.values) e) ∙ ap (λ (x : Answer). x.values) h in
    subst (λ (l : List ℕ). CutInto (length (content g)) n (get_or l 0 0) (get_or l 1 0) (spelling g) (group name (cut S name n).1.items)) v
    (subst (λ (x : Answer × State). CutInto (length (content g)) n (quotient g n) (rest g n) (spelling g) (group name x.1.items)) (sym e)
    (divided S G name n c))

pub cuts_keep_answers : CutsKeepAnswers
unfolding cut
cuts_keep_answers room S name n G =
    picked (cut_refusal S name n) S (cut_made S name n) (Alike room S) _ _ (alike_itself room S)
    (λ c. answers_alike room S _ name (front name S.items) (group name S.items) (pieces (group name S.items) n) (back name S.items)
    (group_around S G name (some S G name n c)) (cut_around S G name n c) (cut_part S name n c) (new_part S G name n c) (new_spelling S G name n c)
    (new_content S G name n c))

-- AN ACCEPTED JOIN
module _ (S : State) (G : Good S) (name : Bytes) (c : join_refusal S name ≡ 0) where
  abbrev old : List Item
  old = group name S.items

  abbrev one : List Item
  one = joined_item old ∷ []

  any_old : 0 < length old
  any_old = part_some old (join_part S name c)

  named : part_name (spelling old) ≡ true
  named = group_named S G name any_old

  join_around : Around name (join_made S name).items (front name S.items) one (back name S.items)
  join_around = regrouped_around S G name any_old one (own_prefix (spelling old) named, tt) (tt, tt)

  joined_part : is_part one ≡ true
  unfolding is_part any
  joined_part = rw (own_suffix (spelling old) named)

  joined_spelling : spelling one ≡ spelling old
  unfolding spelling
  joined_spelling = own_prefix (spelling old) named

  joined_content : content one ≡ content old
  unfolding content flat_map
  joined_content = append-nil (content old)

pub joins_make_one : JoinsMakeOne
unfolding change
joins_make_one room S name G h =
    let c = changed_accepted (join_refusal S name) S (join_made S name) h in
    ap (λ (x : Answer × State). group name x.1.items) (changed_done (join_refusal S name) S (join_made S name) c) ∙ around_own (join_around S G name c)

pub joins_keep_answers : JoinsKeepAnswers
unfolding change
joins_keep_answers room S name G =
    picked (join_refusal S name) S (join_made S name) (Alike room S) done (refused (join_refusal S name)) (alike_itself room S)
    (λ c. answers_alike room S _ name (front name S.items) (group name S.items) (one S G name c) (back name S.items)
    (group_around S G name (any_old S G name c)) (join_around S G name c) (join_part S name c) (joined_part S G name c) (joined_spelling S G name c)
    (joined_content S G name c))

-- CUT, THEN JOINED under any spelling of the name
module _ (S : State) (G : Good S) (name other : Bytes) (n : ℕ) (c : cut_refusal S name n ≡ 0) (po : part_name other ≡ true)
    (eo : equivalent other name ≡ true) where
  abbrev T : State
  T = cut_made S name n

  group_after : group other T.items ≡ pieces (group name S.items) n
  group_after = same_group name other eo T.items ∙ around_own (cut_around S G name n c)

  -- the join is accepted,
  rejoined : join_refusal T other ≡ 0
  unfolding join_refusal
  rejoined =
      none_all _ (
        ap (λ (b : Bool). when (not b) 4) po,
        (
          ap (λ (l : List Item). when (not (is_part l)) 13) group_after ∙ ap (λ (b : Bool). when (not b) 13) (new_part S G name n c),
          (ap (λ (l : List Item). when (is_whole l) 18) group_after ∙ ap (λ (b : Bool). when b 18) (new_pieces S G name n c), tt),
        ),
      )

  -- its item is the one that was cut, and takes the place of the pieces
  w : Item
  w = get_or (group name S.items) 0 no_item

  item_back : joined_item (group other T.items) ≡ w
  unfolding w
  item_back =
      let o = whole_part (group name S.items) (cut_part S name n c) (cut_whole S name n c) in
      ap joined_item group_after
      ∙ ap₂ (λ (x y : Bytes). record { name = x; bytes = y }) (new_spelling S G name n c ∙ o.spelled) (new_content S G name n c ∙ o.held)

  items_back : (join_made T other).items ≡ S.items
  unfolding w
  items_back =
      let o = whole_part (group name S.items) (cut_part S name n c) (cut_whole S name n c) in
      let r = group_around S G name (some S G name n c) in
      let alone : Each (λ (i : Item). alike name i ≡ true) (w ∷ []) = subst (Each (λ (i : Item). alike name i ≡ true)) o.only r.own in
      ap₂ (λ (i : Item) (l : List Item). with_all (i ∷ []) l) item_back
      (filter_same (unlike other) (unlike name) (λ i. ap not (alike_same other name (equivalent_fold other name eo) i)) T.items)
      ∙ exchanged (cut_around S G name n c) (w ∷ []) alone (tt, tt)
      ∙ ap (λ (l : List Item). front name S.items ++ (l ++ back name S.items)) (sym o.only)
      ∙ sym r.is

  joined_back : change T (JoinPart other) ≡ (done, S)
  unfolding change
  joined_back =
      changed_done (join_refusal T other) T (join_made T other) rejoined
      ∙ ap (λ (l : List Item). (done, item_kind.renewed S l)) items_back

pub joins_undo_cuts : JoinsUndoCuts
joins_undo_cuts room S name other n G h po eo =
    let c = cut_accepted S name n h in
    ap (λ (x : Answer × State). change x.1 (JoinPart other)) (cut_done S name n c) ∙ joined_back S G name other n c po eo
