-- Other items of a group in its place: every other group stays, and where the group is a part of the same spelling and content before and
-- after, so do the answers of parts.
-- Assumes nothing.
use Prim.Native.Nat.{ℕ}
use mathlib.Core.Path.{◌≡◌, refl, sym, ap, ap₂, ◌∙◌}
use mathlib.Core.Bool.{Bool, true, false, not, true≢false}
use mathlib.Core.List.{List, [], ◌∷◌, ◌++◌, map, map-append}
use lib.Dec.{leb}
use lib.ListN.{length, get_or, take, drop, length-map, get_or-map}
use Rattle.base.proofs.Bools.{not_passing}
use Rattle.chars.specs.Folding.{fold, order, equivalent}
use Rattle.chars.proofs.Orders.{order_trans}
use Rattle.chars.proofs.Equivalence.{equivalent_fold, equivalent_sym, equivalent_trans}
use Rattle.output.specs.Answers.{Text, unless, filled}
use Rattle.model.specs.Sets.{Bytes, held, Each}
use Rattle.model.specs.Fields.{when, first, prefix_of, part_field}
use Rattle.model.specs.Package.{Item, State, item_kind, group, is_part, content, spelling, parts, media_type_of}
use Rattle.model.specs.Calls.{ReadPart, MediaType, PartAt, printed, text_of}
use Rattle.model.specs.CuttingDemand.{Alike}
use Rattle.model.proofs.Lists.{each_map, each_append}
use Rattle.model.proofs.Appends.{filter_same}
use Rattle.model.proofs.Groups.{alike, alike_same}
use Rattle.model.proofs.Exchanges.{Below, Above, Around, above_unlike, around_own, filter_others}
use Rattle.model.proofs.Parts.{Strange, parts_append, one_part}
use Rattle.model.proofs.Wholes.{part_some}

-- the parts are those before the group, the group if it is one, and those behind it
pub parts_around : {p : Bytes} {xs a g b : List Item} → Around p xs a g b → is_part g ≡ true → parts xs ≡ parts a ++ (g ∷ parts b)
parts_around {p} {xs} {a} {g} {b} r h =
    ap parts r.is
    ∙ parts_append (g ++ b) a (each_map (Below p) (Strange (g ++ b)) a left r.below)
    ∙ ap (λ (l : List (List Item)). parts a ++ l)
    (parts_append b g (each_map (λ (i : Item). alike p i ≡ true) (Strange b) g right r.own)
    ∙ ap (λ (l : List (List Item)). l ++ parts b) (one_part p g (part_some g h) r.own h))
  where
    of_group : (i : Item) → alike p i ≡ true → fold (prefix_of i.name) ≡ fold p
    of_group i e = equivalent_fold (prefix_of i.name) p e

    right : (i : Item) → alike p i ≡ true → Strange b i
    right i e =
        each_map (Above p) (λ (j : Item). alike (prefix_of i.name) j ≡ false) b
        (λ j l. above_unlike (prefix_of i.name) j (ap (λ (t : Bytes). order t (fold (prefix_of j.name))) (of_group i e) ∙ l)) r.above

    left : (i : Item) → Below p i → Strange (g ++ b) i
    left i l =
        each_append (λ (j : Item). alike (prefix_of i.name) j ≡ false) g b
        (each_map (λ (j : Item). alike p j ≡ true) (λ (j : Item). alike (prefix_of i.name) j ≡ false) g
        (λ j e. above_unlike (prefix_of i.name) j (ap (order (fold (prefix_of i.name))) (of_group j e) ∙ l)) r.own)
        (each_map (Above p) (λ (j : Item). alike (prefix_of i.name) j ≡ false) b
        (λ j k. above_unlike (prefix_of i.name) j (order_trans (fold (prefix_of i.name)) (fold p) (fold (prefix_of j.name)) l k)) r.above)

-- a name that is equivalent to another has its group
pub same_group : (p q : Bytes) → equivalent q p ≡ true → (xs : List Item) → group q xs ≡ group p xs
unfolding group
same_group p q e xs = filter_same (alike q) (alike p) (alike_same q p (equivalent_fold q p e)) xs

-- the items g of the group p in the one list, k in the other, and all else alike
module _ {p : Bytes} {xs ys a g k b : List Item} (r : Around p xs a g b) (t : Around p ys a k b) where
  -- what is read off both alike is read off every group alike
  pub read_alike : {A : Type 0} (F : List Item → A) → F k ≡ F g → (q : Bytes) → F (group q ys) ≡ F (group q xs)
  unfolding group
  read_alike {A} F e q = go (equivalent q p) refl
    where
      strange : equivalent q p ≡ false → (l : List Item) → Each (λ (i : Item). alike p i ≡ true) l → Each (λ (i : Item). alike q i ≡ false) l
      strange n l h =
          each_map (λ (i : Item). alike p i ≡ true) (λ (i : Item). alike q i ≡ false) l
          (λ i m. not_passing (alike q i)
          (λ f. true≢false (sym (equivalent_trans q (prefix_of i.name) p (equivalent_sym (prefix_of i.name) q f) m) ∙ n))) h

      go : (c : Bool) → equivalent q p ≡ c → F (group q ys) ≡ F (group q xs)
      go true f = ap F (same_group p q f ys ∙ around_own t) ∙ e ∙ sym (ap F (same_group p q f xs ∙ around_own r))
      go false f = ap F (filter_others t (alike q) (strange f k t.own) ∙ sym (filter_others r (alike q) (strange f g r.own)))

  -- parts of one spelling stand in one order
  module _ (h : is_part g ≡ true) (l : is_part k ≡ true) (s : spelling k ≡ spelling g) where
    pub spellings_alike : map spelling (parts ys) ≡ map spelling (parts xs)
    spellings_alike =
        ap (map spelling) (parts_around t l)
        ∙ map-append spelling (parts a) (k ∷ parts b)
        ∙ ap (λ (x : Bytes). map spelling (parts a) ++ (x ∷ map spelling (parts b))) s
        ∙ sym (ap (map spelling) (parts_around r h) ∙ map-append spelling (parts a) (g ∷ parts b))

-- the spelling at a position, by the spellings of the parts
position_text : (S : State) (size i : ℕ) →
    printed S size (PartAt i) ≡ unless (when (leb (length (map spelling (parts S.items))) i) 13) (Text (get_or (map spelling (parts S.items)) i []) [])
unfolding printed spelling
position_text S size i =
    ap₂ (λ (n : ℕ) (s : Bytes). unless (when (leb n i) 13) (Text s [])) (sym (length-map (parts S.items) spelling))
    (sym (get_or-map spelling (parts S.items) i []))

-- "reading, media type and position answers are alike"
module _ (room : ℕ) (S : State) (new : List Item) (p : Bytes) (a g k b : List Item) (r : Around p S.items a g b) (t : Around p new a k b)
    (h : is_part g ≡ true) (l : is_part k ≡ true) (s : spelling k ≡ spelling g) (c : content k ≡ content g) where
  T : State
  T = item_kind.renewed S new

  same_reading : (size : ℕ) (name : Bytes) (offset : ℕ) → printed T size (ReadPart name offset) ≡ printed S size (ReadPart name offset)
  unfolding printed T
  same_reading size name offset =
      read_alike r t
      (λ (x : List Item). unless (first (part_field name ∷ when (not (is_part x)) 13 ∷ [])) (Text (take size (drop offset (content x))) []))
      (ap₂ (λ (d : Bool) (y : Bytes). unless (first (part_field name ∷ when (not d) 13 ∷ [])) (Text (take size (drop offset y)) [])) (l ∙ sym h) c) name

  same_type : (size : ℕ) (name : Bytes) → printed T size (MediaType name) ≡ printed S size (MediaType name)
  unfolding printed media_type_of T
  same_type size name =
      read_alike r t
      (λ (x : List Item). unless (first (part_field name ∷ when (not (is_part x)) 13 ∷ when (not (held (media_type_of name S))) 14 ∷ []))
      (Text (text_of (media_type_of name S)) []))
      (ap (λ (d : Bool). unless (first (part_field name ∷ when (not d) 13 ∷ when (not (held (media_type_of name S))) 14 ∷ []))
      (Text (text_of (media_type_of name S)) [])) (l ∙ sym h)) name

  same_position : (size i : ℕ) → printed T size (PartAt i) ≡ printed S size (PartAt i)
  unfolding T
  same_position size i =
      position_text T size i
      ∙ ap (λ (x : List Bytes). unless (when (leb (length x) i) 13) (Text (get_or x i []) [])) (spellings_alike r t h l s)
      ∙ sym (position_text S size i)

  pub answers_alike : Alike room S (item_kind.renewed S new)
  unfolding T
  answers_alike = record {
    reading = λ name output offset. ap (filled 1 output) (same_reading (length output) name offset);
    media_type = λ name output. ap (filled 1 output) (same_type (length output) name);
    position = λ i output. ap (filled 1 output) (same_position (length output) i);
  }
