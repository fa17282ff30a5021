-- What `specs/Demand.antt` asks of a put just accepted: the media type of a part; a whole item is a part.
-- Assumes nothing.
use Prim.Native.Nat.{ℕ, ◌<◌}
use mathlib.Core.Path.{◌≡◌, refl, ap, sym, ◌∙◌}
use mathlib.Core.Bool.{Bool, true, false, not, cond, true≢false}
use mathlib.Core.List.{List, [], ◌∷◌, flat_map, append-nil}
use mathlib.Core.Option.{none, some}
use native.Mathlib.Omega.{arith}
use lib.Dec.{eqb}
use lib.ListN.{length, take}
use borrow.Author.Tests.{not-false}
use Rattle.chars.specs.Folding.{equivalent}
use Rattle.chars.proofs.Equivalence.{equivalent_fold, equivalent_sym, equivalent_refl}
use Rattle.names.specs.Names.{part_name, extension_at}
use Rattle.names.specs.declared.items.Suffix.{Suffix}
use Rattle.names.specs.declared.items.Suffix.TheVariants.{Whole, Piece}
use Rattle.output.specs.Answers.{Answer, Text, filled}
use Rattle.model.specs.Sets.{Bytes, Key, before, same_key, any, filter, lookup, insert, Each}
use Rattle.model.specs.Fields.{first, prefix_of, suffix_of, whole, override_fields}
use Rattle.model.specs.Package.{Item, Default, Override, State, item_kind, default_kind, override_kind, item_key, name_key, key_of_item}
use Rattle.model.specs.Package.{key_of_default, key_of_override, rank, group, is_part, content, disagrees, extension_of, media_type_of}
use Rattle.model.specs.Puts.{put_refusal, put_in, misfits, put_item_refusal, put_default_refusal, put_override_refusal}
use Rattle.model.specs.Calls.{PutItem, Print, ReadPart, MediaType, printed, changed, change_made, change}
use Rattle.model.specs.Demand.{OverridesAnswer, DefaultsAnswer, WholeItemsAreParts}
use Rattle.base.proofs.Bools.{not_passing}
use Rattle.model.proofs.Lists.{each_both, any_filter_none, filter_none}
use Rattle.model.proofs.Refusals.{all_none, unmet, changed_done, changed_accepted}
use Rattle.model.proofs.Puts.{put_fields, put_free, put_own, put_found}
use Rattle.model.proofs.ItemNames.{whole_prefix, accepted_prefix}
use Rattle.model.proofs.Items.{one_item_key}
use Rattle.model.proofs.Groups.{alike}

-- MEDIA TYPES. What the call writes where the part and its type are there
typed : (S : State) (name type : Bytes) (size : ℕ) → part_name name ≡ true → is_part (group name S.items) ≡ true →
    media_type_of name S ≡ some type → printed S size (MediaType name) ≡ Text type []
unfolding printed first
typed S name type size p g m = rw (p, g, m)

-- a text that the package after an accepted change gives
printed_after : (n : ℕ) (S T : State) (p : Print) (output text : Bytes) → n ≡ 0 → printed T (length output) p ≡ Text text [] →
    filled 1 output (printed (changed n S T).1 (length output) p) ≡ filled 1 output (Text text [])
printed_after n S T p output text e w =
    ap (λ (U : Answer × State). filled 1 output (printed U.1 (length output) p)) (changed_done n S T e) ∙ ap (filled 1 output) w

module _ (S : State) (new : Override) (h : put_refusal override_kind S new [] ≡ 0) where
  override_named : part_name new.name ≡ true
  unfolding override_fields
  override_named =
      let p₄ : 0 < 4 = omega arith in
      not-false (part_name new.name) (unmet (not (part_name new.name)) 4 p₄ (all_none _ (put_fields override_kind S new [] h)).0)

  override_type : media_type_of new.name (put_in override_kind S new) ≡ some new.type
  unfolding media_type_of
  override_type = rw (put_found override_kind S new [] h)

pub overrides_answer : OverridesAnswer
unfolding change put_override_refusal
overrides_answer room S name type output h g =
    let new : Override = record { name = name; type = type } in
    let e = changed_accepted (put_refusal override_kind S new []) S (put_in override_kind S new) h in
    printed_after (put_refusal override_kind S new []) S (put_in override_kind S new) (MediaType name) output type e
    (typed (put_in override_kind S new) name type (length output) (override_named S new e) g (override_type S new e))

module _ (S : State) (new : Default) (name : Bytes) (h : put_refusal default_kind S new [] ≡ 0) where
  default_found : equivalent (extension_of name) new.extension ≡ true →
      lookup key_of_default (name_key (extension_of name)) (put_in default_kind S new).defaults ≡ some new
  default_found q =
      ap (λ (t : Bytes). lookup key_of_default (t, []) (put_in default_kind S new).defaults)
      (equivalent_fold (extension_of name) new.extension q)
      ∙ put_found default_kind S new [] h

  default_type :
      lookup key_of_override (name_key name) S.overrides ≡ none → eqb (extension_at name) 0 ≡ false →
      equivalent (extension_of name) new.extension ≡ true → media_type_of name (put_in default_kind S new) ≡ some new.type
  unfolding media_type_of
  default_type o d q = rw (o, d, default_found q)

pub defaults_answer : DefaultsAnswer
unfolding change put_default_refusal
defaults_answer room S extension type name output h p g o d q =
    let new : Default = record { extension = extension; type = type } in
    let e = changed_accepted (put_refusal default_kind S new []) S (put_in default_kind S new) h in
    printed_after (put_refusal default_kind S new []) S (put_in default_kind S new) (MediaType name) output type e
    (typed (put_in default_kind S new) name type (length output) p g (default_type S new name e o d q))

-- WHOLE ITEMS
filter_insert : {E : Type 0} (key : E → Key) (p : E → Bool) (e : E) (xs : List E) → p e ≡ true → Each (λ (x : E). p x ≡ false) xs →
    filter p (insert key e xs) ≡ e ∷ []
unfolding filter insert
filter_insert key p e [] h a = rw h
filter_insert key p e (x ∷ xs) h a = go (before (key e) (key x)) (filter_insert key p e xs h a.1)
  where
    go : (b : Bool) → filter p (insert key e xs) ≡ e ∷ [] → filter p (cond b (e ∷ x ∷ xs) (x ∷ insert key e xs)) ≡ e ∷ []
    go true ih = rw (h, a.0, filter_none p xs a.1)
    go false ih = rw a.0 ih

module _ (S : State) (name bytes : Bytes) (w : suffix_of name ≡ Whole) (h : put_item_refusal S name bytes ≡ 0) where
  abbrev new : Item
  new = record { name = name; bytes = bytes }

  abbrev own : List ℕ
  own = misfits name S.items

  -- no held item is of its group: a whole one would have its key, a piece would disagree
  alone : Each (λ (i : Item). alike (prefix_of name) i ≡ false) S.items
  unfolding put_item_refusal group
  alone =
      let p₁₂ : 0 < 12 = omega arith in
      each_both Free Agree (λ (i : Item). alike (prefix_of name) i ≡ false) S.items
      (λ i f a. not_passing (alike (prefix_of name) i) (both i f a))
      (put_free item_kind S new own h)
      (any_filter_none (λ (i : Item). disagrees (suffix_of name) (suffix_of i.name)) (alike (prefix_of name)) S.items
      (unmet _ 12 p₁₂ (put_own item_kind S new own h).0))
    where
      Free : Item → Type 0
      Free i = same_key (item_key name) (key_of_item i) ≡ false

      Agree : Item → Type 0
      Agree i = alike (prefix_of name) i ≡ true → disagrees (suffix_of name) (suffix_of i.name) ≡ false

      ranked : (x y : Suffix) → x ≡ Whole → disagrees x y ≡ false → rank x ≡ rank y
      ranked Whole Whole e d = refl
      ranked Whole (Piece k l) e d = absurd (true≢false d)
      ranked (Piece k l) y e d = let z : ◌≡◌ {A = ℕ} 0 1 = cc in absurd (omega arith)

      both : (i : Item) → Free i → Agree i → alike (prefix_of name) i ≡ true → ⊥
      both i f a e =
          true≢false
          (sym (one_item_key name i.name (equivalent_sym (prefix_of i.name) (prefix_of name) e)
          (ranked (suffix_of name) (suffix_of i.name) w (a e))) ∙ f)

  -- its prefix is its whole name
  itself : prefix_of name ≡ name
  itself = whole_prefix name (ap whole w)

  group_new : group name (change_made S (PutItem name bytes)).items ≡ (record { name = name; bytes = bytes }) ∷ []
  unfolding group
  group_new =
      ap (λ (p : Bytes). filter (alike p) (change_made S (PutItem name bytes)).items) (sym itself)
      ∙ filter_insert key_of_item (alike (prefix_of name)) (record { name = name; bytes = bytes }) S.items
      (equivalent_refl (prefix_of name)) alone

  named : part_name name ≡ true
  unfolding put_item_refusal
  named = ap part_name (sym itself) ∙ (accepted_prefix name (all_none _ h).0).0

  read_new : (size : ℕ) → printed (change_made S (PutItem name bytes)) size (ReadPart name 0) ≡ Text (take size bytes) []
  unfolding printed first is_part any content flat_map
  read_new size = rw (named, group_new, w, append-nil bytes)

pub whole_items_are_parts : WholeItemsAreParts
unfolding change
whole_items_are_parts room S name bytes output h w =
    let e = changed_accepted (put_item_refusal S name bytes) S (change_made S (PutItem name bytes)) h in
    printed_after (put_item_refusal S name bytes) S (change_made S (PutItem name bytes)) (ReadPart name 0) output _ e
    (read_new S name bytes w e (length output))
