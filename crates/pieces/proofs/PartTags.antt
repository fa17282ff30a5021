-- What a part's first row tells: by its tag whether the part is whole, by its first field the part's spelling.
-- Assumes nothing.
use Prim.Native.Nat.{ℕ, ◌-◌, ◌<◌}
use mathlib.Core.Path.{◌≡◌, refl, sym, ap, ◌∙◌}
use mathlib.Core.Bool.{Bool, true, false}
use mathlib.Core.List.{List, [], ◌∷◌}
use native.Mathlib.Nat.{add-zero}
use native.Mathlib.Omega.{arith}
use lib.Dec.{eqb}
use lib.ListN.{length, get_or, drop, length-take}
use lib.Seq.{get_or-take, get_or-drop}
use borrow.Author.Tests.{ne_eqb}
use Rattle.names.specs.declared.items.Suffix.{Suffix}
use Rattle.names.specs.declared.items.Suffix.TheVariants.{Whole, Piece}
use Rattle.model.specs.Sets.{Bytes}
use Rattle.model.specs.Fields.{prefix_of, suffix_of, whole}
use Rattle.model.specs.Package.{Item, State, no_item, group, is_part, spelling}
use Rattle.model.specs.Cutting.{is_whole}
use Rattle.model.proofs.Lists.{any_none, each_at}
use Rattle.model.proofs.Wholes.{part_some, whole_part}
use Rattle.store.specs.Layout.{count_of}
use Rattle.store.specs.Rows.{row_at, tag_at, field_of}
use Rattle.store.specs.Packages.{Shape}
use Rattle.contract.specs.Rows.{tag_of}
use Rattle.contract.specs.Holds.{Holds}
use Rattle.contract.proofs.ItemRows.{items_le, item_tag, item_prefix}
use Rattle.parts.specs.Runs.{Grouped}

-- a part is whole if its first item is
whole_first : (g : List Item) → is_part g ≡ true → is_whole g ≡ whole (suffix_of (get_or g 0 no_item).name)
unfolding is_whole
whole_first g p = go (is_whole g) refl
  where
    go : (w : Bool) → is_whole g ≡ w → w ≡ whole (suffix_of (get_or g 0 no_item).name)
    go true e = sym (whole_part g p e).marked
    go false e =
        sym (each_at (λ (i : Item). whole (suffix_of i.name) ≡ false) g 0 no_item (part_some g p) (any_none (λ (i : Item). whole (suffix_of i.name)) g e))

-- a group has the spelling of its first item
first_spelled : (g : List Item) → 0 < length g → spelling g ≡ prefix_of (get_or g 0 no_item).name
unfolding spelling
first_spelled [] l = absurd (omega arith)
first_spelled (i ∷ g) l = refl

whole_tag : (x : Suffix) → whole x ≡ eqb (tag_of x) 0
whole_tag Whole = refl
whole_tag (Piece k l) = sym (ne_eqb (tag_of (Piece k l)) 0 (λ e. omega arith))

-- the part stands in the rows from f to t
module _ (b : List ℕ) (name : Bytes) (f t : ℕ) (g : Grouped b name f t) (S : State) (h : Holds b S) (p : is_part (group name S.items) ≡ true) where
  filled : f < t
  filled = omega (arith, part_some (group name S.items) p, ap length (g.is S h), length-take (t - f) (drop f S.items))

  pub first_there : f < length S.items
  first_there = omega (arith, filled, g.inside S h)

  pub first_item : get_or (group name S.items) 0 no_item ≡ get_or S.items f no_item
  first_item =
      ap (λ (k : List Item). get_or k 0 no_item) (g.is S h) ∙ get_or-take (t - f) (drop f S.items) 0 no_item (omega (arith, filled))
      ∙ get_or-drop f S.items 0 no_item ∙ ap (λ (k : ℕ). get_or S.items k no_item) (add-zero f)

  pub spelling_told : spelling (group name S.items) ≡ field_of (row_at b f) 0
  spelling_told =
      first_spelled (group name S.items) (part_some (group name S.items) p) ∙ ap (λ (k : Item). prefix_of k.name) first_item
      ∙ sym (item_prefix b S h f first_there)

  -- u is the tag of row f
  pub whole_told : (u : ℕ) → (Shape b → f < count_of b → u ≡ tag_at b f) → is_whole (group name S.items) ≡ eqb u 0
  whole_told u eu =
      let e : u ≡ tag_of (suffix_of (get_or S.items f no_item).name) = eu h.lies.sound.shape (omega (arith, first_there, items_le b S h)) ∙ item_tag b S h f first_there in
      whole_first (group name S.items) p ∙ ap (λ (k : Item). whole (suffix_of k.name)) first_item
      ∙ whole_tag (suffix_of (get_or S.items f no_item).name) ∙ ap (λ (k : ℕ). eqb k 0) (sym e)
