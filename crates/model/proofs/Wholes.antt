-- Parts that are one whole item, and parts in pieces.
-- Assumes nothing.
use Prim.Native.Nat.{ℕ, suc, ◌<◌}
use mathlib.Core.Path.{◌≡◌, refl, sym, ap, ap₂, ◌∙◌}
use mathlib.Core.Bool.{Bool, true, false, not, ◌&&◌, ◌||◌, true≢false, or-false}
use mathlib.Core.List.{List, [], ◌∷◌, flat_map, append-nil}
use native.Mathlib.Omega.{arith}
use lib.Dec.{eqb}
use lib.ListN.{length, get_or}
use borrow.Author.Tests.{eqb-true, ne_eqb}
use Rattle.base.proofs.Bools.{and_left, and_right}
use Rattle.names.specs.declared.items.Suffix.{Suffix}
use Rattle.names.specs.declared.items.Suffix.TheVariants.{Whole, Piece}
use Rattle.model.specs.Sets.{Bytes, any, sum_of, Each}
use Rattle.model.specs.Fields.{prefix_of, suffix_of, whole, last}
use Rattle.model.specs.Package.{Item, item_charge, no_item, rank, complete_from, is_part, content, spelling}
use Rattle.model.specs.Cutting.{is_whole}
use Rattle.model.proofs.ItemNames.{whole_prefix}

-- a part has an item
pub part_some : (g : List Item) → is_part g ≡ true → 0 < length g
unfolding is_part complete_from
part_some [] h = absurd (true≢false (sym h))
part_some (i ∷ g) h = omega arith

-- what holds of every prefix in a group holds of its spelling
pub spelled_each : (P : Bytes → Type 0) (g : List Item) → 0 < length g → Each (λ (i : Item). P (prefix_of i.name)) g → P (spelling g)
unfolding spelling
spelled_each P [] n h = absurd (omega arith)
spelled_each P (i ∷ g) n h = h.0

-- a part in pieces has no whole item
numbered_piece : (x : Suffix) (k : ℕ) → eqb (rank x) (suc k) ≡ true → whole x ≡ false
numbered_piece Whole k h = absurd (true≢false (sym h ∙ ne_eqb 0 (suc k) (λ e. omega arith)))
numbered_piece (Piece j l) k h = refl

complete_not_whole : (k : ℕ) (g : List Item) → complete_from k g ≡ true → is_whole g ≡ false
unfolding complete_from is_whole any
complete_not_whole k [] h = refl
complete_not_whole k (i ∷ []) h =
    ap (λ (b : Bool). b || false) (numbered_piece (suffix_of i.name) k (and_left _ (last (suffix_of i.name)) h))
complete_not_whole k (i ∷ j ∷ g) h =
    let rest = complete_from (suc k) (j ∷ g) in
    let own = and_left (eqb (rank (suffix_of i.name)) (suc k) && not (last (suffix_of i.name))) rest h in
    ap₂ ◌||◌ (numbered_piece (suffix_of i.name) k (and_left _ (not (last (suffix_of i.name))) own))
    (complete_not_whole (suc k) (j ∷ g) (and_right (eqb (rank (suffix_of i.name)) (suc k) && not (last (suffix_of i.name))) rest h))

-- a whole part is one item
pub whole_one : (g : List Item) → is_part g ≡ true → is_whole g ≡ true → length g ≡ 1
unfolding is_part is_whole
whole_one g h w = go (complete_from 0 g) refl h
  where
    go : (b : Bool) → complete_from 0 g ≡ b → (eqb (length g) 1 && is_whole g || b) ≡ true → length g ≡ 1
    go true e k = absurd (true≢false (sym w ∙ complete_not_whole 0 g e))
    go false e k = eqb-true (length g) 1 (and_left (eqb (length g) 1) (is_whole g) (sym (or-false (eqb (length g) 1 && is_whole g)) ∙ k))

-- the item w, which is whole
pub record OneWhole (g : List Item) (w : Item) : Type 0 where
  pub only : g ≡ w ∷ []
  pub marked : whole (suffix_of w.name) ≡ true
  pub prefix : prefix_of w.name ≡ w.name
  pub spelled : spelling g ≡ w.name
  pub held : content g ≡ w.bytes
  pub charged : sum_of item_charge g ≡ item_charge w

pub whole_part : (g : List Item) → is_part g ≡ true → is_whole g ≡ true → OneWhole g (get_or g 0 no_item)
unfolding is_whole any spelling content flat_map sum_of
whole_part g h w = go g (whole_one g h w) w
  where
    go : (k : List Item) → length k ≡ 1 → is_whole k ≡ true → OneWhole k (get_or k 0 no_item)
    go [] l m = absurd (omega arith)
    go (i ∷ []) l m =
        let n : whole (suffix_of i.name) ≡ true = sym (or-false (whole (suffix_of i.name))) ∙ m in
        record {
          only = refl;
          marked = n;
          prefix = whole_prefix i.name n;
          spelled = whole_prefix i.name n;
          held = append-nil i.bytes;
          charged = omega arith;
        }
    go (i ∷ j ∷ k) l m = absurd (omega arith)
