-- The pieces of a part that is cut, and the item that they are joined to: names, keys and fields, and how they stand beside each other.
-- Assumes nothing.
use Prim.Native.Nat.{ℕ, zero, suc, ◌+◌, ◌≤◌, ◌<◌}
use mathlib.Core.Path.{◌≡◌, refl, sym, ap, ap₂, subst, ◌∙◌}
use mathlib.Core.Bool.{Bool, true, false, ◌||◌, true≢false}
use mathlib.Core.List.{[], ◌∷◌}
use native.Mathlib.Omega.{arith}
use lib.Dec.{eqb}
use lib.ListN.{length, take, drop}
use lib.Seq.{take-append_seam, take-length}
use borrow.Author.Tests.{eq-eqb, ne_eqb, lt-ltb, le-ltb}
use Rattle.chars.specs.Folding.{fold, order, derivable}
use Rattle.chars.proofs.Orders.{order_refl}
use Rattle.chars.proofs.Derivability.{derivable_longer}
use Rattle.names.specs.Names.{part_name, reserved}
use Rattle.names.specs.Items.{item_name, item_refusal, spelled}
use Rattle.names.specs.declared.items.Suffix.{Suffix}
use Rattle.names.specs.declared.items.Suffix.TheVariants.{Whole, Piece}
use Rattle.names.specs.declared.items.ItemName.TheVariants.{Named}
use Rattle.names.proofs.Spelling.{pieces_return, whole_items_return}
use Rattle.model.specs.Sets.{Bytes, then_by, key_order, before, Each, AllPairs, Sorted}
use Rattle.model.specs.Fields.{prefix_of, suffix_of, whole, item_field}
use Rattle.model.specs.Package.{Item, item_kind, rank, item_key, key_of_item, complete_from, is_part, spelling, disagrees}
use Rattle.model.specs.Cutting.{is_whole, piece_size, pieces_from}
use Rattle.model.specs.Good.{Beside}
use Rattle.base.proofs.Bools.{and_false, or_true, not_passing}
use Rattle.model.proofs.Lists.{none_any}
use Rattle.model.proofs.Refusals.{none_all}
use Rattle.model.proofs.ItemNames.{prefix_named, suffix_named}

-- a text is not derivable from itself
underived_own : (p : Bytes) → derivable p p ≡ false
underived_own p = not_passing (derivable p p) (λ e. omega (arith, derivable_longer p p e))

-- a name is accepted that splits and whose prefix is not reserved
named_field : (s p : Bytes) (n : ℕ) (x : Suffix) → item_name s ≡ Named n x → prefix_of s ≡ p → reserved p ≡ false → item_field s ≡ 0
unfolding item_field
named_field s p n x e f u = none_all _ (ap item_refusal e, (rw (f, u), tt))

module _ (p : Bytes) (h : part_name p ≡ true) where
  -- A NAME PUT TOGETHER is taken apart again: the joined item's,
  pub own_prefix : prefix_of p ≡ p
  own_prefix = prefix_named p (length p) Whole (whole_items_return p h) ∙ take-length p

  pub own_suffix : suffix_of p ≡ Whole
  own_suffix = suffix_named p (length p) Whole (whole_items_return p h)

  pub own_field : reserved p ≡ false → item_field p ≡ 0
  own_field = named_field p p (length p) Whole (whole_items_return p h) own_prefix

  -- and that of a piece
  module _ (k : ℕ) (l : Bool) (b : k ≤ 9999) where
    pub piece_prefix : prefix_of (spelled p (Piece k l)) ≡ p
    piece_prefix = prefix_named (spelled p (Piece k l)) (length p) (Piece k l) (pieces_return p k l h b) ∙ take-append_seam p _

    pub piece_suffix : suffix_of (spelled p (Piece k l)) ≡ Piece k l
    piece_suffix = suffix_named (spelled p (Piece k l)) (length p) (Piece k l) (pieces_return p k l h b)

    piece_key : item_key (spelled p (Piece k l)) ≡ (fold p, suc k ∷ [])
    piece_key = ap₂ (λ (x : Bytes) (y : Suffix). (fold x, rank y ∷ [])) piece_prefix piece_suffix

    pub piece_field : reserved p ≡ false → item_field (spelled p (Piece k l)) ≡ 0
    piece_field = named_field (spelled p (Piece k l)) p (length p) (Piece k l) (pieces_return p k l h b) piece_prefix

  abbrev piece_of : ℕ → Bool → Bytes → Item
  piece_of k l s = record { name = spelled p (Piece k l); bytes = s }

  -- TWO PIECES, the first of them not marked as the last
  number_before : (j k : ℕ) (l : Bool) → j < k → k ≤ 9999 → before (item_key (spelled p (Piece j false))) (item_key (spelled p (Piece k l))) ≡ true
  unfolding key_order then_by order
  number_before j k l c d =
      ap₂ before (piece_key j false (omega arith)) (piece_key k l d) ∙ rw (order_refl (fold p), lt-ltb (suc j) (suc k) (omega arith))

  two_pieces : (j k : ℕ) (l : Bool) (s t : Bytes) → j < k → k ≤ 9999 → Beside (piece_of j false s) (piece_of k l t)
  two_pieces j k l s t c d = record {
    alone = λ w. absurd (true≢false (sym w ∙ ap₂ (λ (a b : Suffix). whole a || whole b) x y));
    numbered = λ _ e. let f : suc j ≡ suc k = sym (ap rank x) ∙ e ∙ ap rank y in omega arith;
    underived = (ap₂ derivable v w ∙ underived_own p, ap₂ derivable w v ∙ underived_own p);
    agreeing = λ _. ap₂ disagrees x y ∙ rw (le-ltb k j (omega arith), and_false l);
  }
    where
      v : prefix_of (spelled p (Piece j false)) ≡ p
      v = piece_prefix j false (omega arith)

      w : prefix_of (spelled p (Piece k l)) ≡ p
      w = piece_prefix k l d

      x : suffix_of (spelled p (Piece j false)) ≡ Piece j false
      x = piece_suffix j false (omega arith)

      y : suffix_of (spelled p (Piece k l)) ≡ Piece k l
      y = piece_suffix k l d

  -- ALL PIECES. What holds of every piece that may be among them
  module _ (q r : ℕ) where
    pub pieces_each : (P : Item → Type 0) → ((k : ℕ) (l : Bool) (s : Bytes) → k ≤ 9999 → P (piece_of k l s)) →
        (m k : ℕ) (bytes : Bytes) → k + m ≤ 10000 → Each P (pieces_from m p q r k bytes)
    unfolding pieces_from
    pieces_each P f zero k bytes c = tt
    pieces_each P f (suc m) k bytes c = (
      f k (eqb m 0) (take (piece_size q r k) bytes) (omega arith),
      pieces_each P f m (suc k) (drop (piece_size q r k) bytes) (omega arith),
    )

    -- each has the prefix, and an accepted name
    pub pieces_prefix : (m k : ℕ) (bytes : Bytes) → k + m ≤ 10000 → Each (λ (i : Item). prefix_of i.name ≡ p) (pieces_from m p q r k bytes)
    pieces_prefix = pieces_each (λ (i : Item). prefix_of i.name ≡ p) (λ k l s b. piece_prefix k l b)

    pub pieces_fielded : reserved p ≡ false → (m k : ℕ) (bytes : Bytes) → k + m ≤ 10000 →
        Each (λ (i : Item). item_kind.fields i ≡ 0) (pieces_from m p q r k bytes)
    pieces_fielded n = pieces_each (λ (i : Item). item_kind.fields i ≡ 0) (λ k l s b. piece_field k l b n)

    -- of two pieces the first is not marked as the last
    module _ (R : Item → Item → Type 0) (f : (j k : ℕ) (l : Bool) (s t : Bytes) → j < k → k ≤ 9999 → R (piece_of j false s) (piece_of k l t)) where
      later : (m j k : ℕ) (s bytes : Bytes) → j < k → k + m ≤ 10000 → Each (R (piece_of j false s)) (pieces_from m p q r k bytes)
      unfolding pieces_from
      later zero j k s bytes l c = tt
      later (suc m) j k s bytes l c = (
        f j k (eqb m 0) s (take (piece_size q r k) bytes) l (omega arith),
        later m j (suc k) s (drop (piece_size q r k) bytes) (omega arith) (omega arith),
      )

      pub pieces_pairs : (m k : ℕ) (bytes : Bytes) → k + m ≤ 10000 → AllPairs R (pieces_from m p q r k bytes)
      unfolding pieces_from
      pieces_pairs zero k bytes c = tt
      pieces_pairs (suc zero) k bytes c = (tt, tt)
      pieces_pairs (suc (suc m)) k bytes c =
          let z : eqb (suc m) 0 ≡ false = ne_eqb (suc m) 0 (λ x. omega arith) in
          let more = drop (piece_size q r k) bytes in (
            subst (λ (l : Bool). Each (R (piece_of k l (take (piece_size q r k) bytes))) (pieces_from (suc m) p q r (suc k) more)) (sym z)
                (later (suc m) k (suc k) (take (piece_size q r k) bytes) more (omega arith) (omega arith)),
            pieces_pairs (suc m) (suc k) more (omega arith),
          )

    -- so they stand by number, and beside each other as held items do
    pub pieces_sorted : (m k : ℕ) (bytes : Bytes) → k + m ≤ 10000 → Sorted key_of_item (pieces_from m p q r k bytes)
    pieces_sorted = pieces_pairs (λ (i j : Item). before (key_of_item i) (key_of_item j) ≡ true) (λ j k l s t c d. number_before j k l c d)

    pub pieces_beside : (m k : ℕ) (bytes : Bytes) → k + m ≤ 10000 → AllPairs Beside (pieces_from m p q r k bytes)
    pieces_beside = pieces_pairs Beside (λ j k l s t c d. two_pieces j k l s t c d)

    -- "pieces 0 to n with n the last"
    pieces_complete : (m k : ℕ) (bytes : Bytes) → k + suc m ≤ 10000 → complete_from k (pieces_from (suc m) p q r k bytes) ≡ true
    unfolding pieces_from complete_from
    pieces_complete zero k bytes c = rw (piece_suffix k true (omega arith), eq-eqb (suc k) (suc k) refl)
    pieces_complete (suc m) k bytes c =
        let z : eqb (suc m) 0 ≡ false = ne_eqb (suc m) 0 (λ x. omega arith) in
        rw (piece_suffix k (eqb (suc m) 0) (omega arith), eq-eqb (suc k) (suc k) refl, z)
        (pieces_complete m (suc k) (drop (piece_size q r k) bytes) (omega arith))

    pub pieces_part : (n : ℕ) (bytes : Bytes) → 0 < n → n ≤ 10000 → is_part (pieces_from n p q r 0 bytes) ≡ true
    unfolding is_part
    pieces_part zero bytes l c = absurd (omega arith)
    pieces_part (suc n) bytes l c = rw (pieces_complete n 0 bytes (omega arith), or_true)

    pub pieces_spelling : (n : ℕ) (bytes : Bytes) → 0 < n → spelling (pieces_from n p q r 0 bytes) ≡ p
    unfolding pieces_from spelling
    pieces_spelling zero bytes l = absurd (omega arith)
    pieces_spelling (suc n) bytes l = piece_prefix 0 (eqb n 0) (omega arith)

    -- none is whole
    pub pieces_not_whole : (m k : ℕ) (bytes : Bytes) → k + m ≤ 10000 → is_whole (pieces_from m p q r k bytes) ≡ false
    unfolding is_whole
    pieces_not_whole m k bytes c =
        none_any (λ (i : Item). whole (suffix_of i.name)) (pieces_from m p q r k bytes)
        (pieces_each (λ (i : Item). whole (suffix_of i.name) ≡ false) (λ k l s b. ap whole (piece_suffix k l b)) m k bytes c)
