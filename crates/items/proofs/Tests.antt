-- The tests of one row beside a new item.
-- Assumes nothing.
use Prim.Native.Nat.{ℕ, ◌+◌, ◌-◌, ◌≤◌, ◌<◌}
use mathlib.Core.Path.{◌≡◌, refl, ap, ap₂, sym, ◌∙◌}
use mathlib.Core.Bool.{Bool, true, false, not, ◌&&◌, ◌||◌}
use mathlib.Core.List.{List}
use native.Mathlib.Omega.{arith}
use lib.Dec.{ltb, eqb}
use lib.ListN.{length, get_or, take, length-map}
use borrow.Author.Tests.{lt-ltb, le-ltb, eq-eqb, ne_eqb, not-true, not-false}
use Rattle.chars.specs.Bytes.{slash}
use Rattle.chars.specs.Lists.{same}
use Rattle.chars.specs.Folding.{lower, fold, equivalent}
use Rattle.chars.specs.FoldedNames.{common, Shared}
use Rattle.chars.proofs.FoldedTexts.{take_map, fold_fold}
use Rattle.chars.proofs.CommonStarts.{common_left_all, common_right_all}
use Rattle.chars.proofs.Derivability.{derivable_is, not_derivable}
use Rattle.base.proofs.Bools.{and_false, and_right_true}
use Rattle.model.specs.Sets.{Bytes}
use Rattle.model.specs.Package.{grows}
use Rattle.model.proofs.Items.{equivalent_comm}
use Rattle.store.specs.Layout.{count_of}
use Rattle.store.specs.Rows.{row_at, tag_at, field_of}
use Rattle.store.specs.Packages.{Shape, Sound}
use Rattle.items.specs.Clashes.{tags_disagree, extends, Parted, Extended, Opposed, OpposedBefore}

both_true : (a x c : Bool) → a ≡ true → c ≡ true → x ≡ (a && (x && c))
both_true a x c e f = rw (e, f, and_right_true)

or_none : (a : Bool) → (a || false) ≡ a
or_none true = refl
or_none false = refl

module _ (b : List ℕ) (i m : ℕ) (p : Bytes) (t : ℕ) where
  pub opposed_past : m ≤ i → Opposed b i m p t false
  opposed_past l = record { is = λ s k. rw (le-ltb i m l) }

  module _ (l : i < m) (u : ℕ) (eu : Shape b → i < count_of b → u ≡ tag_at b i) where
    tag_at_lem : Sound b → m ≤ count_of b → tag_at b i ≡ u
    tag_at_lem s k = sym (eu s.shape (omega arith))

    module _ (d : Bool) (ed : d ≡ tags_disagree t u) where
      pub opposed_agree : not d ≡ true → Opposed b i m p t false
      opposed_agree e = record { is = λ s k. rw (lt-ltb i m l, tag_at_lem s k, ← ed, not-true d e, and_false) }

      pub opposed_here : not d ≡ false → (f : Bytes) → (Sound b → i < count_of b → f ≡ field_of (row_at b i) 0) →
          (w : Bytes) → w ≡ fold p → (z : Bool) → z ≡ same (fold f) w → Opposed b i m p t z
      unfolding equivalent
      opposed_here e f ef w ew z ez = record {
        is = λ s k.
            ez ∙ ap (same (fold f)) ew ∙ ap (λ (g : Bytes). equivalent g p) (ef s (omega arith))
            ∙ both_true (ltb i m) (equivalent (field_of (row_at b i) 0) p) (tags_disagree t (tag_at b i)) (lt-ltb i m l) (ap (tags_disagree t) (tag_at_lem s k) ∙ sym ed ∙ not-false d e);
      }

module _ (b : List ℕ) (r m : ℕ) (p : Bytes) (t : ℕ) where
  pub before_none : r ≡ 0 → OpposedBefore b r m p t false
  before_none e = record { is = λ s k. rw (e) }

  pub before_some : (z : Bool) → (r ≡ 0 → ⊥) → Opposed b (r - 1) m p t z → OpposedBefore b r m p t z
  before_some z e o = record { is = λ s k. rw (lt-ltb 0 r (omega arith)) (o.is s k) }

-- whether the rows beside a new item let a prefix grow out of its prefix, or that out of one
module _ (b : List ℕ) (i m : ℕ) (p : Bytes) where
  pub extended_past : m ≤ i → Extended b i m p false
  extended_past l = record { is = λ s k. rw (le-ltb i m l) }

  pub extended_here : i < m → (q : Bytes) → (Sound b → i < count_of b → q ≡ field_of (row_at b i) 0) →
      (w : Bytes) → w ≡ fold p → (z : Bool) → z ≡ extends q w → Extended b i m p z
  unfolding equivalent
  extended_here l q eq w ew z ez = record {
    is = λ s k. ez ∙ ap (extends q) ew ∙ rw (length-map p lower, fold_fold p, lt-ltb i m l, ← eq s (omega arith));
  }

-- the tests of a text and one that is folded, by how many bytes they have in common
module _ (q w : Bytes) (ew : fold w ≡ w) (c : ℕ) (ec : Shared q w 0 c) where
  common_is : c ≡ common (fold q) w
  common_is = ec.is (omega arith)

  whole_is : length w ≤ length q → eqb c (length w) ≡ equivalent (take (length w) q) w
  unfolding equivalent
  whole_is h =
      ap (λ (n : ℕ). eqb n (length w)) common_is ∙ common_right_all (fold q) w (omega (arith, length-map q lower))
      ∙ ap₂ same (take_map lower (length w) q) (sym ew)

  pub extends_long : length w < length q → eqb c (length w) ≡ extends q w
  extends_long h = whole_is (omega arith) ∙ rw (lt-ltb (length w) (length q) h)

  -- w from q
  pub grown_from : length q + 1 < length w → (x : ℕ) → x ≡ get_or w (length q) 0 → x ≡ slash → eqb c (length q) ≡ grows w q
  unfolding equivalent
  grown_from h x ex e =
      ap (λ (n : ℕ). eqb n (length q)) common_is
      ∙ ap (eqb (common (fold q) w)) (sym (length-map q lower))
      ∙ common_left_all (fold q) w (omega (arith, length-map q lower))
      ∙ ap (λ (n : ℕ). same (fold q) (take n w)) (length-map q lower)
      ∙ ap (λ (l : Bytes). same (fold q) (take (length q) l)) (sym ew) ∙ ap (same (fold q)) (take_map lower (length q) w)
      ∙ equivalent_comm q (take (length q) w)
      ∙ sym (ap₂ ◌||◌ (derivable_is w q h ∙ ap (λ (y : Bool). equivalent (take (length q) w) q && y) (eq-eqb (get_or w (length q) 0) slash (sym ex ∙ e)))
      (not_derivable q w (omega arith)) ∙ or_none _ ∙ and_right_true _)

  -- q from w
  pub grown_into : length w + 1 < length q → (x : ℕ) → x ≡ get_or q (length w) 0 → x ≡ slash → eqb c (length w) ≡ grows w q
  grown_into h x ex e =
      whole_is (omega arith)
      ∙ sym (ap₂ ◌||◌ (not_derivable w q (omega arith))
      (derivable_is q w h ∙ ap (λ (y : Bool). equivalent (take (length w) q) w && y) (eq-eqb (get_or q (length w) 0) slash (sym ex ∙ e))) ∙ and_right_true _)

module _ (q w : Bytes) where
  pub extends_short : length q ≤ length w → false ≡ extends q w
  extends_short h = rw (le-ltb (length w) (length q) h)

  pub grown_no_slash : length q + 1 < length w → (x : ℕ) → x ≡ get_or w (length q) 0 → (x ≡ slash → ⊥) → false ≡ grows w q
  grown_no_slash h x ex n =
      sym (ap₂ ◌||◌ (derivable_is w q h ∙ ap (λ (y : Bool). equivalent (take (length q) w) q && y) (ne_eqb (get_or w (length q) 0) slash (λ e. n (ex ∙ e))) ∙ and_false (equivalent (take (length q) w) q))
      (not_derivable q w (omega arith)))

  pub grown_no_rest : length w ≤ length q + 1 → length q ≤ length w + 1 → false ≡ grows w q
  grown_no_rest h k = sym (ap₂ ◌||◌ (not_derivable w q h) (not_derivable q w k))

  pub grown_into_no_slash : length w + 1 < length q → (x : ℕ) → x ≡ get_or q (length w) 0 → (x ≡ slash → ⊥) → false ≡ grows w q
  grown_into_no_slash h x ex n =
      sym (ap₂ ◌||◌ (not_derivable w q (omega arith))
      (derivable_is q w h ∙ ap (λ (y : Bool). equivalent (take (length w) q) w && y) (ne_eqb (get_or q (length w) 0) slash (λ e. n (ex ∙ e))) ∙ and_false (equivalent (take (length w) q) w)))

module _ (b : List ℕ) (r : ℕ) (p : Bytes) where
  pub parted_none : r ≡ 0 → Parted b r p false
  parted_none e = record { is = λ s k. rw e }

  pub parted_some : (r ≡ 0 → ⊥) → (q : Bytes) → (Sound b → r - 1 < count_of b → q ≡ field_of (row_at b (r - 1)) 0) → (w : Bytes) → w ≡ fold p → (n : ℕ) → Shared q w 0 n → (x : ℕ) → x ≡ get_or p n 0 →
      Parted b r p (eqb x slash)
  parted_some e q eq w ew n en x ex =
      let k : n ≡ common (fold q) (fold p) = en.is (omega arith) ∙ ap (common (fold q)) ew in
      record { is = λ s l. rw (lt-ltb 0 r (omega arith), ← eq s (omega arith), ex, k) }
