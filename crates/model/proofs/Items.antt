-- A new item beside the held ones: what 10, 12 and 11 leave; the item that a name asks for.
-- Assumes nothing.
use mathlib.Core.Path.{◌≡◌, refl, ap, sym, ◌∙◌}
use mathlib.Core.Bool.{Bool, true, false, ◌&&◌, ◌||◌, beq, cond, true≢false, or_comm}
use mathlib.Core.List.{List}
use mathlib.Core.Option.{Option, none, some, none-ne-some, some-injective}
use lib.Dec.{ltb, eqb}
use borrow.Author.Tests.{eq-eqb}
use Rattle.chars.specs.Folding.{equivalent, derivable}
use Rattle.base.proofs.Bools.{and_true, or_false_left, or_false_right}
use Rattle.chars.proofs.Equivalence.{equivalent_sym}
use Rattle.names.specs.declared.items.Suffix.{Suffix}
use Rattle.names.specs.declared.items.Suffix.TheVariants.{Whole, Piece}
use Rattle.model.specs.Sets.{Bytes, same_key, lookup}
use Rattle.model.specs.Fields.{prefix_of, suffix_of, whole, last}
use Rattle.model.specs.Package.{Item, rank, item_key, key_of_item, disagrees, grows, same_last, item_at}
use Rattle.model.specs.Good.{Beside}
use Rattle.model.proofs.Bools.{beq_refl, iff_eq}
use Rattle.model.proofs.Keys.{same_item_key}

pub equivalent_comm : (a b : Bytes) → equivalent a b ≡ equivalent b a
equivalent_comm a b = iff_eq (equivalent a b) (equivalent b a) (equivalent_sym a b) (equivalent_sym b a)

pub disagrees_comm : (x y : Suffix) → disagrees x y ≡ disagrees y x
disagrees_comm Whole Whole = refl
disagrees_comm Whole (Piece j m) = refl
disagrees_comm (Piece k l) Whole = refl
disagrees_comm (Piece k l) (Piece j m) = go l m (ltb j k) (ltb k j)
  where
    go : (l m p q : Bool) → (l && m || m && p || l && q) ≡ (m && l || l && q || m && p)
    go true true p q = refl
    go true false p true = refl
    go true false p false = refl
    go false true true q = refl
    go false true false q = refl
    go false false p q = refl

pub beside_comm : (i j : Item) → Beside i j → Beside j i
beside_comm i j b = record {
  alone = λ w. equivalent_comm (prefix_of j.name) (prefix_of i.name)
      ∙ b.alone (or_comm (whole (suffix_of i.name)) (whole (suffix_of j.name)) ∙ w);
  numbered = λ e r. b.numbered (equivalent_comm (prefix_of i.name) (prefix_of j.name) ∙ e) (sym r);
  underived = (b.underived.1, b.underived.0);
  agreeing = λ e. disagrees_comm (suffix_of j.name) (suffix_of i.name)
      ∙ b.agreeing (equivalent_comm (prefix_of i.name) (prefix_of j.name) ∙ e);
}

-- equivalent prefixes and one rank are one key
pub one_item_key : (s t : Bytes) → equivalent (prefix_of s) (prefix_of t) ≡ true → rank (suffix_of s) ≡ rank (suffix_of t) →
    same_key (item_key s) (item_key t) ≡ true
one_item_key s t e r =
    same_item_key s t ∙ and_true (equivalent (prefix_of s) (prefix_of t)) (eqb (rank (suffix_of s)) (rank (suffix_of t))) e
    (eq-eqb (rank (suffix_of s)) (rank (suffix_of t)) r)

module _ (i j : Item) (free : same_key (item_key i.name) (item_key j.name) ≡ false) where
  ranks_differ : equivalent (prefix_of i.name) (prefix_of j.name) ≡ true → rank (suffix_of i.name) ≡ rank (suffix_of j.name) → ⊥
  ranks_differ e r = true≢false (sym (one_item_key i.name j.name e r) ∙ free)

  -- the new item i beside the held item j
  pub beside_new :
      (equivalent (prefix_of j.name) (prefix_of i.name) ≡ true → disagrees (suffix_of i.name) (suffix_of j.name) ≡ false) →
      grows (prefix_of i.name) (prefix_of j.name) ≡ false → Beside i j
  beside_new agree apart = record {
    alone = λ w. go (equivalent (prefix_of i.name) (prefix_of j.name)) refl w;
    numbered = ranks_differ;
    underived = (or_false_left new_held held_new apart, or_false_right new_held held_new apart);
    agreeing = agreed;
  }
    where
      new_held : Bool
      new_held = derivable (prefix_of i.name) (prefix_of j.name)

      held_new : Bool
      held_new = derivable (prefix_of j.name) (prefix_of i.name)

      agreed : equivalent (prefix_of i.name) (prefix_of j.name) ≡ true → disagrees (suffix_of i.name) (suffix_of j.name) ≡ false
      agreed e = agree (equivalent_sym (prefix_of i.name) (prefix_of j.name) e)

      marks : (x y : Suffix) → (whole x || whole y) ≡ true → disagrees x y ≡ false → (rank x ≡ rank y → ⊥) → ⊥
      marks Whole Whole w d r = r refl
      marks Whole (Piece k l) w d r = true≢false d
      marks (Piece k l) Whole w d r = true≢false d
      marks (Piece k l) (Piece k' l') w d r = true≢false (sym w)

      go : (b : Bool) → equivalent (prefix_of i.name) (prefix_of j.name) ≡ b →
          (whole (suffix_of i.name) || whole (suffix_of j.name)) ≡ true → b ≡ false
      go false e w = refl
      go true e w = absurd (marks (suffix_of i.name) (suffix_of j.name) w (agreed e) (ranks_differ e))

-- the item that a name asks for has the name's last mark
pub item_at_last : (s : Bytes) (is : List Item) (i : Item) → item_at s is ≡ some i → beq (last (suffix_of s)) (last (suffix_of i.name))
    ≡ true
unfolding item_at
item_at_last s is i h = go (lookup key_of_item (item_key s) is) h
  where
    go : (o : Option Item) → same_last (last (suffix_of s)) o ≡ some i → beq (last (suffix_of s)) (last (suffix_of i.name)) ≡ true
    go none e = absurd (none-ne-some i e)
    go (some j) e = on (beq (last (suffix_of s)) (last (suffix_of j.name))) refl e
      where
        on : (b : Bool) → beq (last (suffix_of s)) (last (suffix_of j.name)) ≡ b → cond b (some j) none ≡ some i →
            beq (last (suffix_of s)) (last (suffix_of i.name)) ≡ true
        on true f e = ap (λ (k : Item). beq (last (suffix_of s)) (last (suffix_of k.name))) (sym (some-injective j i e)) ∙ f
        on false f e = absurd (none-ne-some i e)

pub same_last_own : (i : Item) → same_last (last (suffix_of i.name)) (some i) ≡ some i
same_last_own i = rw (beq_refl (last (suffix_of i.name)))
