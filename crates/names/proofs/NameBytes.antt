-- Which bytes a part name can hold.
-- Assumes nothing.
use mathlib.Core.Path.{◌≡◌, refl, ap, ◌∙◌}
use mathlib.Core.Bool.{Bool, true, false, not, ◌&&◌}
use mathlib.Core.List.{List, [], ◌∷◌}
use Prim.Native.Nat.{ℕ, ◌<◌}
use lib.Dec.{eqb}
use lib.ListN.{length, drop, get_or}
use borrow.Author.Tests.{eqb-true}
use Rattle.chars.specs.Bytes.{slash, dot, percent, within, hex_digit}
use Rattle.chars.specs.Lists.{is_empty, every, last_byte, split, all, tiled}
use Rattle.chars.specs.Characters.{single, unit}
use Rattle.chars.specs.declared.units.Grammar.TheVariants.{Segment}
use Rattle.base.proofs.Bools.{and_left, and_right, and_true}
use Rattle.chars.proofs.Splits.{split_every, all_imp}
use Rattle.chars.proofs.UnitBytes.{Covers, tiled_every, but, covers_but}
use Rattle.names.specs.Names.{segment, part_name}

pub segment_every : (q : ℕ → Bool) → Covers Segment q → (s : List ℕ) → segment s ≡ true → every q s ≡ true
unfolding segment
segment_every q h s e = tiled_every Segment q h s (and_right (not (is_empty s) && not (eqb (last_byte s) dot)) (tiled (unit Segment) 0 s) e)

module _ (n : List ℕ) (h : part_name n ≡ true) where
  front : (within 2 255 (length n) && eqb (get_or n 0 0) slash) ≡ true
  unfolding part_name
  front = and_left (within 2 255 (length n) && eqb (get_or n 0 0) slash) (all segment (split slash (drop 1 n))) h

  pub name_slash : get_or n 0 0 ≡ slash
  name_slash = eqb-true (get_or n 0 0) slash (and_right (within 2 255 (length n)) (eqb (get_or n 0 0) slash) front)

  pub name_every : (q : ℕ → Bool) → Covers Segment q → q slash ≡ true → every q n ≡ true
  unfolding part_name every
  name_every q c s =
      go n name_slash
      (split_every slash q s (drop 1 n)
      (all_imp segment (every q) (segment_every q c) (split slash (drop 1 n)) (and_right (within 2 255 (length n) && eqb (get_or n 0 0) slash) (all segment (split slash (drop 1 n))) h)))
    where
      go : (m : List ℕ) → get_or m 0 0 ≡ slash → every q (drop 1 m) ≡ true → every q m ≡ true
      go [] e f = refl
      go (x ∷ m) e f = and_true (q x) (every q m) (ap q e ∙ s) f

  -- an ASCII byte that no segment holds stands nowhere in a part name, unless it is the slash
  pub name_but : (c : ℕ) → single Segment c ≡ false → hex_digit c ≡ false → eqb percent c ≡ false → c < 0x80 → eqb slash c ≡ false → every (but c) n ≡ true
  name_but c s x p l t = name_every (but c) (covers_but Segment c s x p l) (ap not t)
