-- A suffix and an item name, from what the judges of their parts ensure.
-- Assumes nothing.
use mathlib.Core.Path.{◌≡◌, refl, sym, ap, ◌∙◌}
use mathlib.Core.Bool.{Bool, true, false, not, ◌&&◌, ◌||◌, false≢true}
use mathlib.Core.List.{List}
use Prim.Native.Nat.{ℕ, ◌+◌, ◌-◌, ◌≤◌, ◌<◌}
use native.Mathlib.Omega.{arith}
use lib.Dec.{eqb}
use lib.ListN.{length, take, drop, get_or}
use lib.Seq.{length-take-le}
use borrow.Author.Tests.{eq-eqb, ne_eqb, eqb-true, eqb-false}
use Rattle.chars.specs.Bytes.{ascii, slash, open_bracket, close_bracket}
use Rattle.chars.specs.Lists.{every, index_of, after_last}
use Rattle.chars.specs.Folding.{equivalent}
use Rattle.base.proofs.Bools.{and_false, not_passing}
use Rattle.base.proofs.Lists.{take_rest}
use Rattle.chars.proofs.Searches.{index_le, index_found, last_le, last_pos, every_take, every_drop, every_get_or}
use Rattle.chars.proofs.UnitBytes.{but}
use Rattle.names.specs.Names.{part_name}
use Rattle.names.specs.Numbers.{value, numeral}
use Rattle.names.specs.Reading.{read_numeral}
use Rattle.names.specs.Items.{refusal_number, suffix_where, suffix, named, as_piece, item_name}
use Rattle.names.specs.declared.items.Suffix.{Suffix}
use Rattle.names.specs.declared.items.Suffix.TheVariants.{Whole, Piece}
use Rattle.names.specs.declared.items.ItemName.TheVariants.{Refused}
use Rattle.std.specs.Prelude.{Option, Some, None, IsSome}
use Rattle.output.specs.declared.refusals.Refusal.{Refusal}
use Rattle.output.specs.declared.refusals.Refusal.TheVariants.{NotAPartName, BadSuffix}
use Rattle.names.proofs.Digits.{was_read, unread}
use Rattle.names.proofs.NameBytes.{name_slash}

module _ (t : List ℕ) (e : ℕ) (here : e ≡ 0 + index_of close_bracket t) where
  at : index_of close_bracket t ≡ e
  at = index_found close_bracket t e here

  pub suffix_le : e ≤ length t
  suffix_le = omega (arith, at, index_le close_bracket t)

  pub suffix_none : e ≡ 0 → suffix t ≡ Whole
  unfolding suffix numeral
  suffix_none z = rw (at, z)

  -- the two endings are told, and what is read of the number before them
  module _ (l p : Bool) (el : l ≡ equivalent (take (length t - e) (drop e t)) (ascii "].last.piece"))
      (ep : p ≡ equivalent (take (length t - e) (drop e t)) (ascii "].piece")) where
    told : suffix t ≡ suffix_where (numeral (take (e - 1) (drop 1 t)) && (p || l)) (Piece (value 0 (take (e - 1) (drop 1 t))) l)
    unfolding suffix
    told = rw (el, ep, take_rest t e, at)

    pub suffix_unended : (p || l) ≡ false → suffix t ≡ Whole
    suffix_unended f = told ∙ rw (f, and_false)

    pub suffix_unnumbered : None ≡ read_numeral (take (e - 1) (drop 1 t)) → suffix t ≡ Whole
    suffix_unnumbered f = told ∙ rw (unread (take (e - 1) (drop 1 t)) f)

    pub suffix_piece : (p || l) ≡ true → (k : ℕ) → Some k ≡ read_numeral (take (e - 1) (drop 1 t)) → suffix t ≡ Piece k l
    suffix_piece f k g =
        let r = was_read (take (e - 1) (drop 1 t)) k g in
        told ∙ rw (r.0, f, r.1)

module _ (s : List ℕ) (p : ℕ) (here : p ≡ after_last slash s) where
  pub last_segment_le : p ≤ length s
  last_segment_le = omega (arith, last_le slash s)

  pub item_none : p ≡ 0 → item_name s ≡ Refused NotAPartName
  unfolding item_name
  item_none z = rw (← here, z)

  module _ (z : p ≡ 0 → ⊥) (x : ℕ) (first : x ≡ get_or (take (length s - p) (drop p s)) 0 0) where
    pub item_whole : (j : Bool) → (x ≡ open_bracket → ⊥) → j ≡ part_name s → item_name s ≡ named j (length s) Whole
    unfolding item_name
    item_whole j n e = rw (← here, ne_eqb p 0 z, ← take_rest s p, ← first, ne_eqb x open_bracket n, e)

    module _ (b : x ≡ open_bracket) (u : Suffix) (e : u ≡ suffix (take (length s - p) (drop p s))) where
      piece : item_name s ≡ as_piece u (take (p - 1) s)
      unfolding item_name
      piece = rw (← here, ne_eqb p 0 z, ← take_rest s p, ← first, eq-eqb x open_bracket b, ← here, ← take_rest s p, ← e)

      pub item_no_suffix : u ≡ Whole → item_name s ≡ Refused BadSuffix
      item_no_suffix q = piece ∙ rw q

      pub item_piece : (j : Bool) (k : ℕ) (l : Bool) → u ≡ Piece k l → j ≡ part_name (take (p - 1) s) → item_name s ≡ named j (p - 1) (Piece k l)
      item_piece j k l q g =
          let n : length (take (p - 1) s) ≡ p - 1 = length-take-le (p - 1) s (omega (arith, last_le slash s)) in
          piece ∙ rw (q, g, n)

-- a name without brackets has no suffix
pub item_plain : (s : List ℕ) → every (but open_bracket) s ≡ true → item_name s ≡ named (part_name s) (length s) Whole
item_plain s e = go (eqb (after_last slash s) 0) refl
  where
    p : ℕ
    p = after_last slash s

    x : ℕ
    x = get_or (take (length s - p) (drop p s)) 0 0

    go : (q : Bool) → eqb (after_last slash s) 0 ≡ q → item_name s ≡ named (part_name s) (length s) Whole
    go true z =
        let n : part_name s ≡ false = not_passing (part_name s) (λ h. let l : 0 < p = last_pos slash s (omega arith) (name_slash s h) in omega (arith, eqb-true p 0 z)) in
        item_none s p refl (eqb-true p 0 z) ∙ rw n
    go false z =
        let f : but open_bracket x ≡ true = every_get_or (but open_bracket) refl (take (length s - p) (drop p s)) 0 (every_take (but open_bracket) (length s - p) (drop p s) (every_drop (but open_bracket) p s e)) in
        item_whole s p refl (eqb-false p 0 z) x refl (part_name s) (λ h. false≢true (sym (ap not (eq-eqb x open_bracket h)) ∙ f)) refl

-- a name that is refused has a refusal
pub told_some : (o : Option Refusal) (n : ℕ) → refusal_number o ≡ n → (n ≡ 0 → ⊥) → IsSome o
told_some None n e z = absurd (z (sym e))
told_some (Some r) n e z = refl
