-- A name taken apart: the prefix's length and the tag, or the refusal.
-- Assumes nothing.
use Prim.Native.Nat.{ℕ, zero, suc, ◌≤◌, ◌<◌}
use mathlib.Core.Path.{◌≡◌, refl, ap, sym, ◌∙◌}
use mathlib.Core.Bool.{Bool, true, false}
use mathlib.Core.List.{[], ◌∷◌}
use native.Mathlib.Omega.{arith}
use lib.ListN.{length, take}
use lib.Seq.{length-take-le, take-length}
use borrow.Author.Tests.{ne_eqb}
use Rattle.std.specs.Prelude.{Ok}
use Rattle.output.specs.declared.refusals.Refusal.{Refusal}
use Rattle.output.specs.Refusals.{number}
use Rattle.output.proofs.Answering.{number_some}
use Rattle.names.specs.Names.{reserved}
use Rattle.names.specs.Items.{item_name, item_refusal}
use Rattle.names.specs.declared.items.Suffix.{Suffix}
use Rattle.names.specs.declared.items.ItemName.{ItemName}
use Rattle.names.specs.declared.items.ItemName.TheVariants as apart
use Rattle.model.specs.Sets.{Bytes}
use Rattle.model.specs.Fields.{first, prefix_in, prefix_of, suffix_of, asked_field, item_field}
use Rattle.model.proofs.ItemNames.{prefix_named, suffix_named, prefix_part}
use Rattle.contract.specs.Rows.{tag_of, default_tag}
use Rattle.contract.proofs.RowKeys.{tag_small}
use Rattle.contract.proofs.RowKinds.{prefix_le}
use Rattle.items.specs.Wants.{wanted}

module _ (s : Bytes) (i : ItemName) (e : i ≡ item_name s) where
  pub refused_some : (r : Refusal) → i ≡ apart.Refused r → item_refusal i ≡ 0 → ⊥
  refused_some r f z = number_some r (sym (ap item_refusal f) ∙ z)

  module _ (r : Refusal) (g : number r ≡ item_refusal i) where
    pub asked_refused : number r ≡ asked_field s
    asked_refused = g ∙ ap item_refusal e

    pub strict_refused : number r ≡ item_field s
    unfolding item_field first
    strict_refused = rw (← asked_refused, ne_eqb (number r) 0 (number_some r))

  module _ (n : ℕ) (x : Suffix) (f : i ≡ apart.Named n x) where
    named : item_name s ≡ apart.Named n x
    named = sym e ∙ f

    pub named_le : n ≤ length s
    named_le = (prefix_part s n x named).1

    pub named_slice : n ≡ length (take n s)
    named_slice = sym (length-take-le n s named_le)

    pub named_small : tag_of x < default_tag
    named_small = rw (suffix_named s n x named) at (tag_small s)

    prefix_is : n ≡ length (prefix_of s)
    prefix_is = named_slice ∙ ap length (sym (prefix_named s n x named))

    tag_is : (t : ℕ) → t ≡ tag_of x → t ≡ tag_of (suffix_of s)
    tag_is t g = g ∙ ap tag_of (sym (suffix_named s n x named))

    asked_0 : asked_field s ≡ 0
    asked_0 = ap item_refusal named

    pub asked_named : (t : ℕ) → t ≡ tag_of x → wanted (asked_field s) s (Ok (record { prefix = n; tag = t }))
    asked_named t g = (prefix_is, tag_is t g, asked_0)

    module _ (z : Bool) (w : z ≡ reserved (take n s)) where
      reserved_is : reserved (prefix_of s) ≡ z
      reserved_is = ap reserved (prefix_named s n x named) ∙ sym w

      pub strict_reserved : z ≡ true → 5 ≡ item_field s
      unfolding item_field first
      strict_reserved y = rw (asked_0, reserved_is, y)

      strict_0 : z ≡ false → item_field s ≡ 0
      unfolding item_field first
      strict_0 y = rw (asked_0, reserved_is, y)

      pub strict_named : (t : ℕ) → t ≡ tag_of x → z ≡ false → wanted (item_field s) s (Ok (record { prefix = n; tag = t }))
      strict_named t g y = (prefix_is, tag_is t g, strict_0 y)

-- THE PREFIX AS A SLICE
take_take_length : (j : ℕ) (s : Bytes) → take (length (take j s)) s ≡ take j s
take_take_length zero s = refl
take_take_length (suc j) [] = refl
take_take_length (suc j) (x ∷ s) = ap (λ (t : Bytes). x ∷ t) (take_take_length j s)

prefix_again : (s : Bytes) → take (length (prefix_of s)) s ≡ prefix_of s
unfolding prefix_of
prefix_again s = go (item_name s)
  where
    go : (i : ItemName) → take (length (prefix_in i s)) s ≡ prefix_in i s
    go (apart.Named n x) = take_take_length n s
    go (apart.Refused k) = take-length s

module _ (s : Bytes) (n : ℕ) (e : n ≡ length (prefix_of s)) where
  pub prefix_take : take n s ≡ prefix_of s
  prefix_take = ap (λ (m : ℕ). take m s) e ∙ prefix_again s

  pub prefix_in_lem : n ≤ length s
  prefix_in_lem = omega (arith, prefix_le s)

  pub prefix_slice : n ≡ length (take n s)
  prefix_slice = sym (length-take-le n s prefix_in_lem)
