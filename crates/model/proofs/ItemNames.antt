-- The prefix and the suffix of an item name, by what `item_name` of the crate `names` says.
-- Assumes nothing.
use Prim.Native.Nat.{ℕ, ◌-◌, ◌≤◌}
use mathlib.Core.Path.{◌≡◌, refl, ap, sym, ◌∙◌}
use mathlib.Core.Bool.{Bool, true, false, true≢false}
use mathlib.Core.List.{[], ◌++◌, append-nil}
use native.Mathlib.Omega.{arith}
use lib.Dec.{eqb}
use lib.ListN.{length, get_or, take, drop, take-append-drop}
use lib.Seq.{take-length, length-take-le}
use Rattle.base.proofs.Lists.{length_take_le_length, append_rest}
use Rattle.chars.specs.Bytes.{slash, open_bracket}
use Rattle.chars.specs.Lists.{after_last}
use Rattle.chars.proofs.Searches.{last_le}
use Rattle.names.specs.Names.{part_name, reserved, last_segment, folder}
use Rattle.names.specs.Items.{item_name, item_refusal, unless_no_slash, as_item, as_piece, named, suffix}
use Rattle.names.specs.declared.items.Suffix.{Suffix}
use Rattle.names.specs.declared.items.Suffix.TheVariants.{Whole, Piece}
use Rattle.output.specs.declared.refusals.Refusal.{Refusal}
use Rattle.output.specs.declared.refusals.Refusal.TheVariants.{NotAPartName, BadSuffix}
use Rattle.output.proofs.Answering.{number_some}
use Rattle.names.specs.declared.items.ItemName.{ItemName}
use Rattle.names.specs.declared.items.ItemName.TheVariants.{Named, Refused}
use Rattle.model.specs.Sets.{Bytes, Each}
use Rattle.model.specs.Fields.{prefix_in, suffix_in, prefix_of, suffix_of, whole, asked_field, item_field}
use Rattle.model.specs.Package.{Item, State, item_kind}
use Rattle.model.specs.Good.{Good}
use Rattle.model.proofs.Lists.{each_map}
use Rattle.model.proofs.Refusals.{all_none, unmet}

named_refused : (n : ℕ) (r : Refusal) (x : Suffix) → Named n x ≡ Refused r → ⊥
named_refused n r x e = cc e

-- what a split name says
pub prefix_named : (s : Bytes) (n : ℕ) (x : Suffix) → item_name s ≡ Named n x → prefix_of s ≡ take n s
unfolding prefix_of
prefix_named s n x e = ap (λ (m : ItemName). prefix_in m s) e

pub suffix_named : (s : Bytes) (n : ℕ) (x : Suffix) → item_name s ≡ Named n x → suffix_of s ≡ x
unfolding suffix_of
suffix_named s n x e = ap suffix_in e

-- the prefix of a name that splits is a part name, n bytes of it; without a suffix it is the name itself
pub prefix_part : (s : Bytes) (n : ℕ) (x : Suffix) → item_name s ≡ Named n x →
    (part_name (take n s) ≡ true) × (n ≤ length s) × (x ≡ Whole → n ≡ length s)
unfolding item_name
prefix_part s n x h = go (eqb (after_last slash s) 0) (eqb (get_or (last_segment s) 0 0) open_bracket) h
  where
    as_part : (b : Bool) (m : ℕ) (y : Suffix) → part_name (take m s) ≡ b → m ≤ length s → (y ≡ Whole → m ≡ length s) →
        named b m y ≡ Named n x →
        (part_name (take n s) ≡ true) × (n ≤ length s) × (x ≡ Whole → n ≡ length s)
    as_part true m y e l w f =
        let p : m ≡ n = cc in
        let q : y ≡ x = cc in
        (ap (λ (k : ℕ). part_name (take k s)) (sym p) ∙ e, omega arith, λ r. sym p ∙ w (q ∙ r))
    as_part false m y e l w f = absurd (named_refused n NotAPartName x (sym f))

    before_slash : after_last slash s - 1 ≤ length s
    before_slash = omega (arith, last_le slash s)

    length_folder : length (folder s) ≡ after_last slash s - 1
    length_folder = length-take-le (after_last slash s - 1) s before_slash

    piece_whole : (k : ℕ) (l : Bool) → Piece k l ≡ Whole → length (folder s) ≡ length s
    piece_whole k l e = let z : ◌≡◌ {A = ℕ} 0 1 = cc in absurd (omega arith)

    piece : (u : Suffix) → as_piece u (folder s) ≡ Named n x → (part_name (take n s) ≡ true) × (n ≤ length s) × (x ≡ Whole → n ≡ length s)
    piece Whole f = absurd (named_refused n BadSuffix x (sym f))
    piece (Piece k l) f = as_part (part_name (take (length (folder s)) s)) (length (folder s)) (Piece k l) refl
        (omega (arith, length_folder, before_slash)) (piece_whole k l)
        (sym (ap (λ (b : Bool). named b (length (folder s)) (Piece k l)) whole_folder) ∙ f)
      where
        whole_folder : part_name (folder s) ≡ part_name (take (length (folder s)) s)
        whole_folder = ap (λ (m : ℕ). part_name (take m s)) (sym length_folder)

    go : (a b : Bool) → unless_no_slash a (as_item b s) ≡ Named n x →
        (part_name (take n s) ≡ true) × (n ≤ length s) × (x ≡ Whole → n ≡ length s)
    go true b f = absurd (named_refused n NotAPartName x (sym f))
    go false true f = piece (suffix (last_segment s)) f
    go false false f = as_part (part_name s) (length s) Whole (ap part_name (take-length s)) (omega arith) (λ e. refl) f

-- a name without a suffix is its own prefix
pub whole_prefix : (s : Bytes) → whole (suffix_of s) ≡ true → prefix_of s ≡ s
unfolding prefix_of
whole_prefix s w = go (item_name s) refl
  where
    named_whole : (n : ℕ) (x : Suffix) → item_name s ≡ Named n x → whole x ≡ true → prefix_of s ≡ s
    named_whole n Whole e f = prefix_named s n Whole e ∙ ap (λ (k : ℕ). take k s) ((prefix_part s n Whole e).2 refl) ∙ take-length s
    named_whole n (Piece k l) e f = absurd (true≢false (sym f))

    go : (x : ItemName) → item_name s ≡ x → prefix_of s ≡ s
    go (Named n x) e = named_whole n x e (ap whole (sym (suffix_named s n x e)) ∙ w)
    go (Refused k) e = ap (λ (m : ItemName). prefix_in m s) e

pub prefix_short : (s : Bytes) → length (prefix_of s) ≤ length s
unfolding prefix_of
prefix_short s = go (item_name s)
  where
    go : (x : ItemName) → length (prefix_in x s) ≤ length s
    go (Named n x) = length_take_le_length n s
    go (Refused k) = omega arith

-- a name is its prefix and what follows it
pub prefix_rest : (s : Bytes) → prefix_of s ++ drop (length (prefix_of s)) s ≡ s
unfolding prefix_of
prefix_rest s = go (item_name s)
  where
    go : (x : ItemName) → prefix_in x s ++ drop (length (prefix_in x s)) s ≡ s
    go (Named n x) = append_rest (take n s) (drop n s) s (take-append-drop n s)
    go (Refused k) = append_rest s [] s (append-nil s)

-- a name that splits: its prefix is a part name
pub asked_prefix : (s : Bytes) → asked_field s ≡ 0 → part_name (prefix_of s) ≡ true
asked_prefix s h = splits (item_name s) refl h
  where
    splits : (m : ItemName) → item_name s ≡ m → item_refusal m ≡ 0 → part_name (prefix_of s) ≡ true
    splits (Named n x) e f = ap part_name (prefix_named s n x e) ∙ (prefix_part s n x e).0
    splits (Refused r) e f = absurd (number_some r f)

-- an accepted item name: its prefix is unreserved too
pub accepted_prefix : (s : Bytes) → item_field s ≡ 0 → (part_name (prefix_of s) ≡ true) × (reserved (prefix_of s) ≡ false)
unfolding item_field
accepted_prefix s h =
    let z = all_none _ h in
    (asked_prefix s z.0, unmet (reserved (prefix_of s)) 5 (omega arith) z.1.0)

-- the prefixes of held items are part names
pub prefixes_named : (S : State) → Good S → Each (λ (i : Item). part_name (prefix_of i.name) ≡ true) S.items
prefixes_named S g = each_map (λ (i : Item). item_kind.fields i ≡ 0) (λ (i : Item). part_name (prefix_of i.name) ≡ true) S.items
    (λ i h. (accepted_prefix i.name h).0) g.items.fielded
