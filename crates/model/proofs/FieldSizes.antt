-- How long the fields of a good package are.
-- Assumes nothing.
use Prim.Native.Nat.{ℕ, ◌≤◌, ◌<◌}
use mathlib.Core.Path.{◌≡◌, refl, subst}
use mathlib.Core.Bool.{Bool, true, false, not, cond}
use mathlib.Core.List.{[], ◌∷◌}
use mathlib.Core.Option.{Option, none, some, none-ne-some, some-injective}
use native.Mathlib.Omega.{arith}
use lib.Dec.{eqb}
use lib.ListN.{length, get_or}
use borrow.Author.Tests.{ne_eqb}
use Rattle.names.specs.Names.{part_name, extension_at}
use Rattle.names.specs.Types.{media_type, extension}
use Rattle.names.proofs.Lengths.{part_name_size, media_type_size}
use Rattle.model.specs.Sets.{Bytes, lookup}
use Rattle.model.specs.Fields.{when, first, prefix_of, default_fields, override_fields}
use Rattle.model.specs.Package.{Item, Default, Override, State, name_key, key_of_default, key_of_override, extension_of, default_for, type_of, type_of_default, media_type_of, default_kind, override_kind}
use Rattle.model.specs.Good.{Good}
use Rattle.model.proofs.Lists.{each_at}
use Rattle.model.proofs.Lookups.{lookup_each}
use Rattle.model.proofs.ItemNames.{prefixes_named}

-- the prefix of a held item
pub prefix_few : (S : State) → Good S → (i : ℕ) (d : Item) → i < length S.items → length (prefix_of (get_or S.items i d).name) ≤ 255
prefix_few S g i d l =
    let x = get_or S.items i d in
    (part_name_size (prefix_of x.name)
    (each_at (λ (y : Item). part_name (prefix_of y.name) ≡ true) S.items i d l (prefixes_named S g))).1

-- a media type
abbrev Sized : Bytes → Type 0
Sized t = (0 < length t) × (length t ≤ 127)

media_size : (t : Bytes) → media_type t ≡ true → Sized t
media_size t e = let s = media_type_size t e in (omega (arith, s.0), s.1)

-- the second of two fields that are both accepted is a media type
second_field : (y z : Bool) (n : ℕ) → 0 < n → first (when (not y) n ∷ when (not z) 7 ∷ []) ≡ 0 → z ≡ true
unfolding first
second_field y true n l e = refl
second_field true false n l e = absurd (omega arith)
second_field false false n l e = absurd (omega (arith, rw (ne_eqb n 0 (λ z. omega arith)) at e))

default_size : (d : Default) → default_kind.fields d ≡ 0 → Sized d.type
unfolding default_fields
default_size d e = media_size d.type (second_field (extension d.extension) (media_type d.type) 7 (omega arith) e)

override_size : (o : Override) → override_kind.fields o ≡ 0 → Sized o.type
unfolding override_fields
override_size o e = media_size o.type (second_field (part_name o.name) (media_type o.type) 4 (omega arith) e)

-- the media type of a name
pub type_size : (S : State) → Good S → (name t : Bytes) → media_type_of name S ≡ some t → Sized t
unfolding media_type_of
type_size S g name t = by_override_lem (lookup key_of_override (name_key name) S.overrides) refl
  where
    by_default_lem : (o : Option Default) → default_for name S.defaults ≡ o → type_of_default o ≡ some t → Sized t
    by_default_lem none e f = absurd (none-ne-some t f)
    by_default_lem (some d) e f = subst Sized (some-injective d.type t f) (default_size d (go (eqb (extension_at name) 0) e))
      where
        go : (z : Bool) → cond z none (lookup key_of_default (name_key (extension_of name)) S.defaults) ≡ some d → default_kind.fields d ≡ 0
        go true e = absurd (none-ne-some d e)
        go false e = lookup_each key_of_default (λ (x : Default). default_kind.fields x ≡ 0) (name_key (extension_of name)) S.defaults d
            g.defaults.fielded e

    by_override_lem : (o : Option Override) → lookup key_of_override (name_key name) S.overrides ≡ o → type_of o (default_for name S.defaults)
        ≡ some t → Sized t
    by_override_lem none e f = by_default_lem (default_for name S.defaults) refl f
    by_override_lem (some o) e f =
        subst Sized (some-injective o.type t f)
        (override_size o (lookup_each key_of_override (λ (x : Override). override_kind.fields x ≡ 0) (name_key name) S.overrides o
        g.overrides.fielded e))
