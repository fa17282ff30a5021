-- The fields of an entry, from the places of its values and what was decoded of them.
-- Assumes nothing.
use Prim.Native.Nat.{ℕ, ◌-◌, ◌≤◌}
use native.Mathlib.Omega.{arith, min_cases}
use mathlib.Core.Path.{◌≡◌, refl, sym, ap, ◌∙◌, subst}
use mathlib.Core.Bool.{Bool, true, false}
use mathlib.Core.List.{List}
use mathlib.Core.Option.{Option, none, some}
use lib.ListN.{length, take}
use Rattle.std.specs.Prelude.{Option as Optional, Some, None, IfSome}
use Rattle.base.specs.Buffer.{part}
use Rattle.markup.specs.Entries.{Entry, SaysRelationship}
use Rattle.markup.specs.EntryPlaces.{field_size, Decoded, meant, mode_number, says_typed, of_entered, EnteredWithin, Entering}
use Rattle.markup.specs.PiecePlaces.{entry_in}
use Rattle.markup.specs.FieldPlaces.{short, short_typed, TypedAt, short_related, RelatedAt}
use Rattle.markup.specs.declared.entries.Kind.TheVariants.{Types, Relationships}
use Rattle.markup.specs.declared.entries.Entered.{Entered}
use Rattle.markup.specs.declared.entries.Entered.TheVariants.{Typed, Related}
use Rattle.markup.specs.declared.entries.Mode.{Mode}
use Rattle.markup.specs.declared.entries.Value.{Value}

-- a value, in an array
abbrev In : List ℕ → Value → List ℕ → ℕ → Type 0
In s v out n = Decoded (part v.from (v.to - v.from) s) out n

field_fits : {v out : List ℕ} {n : ℕ} → Decoded v out n → n ≤ field_size
field_fits d = omega (arith, d.count, min_cases)

-- THE ENTRY at a place, which says o
module _ {s : List ℕ} {o : Option Entry} {a : Optional Entered} (entry : Entering s o a) where
  pub entry_within : {x : Entered} → a ≡ Some x → EnteredWithin s x
  entry_within e = subst (λ (y : Optional Entered). IfSome y (EnteredWithin s)) e entry.within

  entry_says : {x : Optional Entered} → a ≡ x → of_entered s x ≡ o
  entry_says e = sym (ap (of_entered s) e) ∙ entry.is

-- A DEFAULT OR AN OVERRIDE
short_typed_lem : (d : Bool) (u v : List ℕ) → some (says_typed d (short u) (short v)) ≡ short_typed (some (says_typed d u v))
short_typed_lem true u v = refl
short_typed_lem false u v = refl

module _ {s : List ℕ} {at : ℕ} {a : Optional Entered} (entry : Entering s (entry_in Types s at) a) where
  pub typed_is : {d : Bool} {k m : Value} → a ≡ Some (Typed d k m) → {key media : List ℕ} {x y : ℕ} → In s k key x → In s m media y
      → TypedAt s at key media (Some (record { default = d; key = x; media = y }))
  typed_is {d} {k} {m} e {key} {media} {x} {y} p q = record {
    sizes = (p.size, q.size);
    fits = (field_fits p, field_fits q);
    is =
        ap (λ (v : List ℕ). some (says_typed d v (take y media))) p.is ∙ ap (λ (v : List ℕ). some (says_typed d (short (meant s k)) v)) q.is
        ∙ short_typed_lem d (meant s k) (meant s m) ∙ ap short_typed (entry_says entry e);
  }

  -- no entry, or one of the other kind
  module _ {key media : List ℕ} (z : (length key ≡ field_size) × (length media ≡ field_size)) where
    pub typed_none : a ≡ None → TypedAt s at key media None
    typed_none e = record { sizes = z; fits = tt; is = ap short_typed (entry_says entry e) }

    pub typed_other : {i t g : Value} {m : Mode} → a ≡ Some (Related i t m g) → TypedAt s at key media None
    typed_other e = record { sizes = z; fits = tt; is = ap short_typed (entry_says entry e) }

-- A RELATIONSHIP
none_related : (d : Bool) (u v : List ℕ) → none ≡ short_related (some (says_typed d u v))
none_related true u v = refl
none_related false u v = refl

module _ {s : List ℕ} {at : ℕ} {a : Optional Entered} (entry : Entering s (entry_in Relationships s at) a) where
  pub related_is : {i t g : Value} {m : Mode} → a ≡ Some (Related i t m g) → {id iri target : List ℕ} {x y z : ℕ} → In s i id x → In s t iri y
      → In s g target z → RelatedAt s at id iri target (Some (record { id = x; iri = y; mode = m; target = z }))
  related_is {i} {t} {g} {m} e {id} {iri} {target} {x} {y} {z} p q r = record {
    sizes = (p.size, q.size, r.size);
    fits = (field_fits p, field_fits q, field_fits r);
    is =
        ap (λ (v : List ℕ). some (SaysRelationship v (take y iri) (mode_number m) (take z target))) p.is
        ∙ ap (λ (v : List ℕ). some (SaysRelationship (short (meant s i)) v (mode_number m) (take z target))) q.is
        ∙ ap (λ (v : List ℕ). some (SaysRelationship (short (meant s i)) (short (meant s t)) (mode_number m) v)) r.is
        ∙ ap short_related (entry_says entry e);
  }

  module _ {id iri target : List ℕ} (z : (length id ≡ field_size) × (length iri ≡ field_size) × (length target ≡ field_size)) where
    pub related_none : a ≡ None → RelatedAt s at id iri target None
    related_none e = record { sizes = z; fits = tt; is = ap short_related (entry_says entry e) }

    pub related_other : {d : Bool} {k m : Value} → a ≡ Some (Typed d k m) → RelatedAt s at id iri target None
    related_other {d} {k} {m} e =
        record { sizes = z; fits = tt; is = none_related d (meant s k) (meant s m) ∙ ap short_related (entry_says entry e) }
