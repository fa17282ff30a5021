-- How Defaults, Overrides and relationships are noted: their shades have their keys, accepted fields, and fit the shadow.
-- Assumes nothing.
use Prim.Native.Nat.{suc, ◌≤◌}
use mathlib.Core.Path.{◌≡◌, refl, ap, sym, ◌∙◌}
use mathlib.Core.Bool.{not}
use mathlib.Core.List.{[]}
use native.Mathlib.Omega.{arith}
use lib.ListN.{length}
use borrow.Author.Tests.{not-false}
use Rattle.chars.specs.Bytes.{ascii}
use Rattle.chars.specs.Folding.{fold}
use Rattle.names.specs.Names.{part_name}
use Rattle.names.specs.Types.{extension, identifier}
use Rattle.names.proofs.Lengths.{part_name_size, extension_size, identifier_size}
use Rattle.markup.specs.declared.entries.Kind.TheVariants.{Types, Relationships}
use Rattle.model.specs.Sets.{Bytes, key_order, is_equal, same_key, insert}
use Rattle.model.specs.Fields.{type_field, source_field, relationship_type_field, target_field, default_fields, override_fields, relationship_fields}
use Rattle.model.specs.Package.{State, Default, Override, Relationship, Kind, default_kind, override_kind, relationship_kind, relationship_key}
use Rattle.model.specs.Puts.{put_in}
use Rattle.model.specs.Reading.{ADefault, AnOverride, ARelationship}
use Rattle.model.specs.Opened.{everything}
use Rattle.model.proofs.Refusals.{all_none, none_all, unmet}
use Rattle.model.proofs.Numbers.{default_numbered, override_numbered, relationship_numbered}
use Rattle.model.proofs.Sets.{length_insert}
use Rattle.model.proofs.KeyOrders.{key_second}
use Rattle.model.proofs.KindLaws.{Lawful, default_lawful, override_lawful, relationship_lawful}
use Rattle.model.proofs.Charges.{charge_put}
use Rattle.model.proofs.EntryPuts.{defaults_put, overrides_put, relationships_put}
use Rattle.contract.specs.Rows.{default_rows, override_rows, relationship_rows}
use Rattle.contract.proofs.RowKinds.{default_rows_lem, override_rows_lem, relationship_rows_lem}
use Rattle.reading.specs.Notes.{shade_default, shade_override, shade_relationship}
use Rattle.reading.proofs.NotedRows.{joined_put}
use Rattle.reading.proofs.NotedEntries.{Noting}

-- THE FIELDS that all shades have
type_accepted : type_field (ascii "a/a") ≡ 0
unfolding everything
type_accepted = refl

source_accepted : source_field (ascii "/") ≡ 0
unfolding everything
source_accepted = refl

iri_accepted : relationship_type_field (ascii "a:") ≡ 0
unfolding everything
iri_accepted = refl

target_accepted : target_field 1 (ascii "/") (ascii "a") ≡ 0
unfolding everything
target_accepted = refl

-- the bytes of a shade
default_size : (d : Default) → default_kind.fields d ≡ 0 → default_kind.charge (shade_default d) ≤ 34
unfolding default_fields
default_size d f =
    let n = extension_size d.extension (not-false (extension d.extension) (unmet (not (extension d.extension)) 7 (omega arith) (all_none _ f).0)) in
    omega (arith, n.1)

override_size : (o : Override) → override_kind.fields o ≡ 0 → override_kind.charge (shade_override o) ≤ 258
unfolding override_fields
override_size o f =
    let n = part_name_size o.name (not-false (part_name o.name) (unmet (not (part_name o.name)) 4 (omega arith) (all_none _ f).0)) in
    omega (arith, n.1)

relationship_size : (r : Relationship) → relationship_kind.fields r ≡ 0 → relationship_kind.charge (shade_relationship r) ≤ 67
unfolding relationship_fields
relationship_size r f =
    let n = identifier_size r.id (not-false (identifier r.id) (unmet (not (identifier r.id)) 8 (omega arith) (all_none _ f).1.0)) in
    omega (arith, n.1)

-- one entry more
more : {E : Type 0} (kind : Kind E) → Lawful kind → (T : State) (e : E) → length (kind.entries (put_in kind T e)) ≡ suc (length (kind.entries T))
more kind L T e = ap length (L.own T (insert kind.key e (kind.entries T))) ∙ length_insert kind.key e (kind.entries T)

-- THE READINGS of a types stream
pub noting_default : Noting default_rows ADefault shade_default (λ _. Unit {0}) Types []
unfolding default_fields
noting_default = record {
  lawful = default_rows_lem;
  puts = defaults_put;
  shades = λ d. refl;
  judged = λ d. refl;
  numbered = default_numbered;
  fielded = λ d f. none_all _ ((all_none _ f).0, (type_accepted, tt));
  roomy = λ d f m T t l. omega (arith, default_size d f, t.small, t.only, t.capacity, t.holds.good.overrides.few);
  noted = λ d f m n T t h. record {
    holds = h;
    capacity = t.capacity;
    only = t.only;
    small = omega (arith, default_size d f, t.small, charge_put default_kind default_lawful T (shade_default d), more default_kind default_lawful T (shade_default d));
  };
  joined = λ S T U room y. y.defaults;
  beyond = λ d u S T U room size y ez l. record {
    left = omega (arith, y.left, charge_put default_kind default_lawful U d);
    defaults = joined_put default_kind default_lawful shade_default (λ _. Unit {0}) (λ e f _ _. refl) S T U y.defaults d tt;
    overrides = record { holding = y.overrides.holding; counted = y.overrides.counted };
    relationships = record { holding = y.relationships.holding; counted = y.relationships.counted };
  };
}

pub noting_override : Noting override_rows AnOverride shade_override (λ _. Unit {0}) Types []
unfolding override_fields
noting_override = record {
  lawful = override_rows_lem;
  puts = overrides_put;
  shades = λ o. refl;
  judged = λ o. refl;
  numbered = override_numbered;
  fielded = λ o f. none_all _ ((all_none _ f).0, (type_accepted, tt));
  roomy = λ o f m T t l. omega (arith, override_size o f, t.small, t.only, t.capacity, t.holds.good.defaults.few);
  noted = λ o f m n T t h. record {
    holds = h;
    capacity = t.capacity;
    only = t.only;
    small = omega (arith, override_size o f, t.small, charge_put override_kind override_lawful T (shade_override o), more override_kind override_lawful T (shade_override o));
  };
  joined = λ S T U room y. y.overrides;
  beyond = λ o u S T U room size y ez l. record {
    left = omega (arith, y.left, charge_put override_kind override_lawful U o);
    defaults = record { holding = y.defaults.holding; counted = y.defaults.counted };
    overrides = joined_put override_kind override_lawful shade_override (λ _. Unit {0}) (λ e f _ _. refl) S T U y.overrides o tt;
    relationships = record { holding = y.relationships.holding; counted = y.relationships.counted };
  };
}

-- and of relationships: those of one source are told apart by their ids
module _ (source : Bytes) where
  abbrev pub Ours : Relationship → Type 0
  Ours r = r.source ≡ source

  ids_apart : (q r : Relationship) → Ours q → Ours r →
      same_key (relationship_key (ascii "/") q.id) (relationship_key (ascii "/") r.id) ≡ same_key (relationship_key q.source q.id) (relationship_key r.source r.id)
  ids_apart q r eq er =
      ap is_equal
      (key_second (fold (ascii "/")) q.id r.id
      ∙ sym (ap (λ (s : Bytes). key_order (relationship_key q.source q.id) (relationship_key s r.id)) (er ∙ sym eq) ∙ key_second (fold q.source) q.id r.id))

  pub noting_relationship : Noting relationship_rows ARelationship shade_relationship Ours Relationships source
  unfolding relationship_fields
  noting_relationship = record {
    lawful = relationship_rows_lem;
    puts = relationships_put;
    shades = λ r. refl;
    judged = λ r. refl;
    numbered = relationship_numbered;
    fielded = λ r f. none_all _ (source_accepted, ((all_none _ f).1.0, (iri_accepted, (refl, (target_accepted, tt)))));
    roomy = λ r f m T t l. omega (arith, relationship_size r f, t.small, t.only.0, t.only.1, t.capacity);
    noted = λ r f m n T t h. record {
      holds = h;
      capacity = t.capacity;
      only = t.only;
      small = omega (
        arith,
        relationship_size r f,
        t.small,
        charge_put relationship_kind relationship_lawful T (shade_relationship r),
        more relationship_kind relationship_lawful T (shade_relationship r),
      );
    };
    joined = λ S T U room y. y.relationships;
    beyond = λ r m S T U room size y ez l. record {
      left = omega (arith, y.left, charge_put relationship_kind relationship_lawful U r);
      defaults = record { holding = y.defaults.holding; counted = y.defaults.counted };
      overrides = record { holding = y.overrides.holding; counted = y.overrides.counted };
      relationships = joined_put relationship_kind relationship_lawful shade_relationship Ours ids_apart S T U y.relationships r m;
    };
  }
