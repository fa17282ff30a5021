-- A types stream that was written is read back as the same Defaults and Overrides (request 5 of document 02).
-- Assumes nothing.
use Prim.Native.Nat.{ℕ, ◌+◌, ◌≤◌, ◌<◌}
use mathlib.Core.Path.{◌≡◌, refl, sym, ap, ◌∙◌, subst}
use mathlib.Core.Bool.{Bool, true, not}
use mathlib.Core.List.{List, [], ◌∷◌, ◌++◌, map, append-nil}
use native.Mathlib.Omega.{arith}
use lib.ListN.{length}
use borrow.Author.Tests.{not-false}
use Rattle.names.specs.Names.{part_name}
use Rattle.names.specs.Types.{media_type, extension}
use Rattle.markup.specs.Streams.{Said, Says, entries_of, form_of, said}
use Rattle.markup.specs.declared.entries.Kind.TheVariants.{Types}
use Rattle.model.specs.Sets.{sum_of}
use Rattle.model.specs.Fields.{when, default_fields, override_fields}
use Rattle.model.specs.Package.{State, Default, Override, Kind, default_kind, override_kind, charge}
use Rattle.model.specs.Texts.{default_line, override_line, types_text}
use Rattle.model.specs.Puts.{with_defaults, with_overrides}
use Rattle.model.specs.Reading.{Entered, ADefault, AnOverride, types_said, types_in, entries_refusal, entries_made, read_types_refusal, read_types_made}
use Rattle.model.specs.Calls.{done, change}
use Rattle.model.specs.Good.{Good, GoodSet}
use Rattle.model.specs.ReadingDemand.{TakesTypes, TypesReadBack}
use Rattle.model.proofs.Lists.{each_map, each_all}
use Rattle.model.proofs.Refusals.{all_none, none_all, unmet, changed_done}
use Rattle.model.proofs.KindLaws.{Lawful, default_lawful, override_lawful}
use Rattle.model.proofs.EntryLists.{all_in, Fresh, sorted_apart, all_alone}
use Rattle.model.proofs.EntryPuts.{AllIn, all_in_lem, defaults_put, overrides_put, PutsAs}
use Rattle.model.proofs.WrittenValues.{type_writable, extension_writable, name_writable}
use Rattle.model.proofs.WrittenLines.{says_default, says_override, default_read, override_read}
use Rattle.model.proofs.WrittenTexts.{Read, types_said_lem}

-- WHAT THE TEXT SAYS. A field that is accepted is as it should be
pub accepted : (b : Bool) (n : ℕ) → 0 < n → when (not b) n ≡ 0 → b ≡ true
accepted b n l e = not-false b (unmet (not b) n l e)

default_reads : (d : Default) → default_kind.fields d ≡ 0 → Read Types default_line says_default d
unfolding default_fields
default_reads d h =
    let z = all_none _ h in
    default_read d (extension_writable d.extension (accepted (extension d.extension) 7 (omega arith) z.0))
    (type_writable d.type (accepted (media_type d.type) 7 (omega arith) z.1.0))

override_reads : (o : Override) → override_kind.fields o ≡ 0 → Read Types override_line says_override o
unfolding override_fields
override_reads o h =
    let z = all_none _ h in
    override_read o (name_writable o.name (accepted (part_name o.name) 4 (omega arith) z.0))
    (type_writable o.type (accepted (media_type o.type) 7 (omega arith) z.1.0))

pub written_types : (S : State) → Good S → said Types (types_text S) ≡ Says (map says_default S.defaults ++ map says_override S.overrides) []
written_types S g =
    types_said_lem S
    (each_map (λ (d : Default). default_kind.fields d ≡ 0) (Read Types default_line says_default) S.defaults default_reads g.defaults.fielded)
    (each_map (λ (o : Override). override_kind.fields o ≡ 0) (Read Types override_line says_override) S.overrides override_reads g.overrides.fielded)

types_entered : (ds : List Default) (os : List Override) → types_said (map says_default ds ++ map says_override os) ≡ map ADefault ds ++ map AnOverride os
unfolding types_said
types_entered [] [] = refl
types_entered [] (o ∷ os) = ap (λ (l : List Entered). AnOverride o ∷ l) (types_entered [] os)
types_entered (d ∷ ds) os = ap (λ (l : List Entered). ADefault d ∷ l) (types_entered ds os)

-- A SET OF A KIND, put into a package that has no such entries
module _ {E : Type 0} (kind : Kind E) (L : Lawful kind) (made : E → Entered) (P : PutsAs kind made)
    (es : List E) (g : GoodSet kind es) (T : State) (none : kind.entries T ≡ []) where
  pub set_charge : charge (kind.renewed T es) ≡ charge T + sum_of kind.charge es
  unfolding sum_of
  set_charge = omega (arith, L.charged T es, ap (sum_of kind.charge) none)

  module _ (c : charge T + sum_of kind.charge es ≤ T.capacity) (rest : List Entered) where
    in_set : AllIn kind made T es rest
    in_set =
        all_in_lem kind L made P rest es T g.fielded
        (subst (λ (l : List E). Fresh kind.key es l) (sym none)
        (record { absent = each_all (λ (e : E). Unit {0}) (λ e. tt) es; apart = sorted_apart kind.key es g.sorted }))
        (omega (arith, ap (λ (l : List E). length l) none, g.few)) c

    renewed : kind.renewed T (all_in kind.key es (kind.entries T)) ≡ kind.renewed T es
    renewed = ap (λ (l : List E). kind.renewed T (all_in kind.key es l)) none ∙ ap (kind.renewed T) (all_alone kind.key es g.sorted)

    pub set_refusal : entries_refusal T (map made es ++ rest) ≡ entries_refusal (kind.renewed T es) rest
    set_refusal = in_set.refusal ∙ ap (λ (U : State). entries_refusal U rest) renewed

    pub set_made : entries_made T (map made es ++ rest) ≡ entries_made (kind.renewed T es) rest
    set_made = in_set.after ∙ ap (λ (U : State). entries_made U rest) renewed

-- READ BACK
module _ (S T : State) (g : Good S) (t : TakesTypes S T) where
  entries_are : types_in (types_text S) ≡ map ADefault S.defaults ++ (map AnOverride S.overrides ++ [])
  entries_are =
      ap (λ (d : Said). types_said (entries_of d)) (written_types S g) ∙ types_entered S.defaults S.overrides
      ∙ ap (λ (l : List Entered). map ADefault S.defaults ++ l) (sym (append-nil (map AnOverride S.overrides)))

  within : charge (with_defaults T S.defaults) + sum_of override_kind.charge S.overrides ≤ T.capacity
  within = omega (arith, t.capacity, set_charge default_kind default_lawful ADefault defaults_put S.defaults g.defaults T t.no_defaults)

  fits : charge T + sum_of default_kind.charge S.defaults ≤ T.capacity
  fits = omega (arith, t.capacity)

  D : State
  D = with_defaults T S.defaults

  refusal : read_types_refusal T (types_text S) ≡ 0
  unfolding read_types_refusal entries_refusal D
  refusal =
      let os : List Entered = map AnOverride S.overrides ++ [] in
      none_all _ (
        ap form_of (written_types S g),
        (
          ap (entries_refusal T) entries_are
              ∙ set_refusal default_kind default_lawful ADefault defaults_put S.defaults g.defaults T t.no_defaults fits os
              ∙ set_refusal override_kind override_lawful AnOverride overrides_put S.overrides g.overrides D t.no_overrides within [],
          tt,
        ),
      )

  after : read_types_made T (types_text S) ≡ with_overrides (with_defaults T S.defaults) S.overrides
  unfolding entries_made D
  after =
      let os : List Entered = map AnOverride S.overrides ++ [] in
      ap (entries_made T) entries_are
      ∙ set_made default_kind default_lawful ADefault defaults_put S.defaults g.defaults T t.no_defaults fits os
      ∙ set_made override_kind override_lawful AnOverride overrides_put S.overrides g.overrides D t.no_overrides within []

pub types_read_back : TypesReadBack
unfolding change
types_read_back room S T g t = changed_done _ T _ (refusal S T g t) ∙ ap (λ (U : State). (done, U)) (after S T g t)
