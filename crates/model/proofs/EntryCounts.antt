-- What a stream says, put in entry by entry. No package takes more than 256 of its entries, so the first 257 tell what becomes of them all.
-- Assumes nothing.
use Prim.Native.Nat.{ℕ, zero, suc, ◌+◌, ◌≤◌}
use native.Mathlib.Omega.{arith}
use mathlib.Core.Path.{◌≡◌, refl, sym, ap, ◌∙◌}
use mathlib.Core.Bool.{Bool, true, false}
use mathlib.Core.List.{List, [], ◌∷◌, ◌++◌}
use lib.Dec.{eqb, leb}
use lib.ListN.{length, take, drop, take-append-drop}
use lib.Seq.{take_all, length-take-le}
use borrow.Author.Tests.{eqb-true, eqb-false, leb-true, leb-false}
use Rattle.markup.specs.Entries.{Entry, SaysDefault, SaysOverride, SaysRelationship}
use Rattle.markup.specs.FormPlaces.{place_count}
use Rattle.markup.specs.declared.entries.Kind.{Kind as StreamKind}
use Rattle.markup.specs.declared.entries.Kind.TheVariants.{Types, Relationships}
use Rattle.markup.proofs.EntryKinds.{OfKind, AllOf}
use Rattle.markup.proofs.PlacedEntries.{all_take}
use Rattle.model.specs.Sets.{Bytes}
use Rattle.model.specs.Package.{State, Default, Override, Relationship, default_kind, override_kind, relationship_kind}
use Rattle.model.specs.Reading.{Entered, ADefault, AnOverride, ARelationship, types_said, relationships_said}
use Rattle.model.specs.Reading.{entry_refusal, entry_made, entries_refusal, entries_made}
use Rattle.model.specs.Good.{Good}
use Rattle.model.proofs.Sets.{length_insert}
use Rattle.model.proofs.Refusals.{first_met, first_unmet, first_one}
use Rattle.model.proofs.Steps.{entries_good}

-- how many entries a package has of those that a stream of this kind says
abbrev pub count_in : StreamKind → State → ℕ
count_in Types S = length S.defaults + length S.overrides
count_in Relationships S = length S.relationships

few_in : (K : StreamKind) (S : State) → Good S → count_in K S ≤ 256
few_in Types S g = omega (arith, g.defaults.few, g.overrides.few)
few_in Relationships S g = g.relationships.few

-- ENTRY BY ENTRY: one that is said is one that is put in
pub record OneSaid (K : StreamKind) (say : List Entry → List Entered) (e : Entry) : Type 0 where
  pub entered : Entered
  pub is : (es : List Entry) → say (e ∷ es) ≡ entered ∷ say es
  pub counts : (S : State) → count_in K (entry_made S entered) ≡ suc (count_in K S)

pub record Saying (K : StreamKind) (say : List Entry → List Entered) : Type 0 where
  pub nothing : say [] ≡ []
  pub one : (e : Entry) → OfKind K e → OneSaid K say e

pub types_saying : Saying Types types_said
unfolding types_said
types_saying = record { nothing = refl; one = go }
  where
    go : (e : Entry) → OfKind Types e → OneSaid Types types_said e
    go (SaysDefault extension type) k =
        let d : Default = record { extension = extension; type = type } in
        record { entered = ADefault d; is = λ es. refl; counts = λ S. omega (arith, length_insert default_kind.key d S.defaults) }
    go (SaysOverride name type) k =
        let o : Override = record { name = name; type = type } in
        record { entered = AnOverride o; is = λ es. refl; counts = λ S. omega (arith, length_insert override_kind.key o S.overrides) }
    go (SaysRelationship id type mode target) k = absurd k

pub relationships_saying : (source : Bytes) → Saying Relationships (relationships_said source)
unfolding relationships_said
relationships_saying source = record { nothing = refl; one = go }
  where
    go : (e : Entry) → OfKind Relationships e → OneSaid Relationships (relationships_said source) e
    go (SaysDefault extension type) k = absurd k
    go (SaysOverride name type) k = absurd k
    go (SaysRelationship id type mode target) k =
        let r : Relationship = record { source = source; id = id; type = type; mode = mode; target = target } in
        record { entered = ARelationship r; is = λ es. refl; counts = λ S. length_insert relationship_kind.key r S.relationships }

module _ {K : StreamKind} {say : List Entry → List Entered} (Y : Saying K say) where
  pub say_length : (es : List Entry) → AllOf K es → length (say es) ≡ length es
  say_length [] h = ap length Y.nothing
  say_length (e ∷ es) h = ap length ((Y.one e h.0).is es) ∙ ap suc (say_length es h.1)

  pub say_drop : (i : ℕ) (es : List Entry) → AllOf K es → drop i (say es) ≡ say (drop i es)
  say_drop zero es h = refl
  say_drop (suc i) [] h = ap (drop (suc i)) Y.nothing ∙ sym Y.nothing
  say_drop (suc i) (e ∷ es) h = ap (drop (suc i)) ((Y.one e h.0).is es) ∙ say_drop i es h.1

  say_append : (es fs : List Entry) → AllOf K es → say (es ++ fs) ≡ say es ++ say fs
  say_append [] fs h = ap (λ (l : List Entered). l ++ say fs) (sym Y.nothing)
  say_append (e ∷ es) fs h =
      let x = Y.one e h.0 in
      x.is (es ++ fs) ∙ ap (λ (l : List Entered). x.entered ∷ l) (say_append es fs h.1) ∙ ap (λ (l : List Entered). l ++ say fs) (sym (x.is es))

  -- all of them are in the package after them
  count_made : (S : State) (es : List Entry) → AllOf K es → count_in K (entries_made S (say es)) ≡ length es + count_in K S
  unfolding entries_made
  count_made S [] h = ap (λ (l : List Entered). count_in K (entries_made S l)) Y.nothing ∙ omega arith
  count_made S (e ∷ es) h =
      let x = Y.one e h.0 in
      let next : count_in K (entries_made (entry_made S x.entered) (say es)) ≡ length es + count_in K (entry_made S x.entered) =
      count_made (entry_made S x.entered) es h.1 in
      ap (λ (l : List Entered). count_in K (entries_made S l)) (x.is es) ∙ next ∙ omega (arith, x.counts S)

-- a refusal that the front of a list meets is the list's
front_refused : (S : State) (es fs : List Entered) → (entries_refusal S es ≡ 0 → ⊥) → entries_refusal S (es ++ fs) ≡ entries_refusal S es
unfolding entries_refusal
front_refused S [] fs z = absurd (z refl)
front_refused S (e ∷ es) fs z = go (eqb (entry_refusal S e) 0) refl (λ y. front_refused (entry_made S e) es fs y)
  where
    go : (b : Bool) → eqb (entry_refusal S e) 0 ≡ b →
        ((entries_refusal (entry_made S e) es ≡ 0 → ⊥) → entries_refusal (entry_made S e) (es ++ fs) ≡ entries_refusal (entry_made S e) es) →
        entries_refusal S (e ∷ (es ++ fs)) ≡ entries_refusal S (e ∷ es)
    go false f more =
        let r = eqb-false (entry_refusal S e) 0 f in
        first_met (entry_refusal S e) _ r ∙ sym (first_met (entry_refusal S e) _ r)
    go true f more =
        let r = eqb-true (entry_refusal S e) 0 f in
        let rest = first_unmet (entry_refusal S e) (entries_refusal (entry_made S e) es ∷ []) r ∙ first_one _ in
        first_unmet (entry_refusal S e) _ r ∙ first_one _ ∙ more (λ y. z (rest ∙ y)) ∙ sym rest

-- THE FIRST 257, of which a good package cannot take all
module _ {K : StreamKind} {say : List Entry → List Entered} (Y : Saying K say) (S : State) (g : Good S) (es : List Entry) (h : AllOf K es) where
  abbrev firsts : List Entry
  firsts = take place_count es

  pub first_all : entries_refusal S (say firsts) ≡ 0 → firsts ≡ es
  first_all z = go (leb (length es) 257) refl
    where
      go : (b : Bool) → leb (length es) 257 ≡ b → take place_count es ≡ es
      go true l = take_all place_count es (leb-true (length es) 257 l)
      go false l =
          let many = leb-false (length es) 257 l in
          let long : length (take place_count es) ≡ place_count = length-take-le place_count es (omega arith) in
          let made = count_made Y S (take place_count es) (all_take K place_count es h) in
          let few = few_in K (entries_made S (say (take place_count es))) (entries_good S (say (take place_count es)) g z) in
          absurd (omega (arith, long, made, few))

  pub first_refusal_lem : entries_refusal S (say firsts) ≡ entries_refusal S (say es)
  first_refusal_lem = go (eqb (entries_refusal S (say firsts)) 0) refl
    where
      go : (b : Bool) → eqb (entries_refusal S (say firsts)) 0 ≡ b → entries_refusal S (say firsts) ≡ entries_refusal S (say es)
      go true e = ap (λ (l : List Entry). entries_refusal S (say l)) (first_all (eqb-true (entries_refusal S (say firsts)) 0 e))
      go false e =
          sym (front_refused S (say firsts) (say (drop place_count es)) (eqb-false (entries_refusal S (say firsts)) 0 e))
          ∙ ap (entries_refusal S) (sym (say_append Y firsts (drop place_count es) (all_take K place_count es h)))
          ∙ ap (λ (l : List Entry). entries_refusal S (say l)) (take-append-drop place_count es)
