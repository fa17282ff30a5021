-- A stream of relationships that was written is read back as the same ones, but for the source's spelling (request 5 of document 02).
-- Assumes nothing.
use Prim.Native.Nat.{ℕ}
use mathlib.Core.Path.{◌≡◌, refl, sym, ap, ◌∙◌, subst}
use mathlib.Core.Bool.{Bool, true, false, not, ◌&&◌, cond, true≢false}
use mathlib.Core.List.{List, [], ◌∷◌, ◌++◌, map, append-nil}
use native.Mathlib.Omega.{arith}
use lib.Dec.{eqb}
use borrow.Author.Tests.{eqb-true, ne_eqb}
use Rattle.base.proofs.Bools.{and_left, not_passing}
use Rattle.chars.specs.Lists.{is_empty, same}
use Rattle.chars.specs.Folding.{fold, equivalent}
use Rattle.chars.proofs.Equivalence.{equivalent_fold, equivalent_refl, equivalent_sym}
use Rattle.names.specs.Types.{identifier}
use Rattle.names.specs.Iris.{colon_first, iri, package_iri}
use Rattle.iri.specs.Components.{scheme_of, authority_of, query_of, fragment_of}
use Rattle.targets.specs.Targets.{internal, internal_refusal, target_refusal}
use Rattle.targets.proofs.FoldedSources.{equivalent_targets}
use Rattle.markup.specs.Streams.{Said, Says, entries_of, form_of, said}
use Rattle.markup.specs.declared.entries.Kind.TheVariants.{Relationships}
use Rattle.model.specs.Sets.{Bytes, before, same_key, filter, Each, AllPairs, Sorted}
use Rattle.model.specs.Fields.{source_field, relationship_fields}
use Rattle.model.specs.Package.{State, Relationship, relationship_kind, key_of_relationship}
use Rattle.model.specs.Texts.{relationship_line, of_source, relationships_text}
use Rattle.model.specs.Puts.{with_relationships}
use Rattle.model.specs.Reading.{Entered, ARelationship, relationships_said, relationships_in, entries_refusal, entries_made}
use Rattle.model.specs.Reading.{read_relationships_refusal, read_relationships_made}
use Rattle.output.specs.Answers.{Answer}
use Rattle.model.specs.Calls.{ReadRelationships, done, change}
use Rattle.model.specs.Good.{Good}
use Rattle.model.specs.ReadingDemand.{respelled, written_of, TakesRelationships, GotBack, RelationshipsReadBack}
use Rattle.model.proofs.Lists.{each_map, each_all, each_filter, pairs_filter, filter_all}
use Rattle.model.proofs.Keys.{same_relationship_key}
use Rattle.model.proofs.Sets.{Absent}
use Rattle.model.proofs.Refusals.{none_all, changed_done}
use Rattle.model.proofs.Targets.{Fielded, fielded, mode_le, internal_target}
use Rattle.model.proofs.KindLaws.{relationship_lawful}
use Rattle.model.proofs.EntryLists.{all_in, Fresh, sorted_apart, all_alone, filter_all_in, filter_all_out}
use Rattle.model.proofs.EntryPuts.{AllIn, all_in_lem, relationships_put}
use Rattle.model.proofs.WrittenValues.{id_writable, iri_writable}
use Rattle.model.proofs.WrittenLines.{says_relationship, Writing, relationship_read}
use Rattle.model.proofs.WrittenTexts.{Read, relationships_said_lem}
use Rattle.model.proofs.TypesReadBack.{accepted}

-- FIELDS. A target is an IRI, internal or external
internal_iri : (t : Bytes) → internal t ≡ true → iri t ≡ true
unfolding internal
internal_iri t e =
    let a : Bool = iri t in
    let b : Bool = is_empty (scheme_of t) in
    let c : Bool = is_empty (authority_of t) in
    let d : Bool = is_empty (query_of t) in
    and_left a b (and_left (a && b) c (and_left ((a && b) && c) d (and_left (((a && b) && c) && d) (is_empty (fragment_of t)) e)))

target_iri : (r : Relationship) → Fielded r → iri r.target ≡ true
unfolding target_refusal
target_iri r f = go (eqb r.mode 1) refl
  where
    external : (t : Bool) → ◌≡◌ {A = ℕ} (cond t 0 9) 0 → t ≡ true
    external true z = refl
    external false z = absurd (omega arith)

    go : (t : Bool) → eqb r.mode 1 ≡ t → iri r.target ≡ true
    go true e =
        let m : r.mode ≡ 1 = eqb-true r.mode 1 e in
        let z : eqb r.mode 0 ≡ false = ne_eqb r.mode 0 (λ y. omega arith) in
        external (iri r.target)
        (sym (ap (λ (t : Bool). cond t (internal_refusal r.source r.target) (cond (iri r.target) 0 9)) z) ∙ f.target)
    go false e = internal_iri r.target (internal_target r f e).0

writing : (r : Relationship) → relationship_kind.fields r ≡ 0 → Writing r
unfolding package_iri
writing r h =
    let f = fielded r h in
    let type : package_iri r.type ≡ true = accepted (package_iri r.type) 8 (omega arith) f.type in
    record {
      id = id_writable r.id (accepted (identifier r.id) 8 (omega arith) f.id);
      type = iri_writable r.type (and_left (iri r.type) (colon_first r.type) type);
      target = iri_writable r.target (target_iri r f);
      mode = mode_le r.mode f.mode;
    }

-- as those of an equivalent source they are accepted too
respelled_fields : (again : Bytes) (r : Relationship) → source_field again ≡ 0 → fold r.source ≡ fold again → relationship_kind.fields r ≡ 0 →
    relationship_kind.fields (respelled again r) ≡ 0
unfolding relationship_fields
respelled_fields again r s e h =
    let f = fielded r h in
    none_all _ (s, (f.id, (f.type, (f.mode, (sym (equivalent_targets r.source again e r.mode r.target) ∙ f.target, tt)))))

-- LISTS of other entries made of these
each_made : {E F : Type 0} (f : E → F) (P : F → Type 0) (xs : List E) → Each (λ (x : E). P (f x)) xs → Each P (map f xs)
each_made f P [] h = tt
each_made f P (x ∷ xs) h = (h.0, each_made f P xs h.1)

pairs_made : {E F : Type 0} (f : E → F) (R : F → F → Type 0) (xs : List E) → AllPairs (λ (x y : E). R (f x) (f y)) xs → AllPairs R (map f xs)
pairs_made f R [] h = tt
pairs_made f R (x ∷ xs) h = (each_made f (R (f x)) xs h.0, pairs_made f R xs h.1)

none_pass : {E : Type 0} (p : E → Bool) (xs : List E) → filter p xs ≡ [] → Each (λ (x : E). p x ≡ false) xs
unfolding filter
none_pass p [] h = tt
none_pass {E} p (x ∷ xs) h = go (p x) refl h (λ k. none_pass p xs k)
  where
    go : (b : Bool) → p x ≡ b → cond b (x ∷ filter p xs) (filter p xs) ≡ [] → (filter p xs ≡ [] → Each (λ (y : E). p y ≡ false) xs) →
        (p x ≡ false) × Each (λ (y : E). p y ≡ false) xs
    go true e k ih = let z : ◌≡◌ {A = ℕ} 0 1 = cc in absurd (omega arith)
    go false e k ih = (e, ih k)

relationships_entered : (again : Bytes) (rs : List Relationship) →
    relationships_said again (map says_relationship rs) ≡ map ARelationship (map (respelled again) rs)
unfolding relationships_said
relationships_entered again [] = refl
relationships_entered again (r ∷ rs) = ap (λ (l : List Entered). ARelationship (respelled again r) ∷ l) (relationships_entered again rs)

-- THE RELATIONSHIPS OF A SOURCE, written from S and read into T as those of an equivalent one
module _ (source again : Bytes) (S T : State) (g : Good S) (w : Good T) (s : source_field again ≡ 0) (e : equivalent source again ≡ true) where
  rs : List Relationship
  rs = of_source source S.relationships

  es : List Relationship
  es = written_of source again S

  -- each of them is of the source, and its fields are accepted
  Own : Relationship → Type 0
  Own r = (fold r.source ≡ fold again) × (relationship_kind.fields r ≡ 0)

  own_each : Each Own rs
  unfolding rs Own
  own_each =
      each_filter (λ (r : Relationship). relationship_kind.fields r ≡ 0) Own (λ (r : Relationship). equivalent r.source source) S.relationships
      (λ r p h. (equivalent_fold r.source source p ∙ equivalent_fold source again e, h)) g.relationships.fielded

  written_relationships : said Relationships (relationships_text source S) ≡ Says (map says_relationship rs) []
  unfolding rs Own
  written_relationships =
      relationships_said_lem source S
      (each_map Own (Read Relationships relationship_line says_relationship) rs (λ r o. relationship_read r (writing r o.1)) own_each)

  -- a key goes by the folded source: it is the same in the other spelling
  es_sorted : Sorted key_of_relationship es
  unfolding es rs
  es_sorted =
      pairs_made (respelled again) (λ (q r : Relationship). before (key_of_relationship q) (key_of_relationship r) ≡ true) rs
      (pairs_filter (λ (q r : Relationship). before (key_of_relationship q) (key_of_relationship r) ≡ true)
      (λ (q r : Relationship). before (key_of_relationship (respelled again q)) (key_of_relationship (respelled again r)) ≡ true)
      (λ (r : Relationship). equivalent r.source source) S.relationships
      (λ q r p o l.
      let a : fold q.source ≡ fold again = equivalent_fold q.source source p ∙ equivalent_fold source again e in
      let b : fold r.source ≡ fold again = equivalent_fold r.source source o ∙ equivalent_fold source again e in
      ap (λ (x : Bytes). before (x, q.id) (fold again, r.id)) (sym a) ∙ ap (λ (x : Bytes). before (fold q.source, q.id) (x, r.id)) (sym b) ∙ l)
      g.relationships.sorted)

  es_fielded : Each (λ (r : Relationship). relationship_kind.fields r ≡ 0) es
  unfolding es rs Own
  es_fielded =
      each_made (respelled again) (λ (r : Relationship). relationship_kind.fields r ≡ 0) rs
      (each_map Own (λ (r : Relationship). relationship_kind.fields (respelled again r) ≡ 0) rs (λ r o. respelled_fields again r s o.0 o.1) own_each)

  es_own : Each (λ (r : Relationship). equivalent r.source again ≡ true) es
  unfolding es rs
  es_own =
      each_made (respelled again) (λ (r : Relationship). equivalent r.source again ≡ true) rs
      (each_all (λ (r : Relationship). equivalent again again ≡ true) (λ r. equivalent_refl again) rs)

  module _ (k : TakesRelationships source again S T) where
    others : Each (λ (r : Relationship). equivalent r.source again ≡ false) T.relationships
    others = none_pass (λ (r : Relationship). equivalent r.source again) T.relationships k.no_relationships

    es_fresh : Fresh key_of_relationship es T.relationships
    unfolding es rs
    es_fresh = record {
      absent = each_made (respelled again) (λ (q : Relationship). Absent key_of_relationship (key_of_relationship q) T.relationships) rs
          (each_all (λ (q : Relationship). Absent key_of_relationship (key_of_relationship (respelled again q)) T.relationships)
          (λ q.
          each_map (λ (r : Relationship). equivalent r.source again ≡ false)
          (λ (r : Relationship). same_key (key_of_relationship (respelled again q)) (key_of_relationship r) ≡ false) T.relationships
          (λ r n. apart q r n) others) rs);
      apart = sorted_apart key_of_relationship es es_sorted;
    }
      where
        apart : (q r : Relationship) → equivalent r.source again ≡ false → same_key (key_of_relationship (respelled again q)) (key_of_relationship r) ≡ false
        apart q r n =
            let m : equivalent again r.source ≡ false =
            not_passing (equivalent again r.source) (λ y. true≢false (sym (equivalent_sym again r.source y) ∙ n)) in
            same_relationship_key again q.id r.source r.id ∙ ap (λ (b : Bool). b && same q.id r.id) m

    taken : AllIn relationship_kind ARelationship T es []
    unfolding es
    taken = all_in_lem relationship_kind relationship_lawful ARelationship relationships_put [] es T es_fielded es_fresh k.few k.capacity

    entries_are : relationships_in again (relationships_text source S) ≡ map ARelationship es ++ []
    unfolding es rs
    entries_are =
        ap (λ (d : Said). relationships_said again (entries_of d)) written_relationships ∙ relationships_entered again rs
        ∙ sym (append-nil (map ARelationship es))

    refusal : read_relationships_refusal T again (relationships_text source S) ≡ 0
    unfolding read_relationships_refusal entries_refusal
    refusal = none_all _ (s, (ap form_of written_relationships, (ap (entries_refusal T) entries_are ∙ taken.refusal, tt)))

    after : read_relationships_made T again (relationships_text source S) ≡ with_relationships T (all_in key_of_relationship es T.relationships)
    unfolding entries_made
    after = ap (entries_made T) entries_are ∙ taken.after

    got_back : GotBack source again S T (with_relationships T (all_in key_of_relationship es T.relationships))
    unfolding es
    got_back = record {
      capacity = refl;
      items = refl;
      defaults = refl;
      overrides = refl;
      own = filter_all_in key_of_relationship (λ (r : Relationship). equivalent r.source again) es T.relationships es_own es_fresh
          w.relationships.sorted
          ∙ ap (all_in key_of_relationship es) k.no_relationships ∙ all_alone key_of_relationship es es_sorted;
      others = filter_all_out key_of_relationship (λ (r : Relationship). not (equivalent r.source again)) es T.relationships
          (each_map (λ (r : Relationship). equivalent r.source again ≡ true) (λ (r : Relationship). not (equivalent r.source again) ≡ false) es
          (λ r h. ap not h) es_own)
          ∙ filter_all (λ (r : Relationship). not (equivalent r.source again)) T.relationships
          (each_map (λ (r : Relationship). equivalent r.source again ≡ false) (λ (r : Relationship). not (equivalent r.source again) ≡ true)
          T.relationships (λ r h. ap not h) others);
    }

    read : change T (ReadRelationships again (relationships_text source S)) ≡ (done, with_relationships T (all_in key_of_relationship es T.relationships))
    unfolding change
    read = changed_done _ T _ refusal ∙ ap (λ (U : State). (done, U)) after

pub relationships_read_back : RelationshipsReadBack
relationships_read_back room source again S T g w s e k =
    let r = read source again S T g w s e k in (
      ap (λ (a : Answer × State). a.0) r,
      subst (λ (a : Answer × State). GotBack source again S T a.1) (sym r) (got_back source again S T g w s e k),
    )
