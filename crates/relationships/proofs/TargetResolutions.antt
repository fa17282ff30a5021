-- Resolving a relationship: each way out of the call and of its inner functions.
-- Assumes nothing.
use Prim.Native.Nat.{ℕ, ◌+◌, ◌≤◌, ◌<◌}
use mathlib.Core.Path.{◌≡◌, refl, ap, sym, ◌∙◌, subst}
use mathlib.Core.Bool.{Bool, true, false, not}
use mathlib.Core.List.{List, [], ◌∷◌}
use mathlib.Core.Option.{Option, none, some, none-ne-some, some-injective}
use native.Mathlib.Omega.{arith}
use lib.Dec.{eqb}
use lib.ListN.{length, take}
use lib.Seq.{length-take-le}
use borrow.Author.Tests.{not-false, eq-eqb, ne_eqb}
use Rattle.chars.specs.FoldedNames.{folded_size}
use Rattle.chars.specs.Bytes.{number_sign}
use Rattle.chars.specs.Lists.{index_of}
use Rattle.chars.proofs.Searches.{index_le}
use Rattle.names.specs.Iris.{package_iri}
use Rattle.std.specs.Prelude.{Ok, Err}
use Rattle.output.specs.Answers.{Answer, answer, refusing, Text, filled}
use Rattle.output.specs.Refusals.{number}
use Rattle.output.specs.declared.refusals.Refusal.{Refusal}
use Rattle.output.specs.declared.refusals.Refusal.TheVariants.{NotHeld}
use Rattle.output.specs.declared.refusals.Unwritten.TheVariants as unwritten
use Rattle.iri.specs.References.{resolve}
use Rattle.targets.specs.Targets.{resolve_path}
use Rattle.pack.specs.Pack.{unfragmented, pack_iri}
use Rattle.output.specs.Sends.{Fitted}
use Rattle.iri.specs.Scratch.{Reached}
use Rattle.base.proofs.Lists.{length_take_few}
use Rattle.names.proofs.Lengths.{package_few}
use Rattle.output.proofs.Answering.{number_some, fitted_short, fitted_bytes, answer_kept}
use Rattle.model.specs.Sets.{Bytes, lookup}
use Rattle.model.specs.Fields.{when, first, source_field, id_field, package_field}
use Rattle.model.specs.Package.{relationship_kind, State, Relationship, relationship_key, key_of_relationship, group, is_part}
use Rattle.model.specs.Calls.{Prints, ResolveRelationship, Numbered, flag, resolved, printed}
use Rattle.model.proofs.Numbers.{numbered, zero_numbered, resolve_fields_numbered}
use Rattle.model.proofs.Refusals.{first_one, first_front, first_past, all_none, unmet}
use Rattle.model.proofs.Lookups.{lookup_each}
use Rattle.model.proofs.Targets.{fielded, target_size}
use Rattle.store.specs.Layout.{count_of}
use Rattle.store.specs.Rows.{Row, row_at, tag_at, rows_of, field_of}
use Rattle.store.specs.Packages.{Shape, Sound}
use Rattle.contract.specs.Rows.{second, key_in, row_key, relationship_row, relationship_rows}
use Rattle.contract.specs.Holds.{Holds}
use Rattle.contract.specs.Entries.{Sought}
use Rattle.contract.specs.Ran.{Ran}
use Rattle.contract.specs.Opening.{Open}
use Rattle.contract.proofs.Rans.{wrote}
use Rattle.contract.proofs.FieldSizes.{source_size}
use Rattle.contract.proofs.RowOrders.{holds_ordered}
use Rattle.contract.proofs.RowEntries.{row_here, row_none}
use Rattle.contract.proofs.SetRows.{row_for}
use Rattle.contract.proofs.RowKinds.{relationship_rows_lem}
use Rattle.contract.proofs.SetStates.{found_row}
use Rattle.parts.specs.Runs.{PartOf}
use Rattle.parts.proofs.TextAnswers.{text_numbered}
use Rattle.relationships.specs.Resolutions.{of_resolution, LedTo, RowResolved}
use Rattle.relationships.specs.declared.resolving.Resolution.TheVariants as resolution

-- WHAT IS ASKED FOR
module _ (s i b : Bytes) where
  pub asked_key : (r : Refusal) → number r ≡ first (source_field s ∷ id_field i ∷ []) → number r ≡ first (source_field s ∷ id_field i ∷ package_field b ∷ [])
  asked_key r e = e ∙ sym (first_front (source_field s ∷ id_field i ∷ []) (package_field b ∷ []) (λ z. number_some r (e ∙ z)))

  module _ (e : 0 ≡ first (source_field s ∷ id_field i ∷ [])) (y : Bool) (ey : y ≡ package_iri b) where
    base_is : (t : Bool) → y ≡ t → first (source_field s ∷ id_field i ∷ package_field b ∷ []) ≡ when (not t) 9
    base_is t f =
        first_past (source_field s ∷ id_field i ∷ []) (package_field b ∷ []) (sym e)
        ∙ first_one (package_field b) ∙ ap (λ (t : Bool). when (not t) 9) (sym ey ∙ f)

    pub asked_fine : y ≡ true → 0 ≡ first (source_field s ∷ id_field i ∷ package_field b ∷ [])
    asked_fine f = sym (base_is true f)

    pub asked_no_package : y ≡ false → 9 ≡ first (source_field s ∷ id_field i ∷ package_field b ∷ [])
    asked_no_package f = sym (base_is false f)

-- AN EXTERNAL TARGET; k is where the package IRI's fragment begins
module _ (target base : Bytes) (lt : length target ≤ 255) (lb : length base ≤ 255) (k : ℕ) (ek : k ≡ 0 + index_of number_sign base) where
  k_le : k ≤ length base
  k_le = omega (arith, index_le number_sign base)

  pub bare_length : k ≡ length (take k base)
  bare_length = sym (length-take-le k base k_le)

  pub bare_few : (length (take k base) ≤ 255) × (length target ≤ 255)
  bare_few = (omega (arith, bare_length, k_le), lt)

  module _ (out out' : List ℕ) (n : ℕ) (f : Fitted out (resolve (take k base) target) n out') (l : length out' ≡ length out) where
    bare_is : take k base ≡ unfragmented base
    unfolding unfragmented
    bare_is = ap (λ (i : ℕ). take i base) (let e : k ≡ index_of number_sign base = omega arith in e)

    f' : Fitted out (resolve (unfragmented base) target) n out'
    f' = subst (λ (b : Bytes). Fitted out (resolve b target) n out') bare_is f

    pub external_short : length out' < n → of_resolution (Err (unwritten.TooShort n)) out' ≡ filled 3 out (Text (resolve (unfragmented base) target) (1 ∷ 0 ∷ []))
    external_short s = let t = (resolve (unfragmented base) target) in fitted_short 3 (Text t (1 ∷ 0 ∷ [])) t (1 ∷ 0 ∷ []) out out' n refl f' l s

    pub external_whole : n ≤ length out' → of_resolution (Ok (resolution.External n)) out' ≡ filled 3 out (Text (resolve (unfragmented base) target) (1 ∷ 0 ∷ []))
    external_whole s = let t = (resolve (unfragmented base) target) in fitted_bytes 3 (Text t (1 ∷ 0 ∷ [])) t (1 ∷ 0 ∷ []) out out' n refl f' l s

-- AN INTERNAL TARGET; the first k bytes of the scratch are its path
module _ (source target : Bytes) (ls : length source ≤ 255) (lt : length target ≤ 255) (k : ℕ) (path : List ℕ) (r : Reached true source target k path) where
  pub path_end : k ≤ 511
  path_end = omega (arith, r.few)

  pub path_few : length (take k path) ≤ 511
  path_few = omega (arith, path_end, length_take_few k path)

  path_is : take k path ≡ resolve_path source target
  unfolding resolve_path
  path_is = r.text

  module _ (b base out out' : List ℕ) (n : ℕ) (f : Fitted out (pack_iri base (take k path)) n out') (l : length out' ≡ length out) where
    abbrev T : Bytes
    T = pack_iri base (resolve_path source target)

    abbrev values : State → List ℕ
    values S = 0 ∷ flag (is_part (group (resolve_path source target) S.items)) ∷ []

    g : Fitted out T n out'
    g = subst (λ (p : Bytes). Fitted out (pack_iri base p) n out') path_is f

    pub internal_short : length out' < n → LedTo b source target base out (of_resolution (Err (unwritten.TooShort n)) out')
    internal_short s = record {
      kept = λ _. g.short (omega arith);
      numbered = numbered 3 (omega arith) (omega arith);
      is = λ S h. fitted_short 3 (Text T (values S)) T (values S) out out' n refl g l s;
    }

    pub internal_whole : n ≤ length out' → (y : Bool) → PartOf b (take k path) y → LedTo b source target base out (of_resolution (Ok (resolution.Internal n y)) out')
    internal_whole s y w = record {
      kept = λ z. absurd (z refl);
      numbered = zero_numbered;
      is = λ S h.
          ap (λ (x : Bool). answer 0 (n ∷ 0 ∷ flag x ∷ []) out') (w.is S h ∙ ap (λ (p : Bytes). is_part (group p S.items)) path_is)
          ∙ fitted_bytes 3 (Text T (values S)) T (values S) out out' n refl g l s;
    }

-- A ROW; t is its target
module _ (b : List ℕ) (i : ℕ) (li : i < count_of b) (base out t : Bytes) (et : Sound b → i < count_of b → t ≡ field_of (row_at b i) 3) where
  target_is : (S : State) → Holds b S → (r : Relationship) → row_at b i ≡ relationship_row r → t ≡ r.target
  unfolding relationship_row field_of
  target_is S h r e = et h.lies.sound li ∙ ap (λ (x : Row). field_of x 3) e

  pub row_long_target : 255 < length t → RowResolved b i base out (refusing 3 NotHeld out)
  row_long_target l = record { kept = λ _. refl; numbered = numbered 13 (omega arith) (omega arith); is = λ S h r e f. absurd (omega (arith, target_size r (fielded r f), ap length (target_is S h r e))) }

  -- g is its tag
  module _ (g : ℕ) (eg : Shape b → i < count_of b → g ≡ tag_at b i) where
    tag_is : (S : State) → Holds b S → (r : Relationship) → row_at b i ≡ relationship_row r → g ≡ 32770 + r.mode
    unfolding relationship_row
    tag_is S h r e = eg h.lies.sound.shape li ∙ ap (λ (x : Row). x.tag) e

    pub row_external : g ≡ 32771 → (a : Answer) → a ≡ filled 3 out (Text (resolve (unfragmented base) t) (1 ∷ 0 ∷ [])) → RowResolved b i base out a
    unfolding resolved
    row_external z a ea = record {
      kept = answer_kept 3 out (Text (resolve (unfragmented base) t) (1 ∷ 0 ∷ [])) a ea;
      numbered = text_numbered 3 out (resolve (unfragmented base) t) (1 ∷ 0 ∷ []) a ea;
      is = λ S h r e f.
          let m : eqb r.mode 1 ≡ true = eq-eqb r.mode 1 (omega (arith, tag_is S h r e)) in
          ea ∙ rw (m, ← target_is S h r e);
    }

    -- s is its source
    module _ (z : g ≡ 32771 → ⊥) (s : Bytes) (es : Sound b → i < count_of b → s ≡ field_of (row_at b i) 0) where
      source_is : (S : State) → Holds b S → (r : Relationship) → row_at b i ≡ relationship_row r → s ≡ r.source
      unfolding relationship_row field_of
      source_is S h r e = es h.lies.sound li ∙ ap (λ (x : Row). field_of x 0) e

      pub row_long_source : 255 < length s → RowResolved b i base out (refusing 3 NotHeld out)
      row_long_source l = record {
        kept = λ _. refl;
        numbered = numbered 13 (omega arith) (omega arith);
        is = λ S h r e f. absurd (omega (arith, (source_size r.source (fielded r f).source).1, ap length (source_is S h r e)));
      }

      pub row_internal : (a : Answer) → LedTo b s t base out a → RowResolved b i base out a
      unfolding resolved
      row_internal a w = record {
        kept = w.kept;
        numbered = w.numbered;
        is = λ S h r e f.
            let m : eqb r.mode 1 ≡ false = ne_eqb r.mode 1 (λ y. z (omega (arith, tag_is S h r e))) in
            w.is S h ∙ rw (m, ← target_is S h r e, ← source_is S h r e);
      }

-- THE CALL
module _ (p : List ℕ) (o : Open p) (s i base out : Bytes) where
  pub resolve_refused : (r : Refusal) → number r ≡ first (source_field s ∷ id_field i ∷ package_field base ∷ [])
      → Ran (Prints (ResolveRelationship s i base) out) p (refusing 3 r out) p
  unfolding printed filled
  resolve_refused r e =
      wrote p o (ResolveRelationship s i base) out (refusing 3 r out) (subst Numbered (sym e) (resolve_fields_numbered s i base)) (λ _. refl)
      (λ S h. rw (← e, ne_eqb (number r) 0 (number_some r)))

  module _ (e : 0 ≡ first (source_field s ∷ id_field i ∷ package_field base ∷ [])) where
    pub package_size : length base ≤ 255
    package_size = package_few base (not-false (package_iri base) (unmet (not (package_iri base)) 9 (omega arith) (all_none _ (sym e)).1.1.0))

    pub source_fits : length s ≤ folded_size
    source_fits = omega (arith, (source_size s (all_none _ (sym e)).0).1)

    abbrev sought : State → Option Relationship
    sought S = lookup key_of_relationship (relationship_key s i) S.relationships

    printed_is : (S : State) (x : Option Relationship) → sought S ≡ x → printed S (length out) (ResolveRelationship s i base) ≡ resolved S base x
    unfolding printed
    printed_is S x f = rw (← e, f)

    -- r is the row of the key
    module _ (r m : ℕ) (er : Sought p (key_in 3 s 0 i) r) (em : m ≡ count_of p) where
      row_is : (S : State) → Holds p S → row_for relationship_row (sought S) ≡ lookup row_key (key_in 3 s 0 i) (rows_of p)
      unfolding second
      row_is S h = sym (found_row relationship_rows relationship_rows_lem p S h (relationship_key s i))

      pub resolve_missing : m ≤ r → Ran (Prints (ResolveRelationship s i base) out) p (refusing 3 NotHeld out) p
      unfolding filled resolved
      resolve_missing l =
          wrote p o (ResolveRelationship s i base) out (answer 13 (0 ∷ 0 ∷ 0 ∷ []) out) (numbered 13 (omega arith) (omega arith)) (λ _. refl)
          (λ S h. sym (ap (filled 3 out) (printed_is S none (unheld (sought S) (row_is S h ∙ row_none p (holds_ordered p S h) (key_in 3 s 0 i) r er (omega arith))))))
        where
          unheld : (x : Option Relationship) → row_for relationship_row x ≡ none → x ≡ none
          unheld none e = refl
          unheld (some x) e = absurd (none-ne-some (relationship_row x) (sym e))

      pub resolve_found : r < m → (a : Answer) → RowResolved p r base out a → Ran (Prints (ResolveRelationship s i base) out) p a p
      resolve_found l a w =
          wrote p o (ResolveRelationship s i base) out a w.numbered w.kept
          (λ S h. go S h (sought S) refl (row_is S h ∙ row_here p (holds_ordered p S h) (key_in 3 s 0 i) r er (omega arith)))
        where
          go : (S : State) → Holds p S → (x : Option Relationship) → sought S ≡ x → row_for relationship_row x ≡ some (row_at p r)
              → a ≡ filled 3 out (printed S (length out) (ResolveRelationship s i base))
          go S h none e f = absurd (none-ne-some (row_at p r) f)
          go S h (some x) e f =
              let g = lookup_each key_of_relationship (λ (y : Relationship). relationship_kind.fields y ≡ 0) (relationship_key s i) S.relationships x h.good.relationships.fielded e in
              w.is S h x (sym (some-injective (relationship_row x) (row_at p r) f)) g ∙ sym (ap (filled 3 out) (printed_is S (some x) e))
