-- A stream is read as its entries are put, all or none (request 5 of document 02).
-- Assumes nothing.
use Prim.Native.Nat.{ℕ}
use mathlib.Core.Path.{◌≡◌, refl, ap, sym, ◌∙◌}
use mathlib.Core.Bool.{Bool, true, false}
use mathlib.Core.List.{List, [], ◌∷◌, ◌++◌}
use lib.Dec.{eqb}
use borrow.Author.Tests.{ne_eqb}
use Rattle.output.specs.Answers.{Answer}
use Rattle.markup.specs.Streams.{said, entries_of, form_of}
use Rattle.markup.specs.declared.entries.Kind.TheVariants.{Types, Relationships}
use Rattle.markup.proofs.EntryKinds.{said_of}
use Rattle.model.specs.Fields.{first, source_field}
use Rattle.model.specs.Package.{State}
use Rattle.model.specs.Reading.{Entered, ADefault, AnOverride, ARelationship, types_in, relationships_in}
use Rattle.model.specs.Reading.{entry_refusal, entry_made, entries_refusal, entries_made, read_types_refusal, read_relationships_refusal}
use Rattle.model.specs.Calls.{done, refused, pick, changed, change, step, answers, after}
use Rattle.model.specs.ReadingDemand.{put_of, puts_of, AllTaken, ReadInto, TypesAreRead, RelationshipsAreRead, NoneIsLeftOut}
use Rattle.model.proofs.EntryCounts.{types_saying, relationships_saying, say_length}
use Rattle.model.proofs.Refusals.{all_none, first_append, first_met, first_unmet, first_one, changed_done, changed_accepted, picked}

-- ONE ENTRY: its put is a change like any other
put_step : (room : ℕ) (S : State) (e : Entered) → step room S (put_of e) ≡ changed (entry_refusal S e) S (entry_made S e)
unfolding change
put_step room S (ADefault d) = refl
put_step room S (AnOverride o) = refl
put_step room S (ARelationship r) = refl

changed_refused : (n : ℕ) (S T : State) → (n ≡ 0 → ⊥) → changed n S T ≡ (refused n, S)
changed_refused n S T z = rw (ne_eqb n 0 z)

module _ (room : ℕ) (S : State) (e : Entered) where
  put_taken : (step room S (put_of e)).0 ≡ done → entry_refusal S e ≡ 0
  put_taken h =
      changed_accepted (entry_refusal S e) S (entry_made S e)
      (ap (λ (r : Answer × State). r.0.number) (sym (put_step room S e)) ∙ ap (λ (a : Answer). a.number) h)

  put_made : entry_refusal S e ≡ 0 → step room S (put_of e) ≡ (done, entry_made S e)
  put_made h = put_step room S e ∙ changed_done (entry_refusal S e) S (entry_made S e) h

  -- refused by n, it has the refusal n
  put_refused : (n : ℕ) → (n ≡ 0 → ⊥) → (step room S (put_of e)).0 ≡ refused n → entry_refusal S e ≡ n
  put_refused n z h = go (eqb (entry_refusal S e) 0) (ap (λ (r : Answer × State). r.0) (sym (put_step room S e)) ∙ h)
    where
      go : (b : Bool) → (pick b (done, entry_made S e) (refused (entry_refusal S e), S)).0 ≡ refused n → entry_refusal S e ≡ n
      go true k = absurd (z (sym (ap (λ (a : Answer). a.number) k)))
      go false k = ap (λ (a : Answer). a.number) k

-- ENTRIES ONE AFTER THE OTHER: all are taken where none is refused, and the package after them is the one that reading makes
heads : (a b : Answer) (s t : List Answer) → ◌≡◌ {A = List Answer} (a ∷ s) (b ∷ t) → (a ≡ b) × (s ≡ t)
heads a b s t h = (cc, cc)

all_unrefused : (room : ℕ) (S : State) (es : List Entered) → AllTaken room S es → entries_refusal S es ≡ 0
unfolding entries_refusal answers
all_unrefused room S [] h = refl
all_unrefused room S (e ∷ es) h =
    let p = heads _ done _ _ h in
    let n = put_taken room S e p.0 in
    let m = put_made room S e n in
    first_unmet (entry_refusal S e) _ n ∙ first_one _
    ∙ all_unrefused room (entry_made S e) es (ap (λ (r : Answer × State). answers room r.1 (puts_of es)) (sym m) ∙ p.1)

all_taken : (room : ℕ) (S : State) (es : List Entered) → entries_refusal S es ≡ 0 → AllTaken room S es
unfolding entries_refusal answers
all_taken room S [] h = refl
all_taken room S (e ∷ es) h =
    let z = all_none _ h in
    let m = put_made room S e z.0 in
    rw m (ap (λ (l : List Answer). done ∷ l) (all_taken room (entry_made S e) es z.1.0))

all_made : (room : ℕ) (S : State) (es : List Entered) → entries_refusal S es ≡ 0 → entries_made S es ≡ after room S (puts_of es)
unfolding entries_refusal entries_made after
all_made room S [] h = refl
all_made room S (e ∷ es) h =
    let z = all_none _ h in
    all_made room (entry_made S e) es z.1.0 ∙ ap (λ (r : Answer × State). after room r.1 (puts_of es)) (sym (put_made room S e z.0))

-- the first that is refused decides
first_refused : (room : ℕ) (S : State) (before : List Entered) (e : Entered) (behind : List Entered) (n : ℕ) → AllTaken room S before →
    (step room (after room S (puts_of before)) (put_of e)).0 ≡ refused n → (n ≡ 0 → ⊥) → entries_refusal S (before ++ (e ∷ behind)) ≡ n
unfolding entries_refusal answers after
first_refused room S [] e behind n t h z =
    let r = put_refused room S e n z h in
    first_met (entry_refusal S e) _ (λ k. z (sym r ∙ k)) ∙ r
first_refused room S (x ∷ before) e behind n t h z =
    let p = heads _ done _ _ t in
    let k = put_taken room S x p.0 in
    let m = put_made room S x k in
    first_unmet (entry_refusal S x) _ k ∙ first_one _
    ∙ first_refused room (entry_made S x) before e behind n (ap (λ (r : Answer × State). answers room r.1 (puts_of before)) (sym m) ∙ p.1)
    (ap (λ (r : Answer × State). (step room (after room r.1 (puts_of before)) (put_of e)).0) (sym m) ∙ h) z

-- A CALL that is refused by the stream's own refusal, then by its entries
read_into : (room : ℕ) (S : State) (form : ℕ) (es : List Entered) (n : ℕ) → n ≡ first (form ∷ entries_refusal S es ∷ []) →
    ReadInto room S form es (changed n S (entries_made S es))
read_into room S form es n e = record {
  all_entries = λ f t.
      let z = all_unrefused room S es t in
      changed_done n S (entries_made S es) (e ∙ first_unmet form _ f ∙ first_one _ ∙ z)
      ∙ ap (λ (T : State). (done, T)) (all_made room S es z);
  taken = λ h.
      let z = all_none _ (sym e ∙ changed_accepted n S (entries_made S es) h) in
      (z.0, all_taken room S es z.1.0);
  no_entries = λ h. picked n S (entries_made S es) (λ (T : State). ((changed n S (entries_made S es)).0.number ≡ 0 → ⊥) → T ≡ S) done (refused n) (λ k. refl)
      (λ z k. absurd (k (ap (λ (r : Answer × State). r.0.number) (changed_done n S (entries_made S es) z)))) h;
  form_refused = λ z.
      let m : n ≡ form = e ∙ first_met form _ z in
      ap (λ (k : ℕ). changed k S (entries_made S es)) m ∙ changed_refused form S (entries_made S es) z;
  first_refusal = λ f before x behind k q t h z.
      let m : n ≡ k = e ∙ first_unmet form _ f ∙ first_one _ ∙ ap (entries_refusal S) q ∙ first_refused room S before x behind k t h z in
      ap (λ (i : ℕ). changed i S (entries_made S es)) m ∙ changed_refused k S (entries_made S es) z;
}

pub types_are_read : TypesAreRead
unfolding change read_types_refusal
types_are_read room S stream = read_into room S (form_of (said Types stream)) (types_in stream) _ refl

pub relationships_are_read : RelationshipsAreRead
unfolding change read_relationships_refusal
relationships_are_read room S source stream =
    read_into room S (first (source_field source ∷ form_of (said Relationships stream) ∷ [])) (relationships_in source stream) _
    (first_append (source_field source ∷ form_of (said Relationships stream) ∷ []) (entries_refusal S (relationships_in source stream) ∷ []))

-- NOTHING THAT A STREAM SAYS IS LEFT OUT
pub none_is_left_out : NoneIsLeftOut
none_is_left_out source stream = (
  say_length types_saying (entries_of (said Types stream)) (said_of Types stream),
  say_length (relationships_saying source) (entries_of (said Relationships stream)) (said_of Relationships stream),
)
