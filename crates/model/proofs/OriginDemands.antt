-- What `specs/TypeOriginDemand.antt` asks.
-- Assumes nothing.
use Prim.Native.Nat.{ℕ}
use mathlib.Core.Path.{◌≡◌, refl, ap, sym, ◌∙◌}
use mathlib.Core.Logic.{◌⊎◌, inl, inr}
use mathlib.Core.Bool.{Bool, true, false, not, cond, true≢false}
use mathlib.Core.List.{[], ◌∷◌, ◌++◌}
use mathlib.Core.Option.{Option, none, some, none-ne-some}
use native.Mathlib.Omega.{arith}
use lib.Dec.{eqb}
use lib.ListN.{length, get_or, drop}
use Rattle.chars.specs.Folding.{equivalent}
use Rattle.chars.proofs.Equivalence.{equivalent_sym}
use Rattle.names.specs.Names.{part_name, extension_at}
use Rattle.output.specs.Answers.{Text, unless, Answer, answer, filled}
use Rattle.output.proofs.Answering.{filled_number}
use Rattle.model.specs.Sets.{Bytes, same_key, held, lookup}
use Rattle.model.specs.Fields.{when, first}
use Rattle.model.specs.Package.{Default, Override, State, name_key, key_of_default, key_of_override, group, is_part, part_refusal, extension_of, default_for}
use Rattle.model.specs.TypeOrigin.{Origin, ByOverride, ByDefault, Neither, origin_in, origin_of, kind_of, key_of, keyed}
use Rattle.model.specs.Calls.{text_of}
use Rattle.model.specs.TypeOriginDemand.{origin, media_type, Argued, by_override, by_default, neither, KeyTooLong, OriginsAreTold}
use Rattle.model.proofs.Lists.{each_map}
use Rattle.model.proofs.Sets.{absent}
use Rattle.model.proofs.Lookups.{lookup_key, lookup_one}
use Rattle.model.proofs.Keys.{same_name_key}
use Rattle.model.proofs.Origins.{keyed_fits, keyed_number, keyed_accepted, keyed_stopped, origin_done, origin_refused, origin_either, given, origin_type, type_printed, type_refused}

-- LOOKUPS. An entry that is found for a name has an equivalent key
own : (s t : Bytes) → same_key (name_key s) (name_key t) ≡ true → equivalent t s ≡ true
own s t h = equivalent_sym s t (sym (same_name_key s t) ∙ h)

other : (s t : Bytes) → same_key (name_key s) (name_key t) ≡ false → equivalent t s ≡ false
other s t h = go (equivalent t s) refl
  where
    go : (b : Bool) → equivalent t s ≡ b → b ≡ false
    go true e = absurd (true≢false (sym (equivalent_sym t s e) ∙ sym (same_name_key s t) ∙ h))
    go false e = refl

-- a Default is asked for only where there is a dot
dotted : (i : ℕ) (o : Option Default) (d : Default) → cond (eqb i 0) none o ≡ some d → (eqb i 0 ≡ false) × (o ≡ some d)
dotted i o d h = go (eqb i 0) refl h
  where
    go : (b : Bool) → eqb i 0 ≡ b → cond b none o ≡ some d → (eqb i 0 ≡ false) × (o ≡ some d)
    go true e m = absurd (none-ne-some d m)
    go false e m = (e, m)

-- a part is refused by 4 or 13
part_number : (a b : Bool) (k : ℕ) → (k ≡ 0 → ⊥) → (k ≡ 4 → ⊥) → (k ≡ 13 → ⊥) → first (when a 4 ∷ when b 13 ∷ []) ≡ k → ⊥
unfolding first
part_number true b k z f t e = f (sym e)
part_number false true k z f t e = t (sym e)
part_number false false k z f t e = z (sym e)

-- what the media type call answers, by the type
abbrev typed : Bytes → Option Bytes → Answer
typed out t = filled 1 out (unless (when (not (held t)) 14) (Text (text_of t) []))

typed_none : (out : Bytes) (t : Option Bytes) → (typed out t).number ≡ 14 → t ≡ none
typed_none out none h = refl
typed_none out (some t) h = go (filled_number 1 out t [])
  where
    go : ((filled 1 out (Text t [])).number ≡ 0) ⊎ ((filled 1 out (Text t [])).number ≡ 3) → some t ≡ none
    go (inl e) = absurd (omega arith)
    go (inr e) = absurd (omega arith)

typed_number : (out : Bytes) (t : Option Bytes) (k : ℕ) → (k ≡ 0 → ⊥) → (k ≡ 3 → ⊥) → (k ≡ 14 → ⊥) → (typed out t).number ≡ k → ⊥
unfolding filled
typed_number out none k z s f e = f (sym e)
typed_number out (some t) k z s f e = go (filled_number 1 out t [])
  where
    go : ((filled 1 out (Text t [])).number ≡ 0) ⊎ ((filled 1 out (Text t [])).number ≡ 3) → ⊥
    go (inl i) = z (sym e ∙ i)
    go (inr i) = s (sym e ∙ i)

module _ (room : ℕ) (S : State) (name : Bytes) where
  -- THE MEDIA TYPE CALL, by whether the part is refused
  type_done : (out : Bytes) → part_refusal S name ≡ 0 → media_type room S name out ≡ typed out (given (origin_of name S))
  type_done out e = ap (filled 1 out) (type_printed S name (length out) e) ∙ ap (typed out) (origin_type S name)

  type_stopped : (out : Bytes) → (part_refusal S name ≡ 0 → ⊥) → media_type room S name out ≡ answer (part_refusal S name) (0 ∷ []) out
  unfolding filled
  type_stopped out z = ap (filled 1 out) (type_refused S name (length out) z)

  not_refused : (k : ℕ) → (k ≡ 0 → ⊥) → (k ≡ 4 → ⊥) → (k ≡ 13 → ⊥) → part_refusal S name ≡ k → ⊥
  not_refused = part_number (not (part_name name)) (not (is_part (group name S.items)))

  not_fourteen : part_refusal S name ≡ 14 → ⊥
  not_fourteen = not_refused 14 (λ e. omega arith) (λ e. omega arith) (λ e. omega arith)

  -- any other number comes of an entry
  passed : (output : Bytes) (k : ℕ) → (k ≡ 4 → ⊥) → (k ≡ 13 → ⊥) → (origin room S name output).number ≡ k → part_refusal S name ≡ 0
  passed output k f t h =
      origin_either S name (part_refusal S name ≡ 0) (λ e. e)
      (λ z.
      let r : part_refusal S name ≡ k = sym (ap (λ (a : Answer). a.number) (origin_refused S name output z)) ∙ h in
      absurd (not_refused k (λ e. z (r ∙ e)) f t r))

  -- ACCEPTED. The entry that the lookups find is the one that is used
  module _ (output : Bytes) (accepted : (origin room S name output).number ≡ 0) where
    asked : part_refusal S name ≡ 0
    asked = passed output 0 (λ e. omega arith) (λ e. omega arith) accepted

    named : (x : Origin) → origin_of name S ≡ x → origin room S name output ≡ answer 0 (kind_of x ∷ length (key_of x) ∷ []) (key_of x ++ drop (length (key_of x)) output)
    named x e =
        let d : origin room S name output ≡ keyed (kind_of x) (key_of x) output = origin_done S name output asked ∙ ap (λ (y : Origin). keyed (kind_of y) (key_of y) output) e in
        d ∙ keyed_accepted (kind_of x) (key_of x) output (sym (ap (λ (a : Answer). a.number) d) ∙ accepted)

    gives : (x : Origin) → origin_of name S ≡ x → (out : Bytes) → media_type room S name out ≡ typed out (given x)
    gives x e out = type_done out asked ∙ ap (λ (y : Origin). typed out (given y)) e

    argued_by : (o : Option Override) (d : Option Default) → lookup key_of_override (name_key name) S.overrides ≡ o → default_for name S.defaults ≡ d →
        origin_of name S ≡ origin_in o d → Argued room S name output
    unfolding filled
    argued_by (some o) d e f x =
        by_override o (record {
          answered = named (ByOverride o) x;
          held = lookup_one key_of_override (name_key name) S.overrides o e;
          own = own name o.name (lookup_key key_of_override (name_key name) S.overrides o e);
          used = gives (ByOverride o) x;
        })
    argued_by none (some d) e f x =
        let sought = lookup key_of_default (name_key (extension_of name)) S.defaults in
        let found : (eqb (extension_at name) 0 ≡ false) × (sought ≡ some d) = dotted (extension_at name) sought d f in
        by_default d (record {
          answered = named (ByDefault d) x;
          held = lookup_one key_of_default (name_key (extension_of name)) S.defaults d found.1;
          dotted = found.0;
          own = own (extension_of name) d.extension (lookup_key key_of_default (name_key (extension_of name)) S.defaults d found.1);
          used = gives (ByDefault d) x;
          unopposed =
              each_map (λ (o : Override). same_key (name_key name) (key_of_override o) ≡ false) (λ (o : Override). equivalent o.name name ≡ false)
              S.overrides
              (λ o. other name o.name) (absent key_of_override (name_key name) S.overrides (ap held e));
        })
    argued_by none none e f x = neither (record { answered = named Neither x; untyped = gives Neither x })

    argued : Argued room S name output
    unfolding origin_of
    argued = argued_by (lookup key_of_override (name_key name) S.overrides) (default_for name S.defaults) refl refl refl

  -- TOO SHORT
  module _ (output : Bytes) (stopped : (origin room S name output).number ≡ 3) where
    sought : part_refusal S name ≡ 0
    sought = passed output 3 (λ e. omega arith) (λ e. omega arith) stopped

    too_long : KeyTooLong room S name output
    too_long =
        let kind = kind_of (origin_of name S) in
        let key = key_of (origin_of name S) in
        let d = origin_done S name output sought in
        let s = keyed_stopped kind key output (sym (ap (λ (a : Answer). a.number) d) ∙ stopped) in
        record {
          needed = length key;
          answered = d ∙ s.0;
          less = s.1;
          enough = λ more l.
              let e : origin room S name more ≡ answer 0 (kind ∷ length key ∷ []) (key ++ drop (length key) more) =
              origin_done S name more sought ∙ keyed_fits kind key more l in
              (ap (λ (a : Answer). a.number) e, ap (λ (a : Answer). get_or a.values 1 0) e);
        }

  -- NEITHER
  no_entry : (x : Origin) → given x ≡ none → x ≡ Neither
  no_entry (ByOverride o) e = absurd (none-ne-some o.type (sym e))
  no_entry (ByDefault d) e = absurd (none-ne-some d.type (sym e))
  no_entry Neither e = refl

  is_neither : (output out : Bytes) → (media_type room S name out).number ≡ 14 → origin room S name output ≡ answer 0 (0 ∷ 0 ∷ []) output
  is_neither output out h =
      origin_either S name (origin room S name output ≡ answer 0 (0 ∷ 0 ∷ []) output)
      (λ e.
      let x : origin_of name S ≡ Neither =
      no_entry (origin_of name S) (typed_none out (given (origin_of name S)) (sym (ap (λ (a : Answer). a.number) (type_done out e)) ∙ h)) in
      origin_done S name output e ∙ ap (λ (y : Origin). keyed (kind_of y) (key_of y) output) x ∙ keyed_fits 0 [] output (omega arith))
      (λ z. absurd (not_fourteen (sym (ap (λ (a : Answer). a.number) (type_stopped out z)) ∙ h)))

  -- THE OTHER REFUSALS
  keyed_other : (output : Bytes) (k : ℕ) → (k ≡ 0 → ⊥) → (k ≡ 3 → ⊥) → (x : Origin) → (keyed (kind_of x) (key_of x) output).number ≡ k → ⊥
  keyed_other output k z s x e = go (keyed_number (kind_of x) (key_of x) output)
    where
      go : ((keyed (kind_of x) (key_of x) output).number ≡ 0) ⊎ ((keyed (kind_of x) (key_of x) output).number ≡ 3) → ⊥
      go (inl i) = z (sym e ∙ i)
      go (inr i) = s (sym e ∙ i)

  refused_alike : (output out : Bytes) (k : ℕ) → (k ≡ 0 → ⊥) → (k ≡ 3 → ⊥) → (k ≡ 14 → ⊥) →
      ((media_type room S name out).number ≡ k → origin room S name output ≡ answer k (0 ∷ 0 ∷ []) output)
      × ((origin room S name output).number ≡ k → media_type room S name out ≡ answer k (0 ∷ []) out)
  refused_alike output out k z s f =
      origin_either S name _
      (λ e. (
        (λ h. absurd (typed_number out (given (origin_of name S)) k z s f (sym (ap (λ (a : Answer). a.number) (type_done out e)) ∙ h))),
        (λ h. absurd (keyed_other output k z s (origin_of name S) (sym (ap (λ (a : Answer). a.number) (origin_done S name output e)) ∙ h))),
      ))
      (λ y.
      let t = type_stopped out y in
      let o = origin_refused S name output y in (
        (λ h. o ∙ ap (λ (n : ℕ). answer n (0 ∷ 0 ∷ []) output) (sym (ap (λ (a : Answer). a.number) t) ∙ h)),
        (λ h. t ∙ ap (λ (n : ℕ). answer n (0 ∷ []) out) (sym (ap (λ (a : Answer). a.number) o) ∙ h)),
      ))

  never_fourteen : (output : Bytes) → (origin room S name output).number ≡ 14 → ⊥
  never_fourteen output h =
      origin_either S name ⊥
      (λ e. keyed_other output 14 (λ i. omega arith) (λ i. omega arith) (origin_of name S) (sym (ap (λ (a : Answer). a.number) (origin_done S name output e)) ∙ h))
      (λ z. not_fourteen (sym (ap (λ (a : Answer). a.number) (origin_refused S name output z)) ∙ h))

pub origins_are_told : OriginsAreTold
origins_are_told room S name output = record {
  argued = argued room S name output;
  fourteen = is_neither room S name output;
  short = too_long room S name output;
  others = refused_alike room S name output;
  never14 = never_fourteen room S name output;
  kept = refl;
}
