-- What is said of the entries of a stream before one of them is put in. These are promises of inner functions.
-- Assumes nothing.
use Rattle.std.specs.Prelude.{ℕ, ◌-◌, ◌≤◌, ◌≡◌, List, [], ◌∷◌, Result, Ok, Err}
use Rattle.output.specs.declared.refusals.Refusal.{Refusal}
use Rattle.output.specs.Refusals.{number}
use Rattle.markup.specs.declared.entries.Kind.{Kind}
use Rattle.model.specs.Sets.{Bytes, Each}
use Rattle.model.specs.Package.{State, default_kind, override_kind, relationship_kind}
use Rattle.model.specs.Reading.{Entered, ADefault, AnOverride, ARelationship, entry_refusal, entry_made, entries_refusal}
use Rattle.model.specs.Calls.{Numbered}
use Rattle.contract.specs.Holds.{Holds}
use Rattle.reading.specs.Notes.{shade, Notes, Beyond}

-- entries by their fields
abbrev pub a_default : Bytes → Bytes → Entered
a_default extension type = ADefault (record { extension = extension; type = type })

abbrev pub an_override : Bytes → Bytes → Entered
an_override name type = AnOverride (record { name = name; type = type })

abbrev pub a_relationship : Bytes → Bytes → Bytes → ℕ → Bytes → Entered
a_relationship source id type mode target = ARelationship (record { source = source; id = id; type = type; mode = mode; target = target })

abbrev pub fields_of : Entered → ℕ
fields_of (ADefault d) = default_kind.fields d
fields_of (AnOverride o) = override_kind.fields o
fields_of (ARelationship r) = relationship_kind.fields r

abbrev pub AllFielded : List Entered → Type 0
AllFielded es = Each (λ (e : Entered). fields_of e ≡ 0) es

-- ONE ENTRY e, judged beside the package b and the entries that the shadow m notes: it takes so many bytes, and the shadow n notes it too
pub record TakenAs (K : Kind) (source : Bytes) (b m n : List ℕ) (room : ℕ) (e : Entered) (size : ℕ) : Type 0 where
  pub fielded : fields_of e ≡ 0
  pub fits : (T : State) → Notes K m T → size ≤ room
  pub noted : (T : State) → Notes K m T → Notes K n (entry_made T (shade e))
  pub is : (T : State) → Notes K m T → (S U : State) → Holds b S → Beyond source S T U room →
      (entry_refusal U e ≡ 0) × Beyond source S (entry_made T (shade e)) (entry_made U e) (room - size)

-- or it is refused
pub record StoppedAs (K : Kind) (source : Bytes) (b m : List ℕ) (room : ℕ) (e : Entered) (k : ℕ) : Type 0 where
  pub numbered : Numbered k
  pub some : k ≡ 0 → ⊥
  pub is : (T : State) → Notes K m T → (S U : State) → Holds b S → Beyond source S T U room → entry_refusal U e ≡ k

abbrev pub JudgedAs : Kind → Bytes → List ℕ → List ℕ → List ℕ → ℕ → Entered → Result ℕ Refusal → Type 0
JudgedAs K source b m n room e (Ok size) = TakenAs K source b m n room e size
JudgedAs K source b m n room e (Err r) = StoppedAs K source b m room e (number r)

-- the entry, if there is one
pub record JudgedAt (K : Kind) (source : Bytes) (b m n : List ℕ) (room : ℕ) (es : List Entered) (r : Result ℕ Refusal) : Type 0 where
  pub is : (e : Entered) → es ≡ e ∷ [] → JudgedAs K source b m n room e r

-- ALL OF THEM: k is the first refusal, 0 for none
pub record JudgedAll (b : List ℕ) (es : List Entered) (k : ℕ) : Type 0 where
  pub numbered : Numbered k
  pub fielded : k ≡ 0 → AllFielded es
  pub is : (S : State) → Holds b S → k ≡ entries_refusal S es
