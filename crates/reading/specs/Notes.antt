-- The shadow: a package of the call's own, where the entries of a stream are noted while they are judged. These are promises of inner functions.
-- Assumes nothing.
use Rattle.std.specs.Prelude.{ℕ, ◌+◌, ◌-◌, ◌*◌, ◌≤◌, ◌≡◌, Bool, ◌||◌, List, [], ◌∷◌, ltb, length, Result, Ok, Err}
use Rattle.chars.specs.Bytes.{ascii}
use Rattle.output.specs.declared.refusals.Refusal.{Refusal}
use Rattle.output.specs.Refusals.{number}
use Rattle.markup.specs.declared.entries.Kind.{Kind}
use Rattle.markup.specs.declared.entries.Kind.TheVariants.{Types, Relationships}
use Rattle.model.specs.Sets.{Bytes, Key, held, lookup, insert}
use Rattle.model.specs.Fields.{when, first}
use Rattle.model.specs.Package.{State, Default, Override, Relationship, Kind as SetKind, default_kind, override_kind, relationship_kind, charge}
use Rattle.model.specs.Reading.{Entered, ADefault, AnOverride, ARelationship}
use Rattle.model.specs.Calls.{Numbered}
use Rattle.store.specs.Layout.{format_of, package_format, cap_of}
use Rattle.store.specs.Rows.{Row, rows_of}
use Rattle.store.specs.Packages.{Sound, Became}
use Rattle.contract.specs.Rows.{row_key}
use Rattle.contract.specs.Holds.{Holds}
use Rattle.contract.specs.Searches.{Ordered}
use Rattle.contract.specs.Entries.{Taken, row_count, row_refusal}

-- WHAT IS NOTED of an entry: its key, and fields that are the same for all of its set. (The entries of one reading have one source.)
abbrev pub shade_default : Default → Default
shade_default d = record { extension = d.extension; type = ascii "a/a" }

abbrev pub shade_override : Override → Override
shade_override o = record { name = o.name; type = ascii "a/a" }

abbrev pub shade_relationship : Relationship → Relationship
shade_relationship r = record { source = ascii "/"; id = r.id; type = ascii "a:"; mode = 1; target = ascii "a" }

abbrev pub shade : Entered → Entered
shade (ADefault d) = ADefault (shade_default d)
shade (AnOverride o) = AnOverride (shade_override o)
shade (ARelationship r) = ARelationship (shade_relationship r)

-- 64 Defaults of 34 bytes and 64 Overrides of 258; 256 relationships of 67 are fewer
abbrev pub shadow_capacity : ℕ
shadow_capacity = 18688

-- a shadow that notes nothing yet
pub record Blank (m : List ℕ) : Type 0 where
  pub sound : Sound m
  pub rows : rows_of m ≡ []
  pub capacity : cap_of m ≡ shadow_capacity
  pub format : format_of m ≡ package_format

-- a stream of one kind says nothing of the other's
abbrev pub Only : Kind → State → Type 0
Only Types T = length T.relationships ≡ 0
Only Relationships T = (length T.defaults ≡ 0) × (length T.overrides ≡ 0)

-- m is the shadow of a reading, and T what it holds
pub record Notes (K : Kind) (m : List ℕ) (T : State) : Type 0 where
  pub holds : Holds m T
  pub capacity : T.capacity ≡ shadow_capacity
  pub only : Only K T
  pub small : charge T ≤ 34 * length T.defaults + (258 * length T.overrides + 67 * length T.relationships)

-- BESIDE THE PACKAGE. In one set, U has what S has and what T notes of the entries of the reading
module _ {E : Type 0} (kind : SetKind E) (shaded : E → E) (Mine : E → Type 0) where
  pub record Joined (S T U : State) : Type 0 where
    pub holding : (e : E) → Mine e → held (lookup kind.key (kind.key e) (kind.entries U))
        ≡ (held (lookup kind.key (kind.key (shaded e)) (kind.entries T)) || held (lookup kind.key (kind.key e) (kind.entries S)))
    pub counted : length (kind.entries U) ≡ length (kind.entries T) + length (kind.entries S)

-- U is S with the entries that T notes, relationships being those of the source; so many bytes of its capacity are left
pub record Beyond (source : Bytes) (S T U : State) (room : ℕ) : Type 0 where
  pub left : charge U + room ≡ U.capacity
  pub defaults : Joined default_kind shade_default (λ _. Unit {0}) S T U
  pub overrides : Joined override_kind shade_override (λ _. Unit {0}) S T U
  pub relationships : Joined relationship_kind shade_relationship (λ (r : Relationship). r.source ≡ source) S T U

-- the set takes r entries more
pub record LeftIn (b : List ℕ) (set limit r : ℕ) : Type 0 where
  pub few : r ≤ limit
  pub is : Ordered b → r ≡ limit - row_count set (rows_of b)

-- NOTING A ROW x for an entry of so many bytes, whose key is taken in the package or not: 10, 15, or 0
abbrev pub note_refusal : List ℕ → Bool → ℕ → ℕ → ℕ → Row → ℕ
note_refusal m taken left room size x = first (when taken 10 ∷ row_refusal m (when (ltb room size) 15) left x ∷ [])

abbrev pub NotedRow : List ℕ → List ℕ → Bool → ℕ → ℕ → ℕ → Row → Result ℕ Refusal → Type 0
NotedRow m n taken left room size x (Ok k) = (k ≡ size) × (Ordered m → (note_refusal m taken left room size x ≡ 0) × Became m n (insert row_key x (rows_of m)))
NotedRow m n taken left room size x (Err r) = Numbered (number r) × (number r ≡ 0 → ⊥) × (Ordered m → number r ≡ note_refusal m taken left room size x)

-- the same, of an entry whose key k is sought in the package b
pub record NotedBeside (b m n : List ℕ) (k : Key) (left room size : ℕ) (x : Row) (r : Result ℕ Refusal) : Type 0 where
  pub taken : Bool
  pub sought : Taken b k taken
  pub noted : NotedRow m n taken left room size x r
