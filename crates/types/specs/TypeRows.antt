-- The row of the entry that gives a name its media type. These are promises of inner functions.
-- Assumes nothing.
use Rattle.std.specs.Prelude.{ℕ, ◌≤◌, ◌<◌, ◌≡◌, List, Result, Ok, Err}
use Rattle.std.proofs.Math.Option.{Option, none, some}
use Rattle.output.specs.Answers.{Answer}
use Rattle.output.specs.Refusals.{number}
use Rattle.output.specs.declared.refusals.Refusal.{Refusal}
use Rattle.model.specs.Sets.{Bytes}
use Rattle.model.specs.Package.{State}
use Rattle.model.specs.TypeOrigin.{Origin, ByOverride, ByDefault, Neither, origin_of, kind_of, key_of, keyed}
use Rattle.model.specs.Calls.{Numbered}
use Rattle.store.specs.Layout.{count_of}
use Rattle.store.specs.Rows.{Row, row_at}
use Rattle.contract.specs.Rows.{default_row, override_row}
use Rattle.contract.specs.Holds.{Holds}
use Rattle.parts.specs.Runs.{PartRefused}

-- the row of an entry
abbrev pub origin_row : Origin → Option Row
origin_row (ByOverride o) = some (override_row o)
origin_row (ByDefault d) = some (default_row d)
origin_row Neither = none

-- row r of b is that of the entry that gives the name its media type; r is past the last row if there is none
pub record Typed (b : List ℕ) (name : Bytes) (r : ℕ) : Type 0 where
  pub found : (S : State) → Holds b S → r < count_of b → origin_row (origin_of name S) ≡ some (row_at b r)
  pub missing : (S : State) → Holds b S → count_of b ≤ r → origin_row (origin_of name S) ≡ none

-- of a part the row is found; a name that is none is refused as one
abbrev pub TypeFound : List ℕ → Bytes → Result ℕ Refusal → Type 0
TypeFound b name (Ok r) = PartRefused b name 0 × Typed b name r
TypeFound b name (Err r) = PartRefused b name (number r)

-- a is the answer that names the entry in row r of b
pub record RowKeyed (b : List ℕ) (r : ℕ) (out : Bytes) (a : Answer) : Type 0 where
  pub kept : (a.number ≡ 0 → ⊥) → a.output ≡ out
  pub numbered : Numbered a.number
  pub is : (S : State) → Holds b S → (x : Origin) → origin_row x ≡ some (row_at b r) → a ≡ keyed (kind_of x) (key_of x) out
