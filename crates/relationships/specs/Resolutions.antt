-- The answer of resolving a relationship, and what the inner functions of that call promise.
-- Assumes nothing.
use Rattle.std.specs.Prelude.{ℕ, ◌≡◌, List, [], ◌∷◌, Result, Ok, Err}
use Rattle.std.proofs.Math.Option.{some}
use Rattle.output.specs.Answers.{Answer, answer, failing, Text, filled}
use Rattle.output.specs.declared.refusals.Unwritten.{Unwritten}
use Rattle.targets.specs.Targets.{resolve_path}
use Rattle.pack.specs.Pack.{pack_iri}
use Rattle.model.specs.Package.{relationship_kind, Relationship, State, group, is_part}
use Rattle.model.specs.Calls.{Numbered, flag, resolved}
use Rattle.store.specs.Rows.{row_at}
use Rattle.contract.specs.Rows.{relationship_row}
use Rattle.contract.specs.Holds.{Holds}
use Rattle.relationships.specs.declared.resolving.Resolution.{Resolution}
use Rattle.relationships.specs.declared.resolving.Resolution.TheVariants.{Internal, External}

-- document 01's number and values for each case: "besides the length it answers the mode, and 1 if that part is held, else
-- 0 (external: 0)"; "A refusal answers its number and 0 for every value (3: the length as the first)"
abbrev pub of_resolution : Result Resolution Unwritten → List ℕ → Answer
of_resolution (Ok (Internal n h)) out = answer 0 (n ∷ 0 ∷ flag h ∷ []) out
of_resolution (Ok (External n)) out = answer 0 (n ∷ 1 ∷ 0 ∷ []) out
of_resolution (Err u) out = failing 3 u out

-- a is the answer for an internal target of that source, in the buffer b
pub record LedTo (b source target base out : List ℕ) (a : Answer) : Type 0 where
  pub kept : (a.number ≡ 0 → ⊥) → a.output ≡ out
  pub numbered : Numbered a.number
  pub is : (S : State) → Holds b S
      → a ≡ filled 3 out (Text (pack_iri base (resolve_path source target)) (0 ∷ flag (is_part (group (resolve_path source target) S.items)) ∷ []))

-- a is the answer for the relationship in row i of b
pub record RowResolved (b : List ℕ) (i : ℕ) (base out : List ℕ) (a : Answer) : Type 0 where
  pub kept : (a.number ≡ 0 → ⊥) → a.output ≡ out
  pub numbered : Numbered a.number
  pub is : (S : State) → Holds b S → (r : Relationship) → row_at b i ≡ relationship_row r → relationship_kind.fields r ≡ 0 → a ≡ filled 3 out (resolved S base (some r))
