-- The row of an entry that was read: put in where nothing refuses it, the buffer holds the package with the entry.
-- Assumes nothing.
use Prim.Native.Nat.{ℕ}
use mathlib.Core.Path.{◌≡◌}
use mathlib.Core.List.{List}
use Rattle.output.specs.Answers.{Answer}
use Rattle.model.specs.Package.{State, default_kind, override_kind, relationship_kind}
use Rattle.model.specs.Puts.{put_default_refusal, put_override_refusal, put_relationship_refusal}
use Rattle.model.specs.Reading.{Entered, ADefault, AnOverride, ARelationship, entry_refusal, entry_made}
use Rattle.model.proofs.Steps.{entry_good}
use Rattle.store.specs.Rows.{Row}
use Rattle.contract.specs.Rows.{default_rows, override_rows, relationship_rows, default_row, override_row, relationship_row}
use Rattle.contract.specs.Holds.{Lies, Holds}
use Rattle.contract.specs.Entries.{Entered as RowEntered}
use Rattle.contract.proofs.RowKinds.{default_rows_lem, override_rows_lem, relationship_rows_lem}
use Rattle.contract.proofs.SetStates.{put_lies}

-- the entry's row, and the limit of its set
abbrev pub row_of_entry : Entered → Row
row_of_entry (ADefault d) = default_row d
row_of_entry (AnOverride o) = override_row o
row_of_entry (ARelationship r) = relationship_row r

abbrev pub limit_of_entry : Entered → ℕ
limit_of_entry (ADefault d) = default_kind.limit
limit_of_entry (AnOverride o) = override_kind.limit
limit_of_entry (ARelationship r) = relationship_kind.limit

entry_lies : (b : List ℕ) (S : State) → Holds b S → (e : Entered) → entry_refusal S e ≡ 0 → (a : Answer) (q : List ℕ) →
    RowEntered b 0 (limit_of_entry e) (row_of_entry e) a q → Lies q (entry_made S e)
unfolding put_default_refusal put_override_refusal put_relationship_refusal
entry_lies b S h (ADefault d) z a q w = put_lies default_rows default_rows_lem b S h d z a q w
entry_lies b S h (AnOverride o) z a q w = put_lies override_rows override_rows_lem b S h o z a q w
entry_lies b S h (ARelationship r) z a q w = put_lies relationship_rows relationship_rows_lem b S h r z a q w

pub entry_put : (b : List ℕ) (S : State) → Holds b S → (e : Entered) → entry_refusal S e ≡ 0 → (a : Answer) (q : List ℕ) →
    RowEntered b 0 (limit_of_entry e) (row_of_entry e) a q → Holds q (entry_made S e)
entry_put b S h e z a q w = record { lies = entry_lies b S h e z a q w; good = entry_good S e h.good z }
