-- What the call that copies an entry's field promises.
-- Assumes nothing.
use Rattle.std.specs.Prelude.{ℕ, ◌≡◌, true, false, List, [], ◌∷◌, Result, Ok, Err}
use Rattle.output.specs.Answers.{Answer, answer, failing}
use Rattle.model.specs.Sets.{Bytes}
use Rattle.model.specs.Package.{State}
use Rattle.model.specs.Calls.{Numbered}
use Rattle.store.specs.Packages.{is_package}
use Rattle.contract.specs.Holds.{Holds}
use Rattle.entries.specs.Listing.{entry_at}
use Rattle.entries.specs.declared.listing.EntryField.{EntryField}
use Rattle.output.specs.declared.refusals.Unwritten.{Unwritten}

-- the number and the values for each case: "A refusal answers its number and 0 for every value (3: the length as the first)"
abbrev pub of_entry_field : Result EntryField Unwritten → List ℕ → Answer
of_entry_field (Ok e) out = answer 0 (e.length ∷ e.entries ∷ []) out
of_entry_field (Err u) out = failing 2 u out

-- THE PROMISE, in the words of every call's (`Ran`). It looked at the lent bytes p, which are lent for reading alone, and answered a
pub record EntryRan (set position field : ℕ) (output p : Bytes) (a : Answer) : Type 0 where
  -- whatever abstract package the bytes hold, the answer is that of its entries
  pub ledger : (S : State) → Holds p S → a ≡ entry_at S set position field output
  -- a refusal leaves the output as it was, for all bytes
  pub kept : (a.number ≡ 0 → ⊥) → a.output ≡ output
  -- bytes that fail the test of a package are refused by 1, others by a number of document 01 other than 1
  pub foreign : is_package p ≡ false → a ≡ answer 1 (0 ∷ 0 ∷ []) output
  pub numbered : is_package p ≡ true → Numbered a.number
