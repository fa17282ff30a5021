-- A name that a call is given, taken apart; and where its item stands. These are promises of inner functions.
-- Assumes nothing.
use Rattle.std.specs.Prelude.{ℕ, ◌≤◌, ◌<◌, ◌≡◌, List, length, get_or, Result, Ok, Err}
use Rattle.std.proofs.Math.Option.{none, some}
use Rattle.output.specs.declared.refusals.Refusal.{Refusal}
use Rattle.output.specs.Refusals.{number}
use Rattle.model.specs.Sets.{Bytes}
use Rattle.model.specs.Fields.{prefix_of, suffix_of}
use Rattle.model.specs.Package.{State, no_item, item_key, key_of_item, item_at}
use Rattle.model.specs.Places.{spot}
use Rattle.store.specs.Layout.{count_of}
use Rattle.contract.specs.Rows.{tag_of}
use Rattle.contract.specs.Holds.{Holds}
use Rattle.items.specs.declared.wanted.Wanted.{Wanted}

-- w is the answer to a name with the refusal k, 0 for none
abbrev pub wanted : ℕ → Bytes → Result Wanted Refusal → Type 0
wanted k s (Ok w) = (w.prefix ≡ length (prefix_of s)) × (w.tag ≡ tag_of (suffix_of s)) × (k ≡ 0)
wanted k s (Err r) = number r ≡ k

-- row r is that of the item which the name s asks for; past the last row if there is none
pub record Found (b : List ℕ) (s : Bytes) (S : State) (r : ℕ) : Type 0 where
  pub within : r < count_of b → r < length S.items
  pub found : r < count_of b → item_at s S.items ≡ some (get_or S.items r no_item)
  pub place : r < count_of b → r ≡ spot key_of_item (item_key s) S.items
  pub missing : count_of b ≤ r → item_at s S.items ≡ none

pub record Located (b : List ℕ) (s : Bytes) (r : ℕ) : Type 0 where
  pub low : r ≤ count_of b
  pub is : (S : State) → Holds b S → Found b s S r
