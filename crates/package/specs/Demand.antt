-- Demand 1 for every call on every buffer, the test of a buffer, and demand 3 for every list of calls on one package just started.
-- `proofs/EveryCall.antt` and `proofs/EveryRun.antt` prove them.
-- Assumes nothing.
use Rattle.std.specs.Prelude.{ℕ, ◌+◌, ◌≤◌, ◌<◌, ◌≡◌, true, false, List, [], ◌∷◌, map, length, get_or}
use Rattle.output.specs.Answers.{Answer, answer}
use Rattle.model.specs.Sets.{Key, same_key, sum_of, AllPairs}
use Rattle.model.specs.Package.{State, empty, item_limit, default_limit, override_limit, relationship_limit, key_of_item, key_of_default}
use Rattle.model.specs.Package.{key_of_override, key_of_relationship, item_charge, default_charge, override_charge, relationship_charge, charge}
use Rattle.model.specs.Package.{parts}
use Rattle.model.specs.Calls.{Call, Start, Looks, Totals, step, answers, after, lent}
use Rattle.model.specs.Good.{Alone, Distinct, Underived}
use Rattle.store.specs.Packages.{is_package}
use Rattle.contract.specs.Holds.{Holds}
use Rattle.contract.specs.Ran.{Ran, Runs}

-- DEMAND 1. A call on any bytes "refuses by a number from document 01 .., and after a refusal the package and every lent output hold what
-- they held". Document 01's numbers go up to 16, document 02's so far up to 20. (That it ends, every function's theorem says.)
abbrev pub EveryCall : Type 0
EveryCall = (c : Call) (p q : List ℕ) (a : Answer) → Ran c p a q → (a.number ≤ 20) × ((a.number ≡ 0 → ⊥) → (q ≡ p) × (a.output ≡ lent c))

-- THE TEST. "packages made by these calls always pass, a buffer below 32,768 bytes or of zeros only never does"
pub record EveryTest : Type 0 where
  pub made : (b : List ℕ) (S : State) → Holds b S → is_package b ≡ true
  pub short : (b : List ℕ) → length b < 32768 → is_package b ≡ false
  pub zeros : (b : List ℕ) → ((i : ℕ) → get_or b i 0 ≡ 0) → is_package b ≡ false

-- DEMAND 3. A set: at most so many entries, and no key twice
module _ {E : Type 0} (key : E → Key) (limit : ℕ) where
  pub record Limited (xs : List E) : Type 0 where
    pub few : length xs ≤ limit
    pub single : AllPairs (λ (x y : E). same_key (key x) (key y) ≡ false) xs

-- what demand 3 says of the abstract package after every list, the first three of every two held items; and what the ledger's text says of its sets
pub record Demanded (S : State) : Type 0 where
  -- "a held whole item's name is equivalent to no other held item's prefix"
  pub alone : AllPairs Alone S.items
  -- "No piece number stands twice in a group"
  pub numbered : AllPairs Distinct S.items
  -- "no held item's prefix is derivable from another's"
  pub underived : AllPairs Underived S.items
  -- "The charge that totals then reports is the sum over the ledger's entries."
  pub totals : (room : ℕ) → (step room S (Looks Totals)).0
      ≡ answer 0
      (length S.items
      ∷ length (parts S.items)
      ∷ (sum_of item_charge S.items + sum_of default_charge S.defaults + sum_of override_charge S.overrides + sum_of relationship_charge S.relationships)
      ∷ [])
      []
  -- "At most 256, 64, 64 and 256."; "10 taken: .. an equal key"
  pub items : Limited key_of_item item_limit S.items
  pub defaults : Limited key_of_default default_limit S.defaults
  pub overrides : Limited key_of_override override_limit S.overrides
  pub relationships : Limited key_of_relationship relationship_limit S.relationships
  -- "15 .. the charge would pass C"
  pub within : charge S ≤ S.capacity

abbrev pub calls_of : List (Call × Answer) → List Call
calls_of = map (λ (t : Call × Answer). t.0)

abbrev pub answers_of : List (Call × Answer) → List Answer
answers_of = map (λ (t : Call × Answer). t.1)

-- a run from a package that holds S, to the bytes q: "every answer and every output byte equals the ledger's"
pub record AsLedger (room : ℕ) (S : State) (s : List (Call × Answer)) (q : List ℕ) : Type 0 where
  pub answered : answers_of s ≡ answers room S (calls_of s)
  pub holds : Holds q (after room S (calls_of s))
  pub demanded : Demanded (after room S (calls_of s))

-- THE STATEMENT. "For every list of these calls on one package just started, refused ones included": a start of the bytes o with the capacity C
-- was accepted and left p; s is any list of calls with their answers that ran from p to q, starts among them. Then the answers are those of
-- the ledger that begins with C and empty sets
abbrev pub EveryRun : Type 0
EveryRun = (C : ℕ) (o p q : List ℕ) (a : Answer) (s : List (Call × Answer)) → Ran (Start C) o a p → a.number ≡ 0 → Runs p s q → AsLedger (length o) (empty C) s q
