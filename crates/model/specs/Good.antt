-- What holds of the package after every list of calls: the invariants that demand 3 names, and what the engine leans on.
-- Assumes nothing.
use Rattle.std.specs.Prelude.{◌≤◌, ◌≡◌, true, false, ◌||◌, List, length}
use Rattle.chars.specs.Folding.{equivalent, derivable}
use Rattle.model.specs.Sets.{Each, AllPairs, Sorted}
use Rattle.model.specs.Fields.{prefix_of, suffix_of, whole}
use Rattle.model.specs.Package.{Item, State, Kind, item_kind, default_kind, override_kind, relationship_kind, rank, charge, disagrees}
use Rattle.model.specs.Calls.{capacity_limit}

-- a set of the kind: in the order of its keys, each key once; within its limit; no field of an entry is refused
module _ {E : Type 0} (kind : Kind E) where
  pub record GoodSet (xs : List E) : Type 0 where
    pub sorted : Sorted kind.key xs
    pub few : length xs ≤ kind.limit
    pub fielded : Each (λ (x : E). kind.fields x ≡ 0) xs

-- TWO HELD ITEMS. "a held whole item's name is equivalent to no other held item's prefix"
abbrev pub Alone : Item → Item → Type 0
Alone i j = (whole (suffix_of i.name) || whole (suffix_of j.name)) ≡ true → equivalent (prefix_of i.name) (prefix_of j.name) ≡ false

-- "No piece number stands twice in a group"
abbrev pub Distinct : Item → Item → Type 0
Distinct i j = equivalent (prefix_of i.name) (prefix_of j.name) ≡ true → rank (suffix_of i.name) ≡ rank (suffix_of j.name) → ⊥

-- "no held item's prefix is derivable from another's"
abbrev pub Underived : Item → Item → Type 0
Underived i j = (derivable (prefix_of i.name) (prefix_of j.name) ≡ false) × (derivable (prefix_of j.name) (prefix_of i.name) ≡ false)

-- one last piece at most, and none above it
abbrev pub Agreeing : Item → Item → Type 0
Agreeing i j = equivalent (prefix_of i.name) (prefix_of j.name) ≡ true → disagrees (suffix_of i.name) (suffix_of j.name) ≡ false

pub record Beside (i j : Item) : Type 0 where
  pub alone : Alone i j
  pub numbered : Distinct i j
  pub underived : Underived i j
  pub agreeing : Agreeing i j

pub record Good (S : State) : Type 0 where
  pub capacity : S.capacity ≤ capacity_limit
  -- the charge doesn't pass C
  pub within : charge S ≤ S.capacity
  pub items : GoodSet item_kind S.items
  pub beside : AllPairs Beside S.items
  pub defaults : GoodSet default_kind S.defaults
  pub overrides : GoodSet override_kind S.overrides
  pub relationships : GoodSet relationship_kind S.relationships
