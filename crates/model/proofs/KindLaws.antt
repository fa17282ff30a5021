-- What the four kinds of sets have in common: where the entries of one are renewed, the rest of the package stays.
-- Assumes nothing.
use Prim.Native.Nat.{◌+◌, ◌≤◌}
use mathlib.Core.Path.{◌≡◌, refl}
use mathlib.Core.List.{List}
use native.Mathlib.Omega.{arith}
use Rattle.model.specs.Sets.{sum_of, AllPairs}
use Rattle.model.specs.Package.{State, Kind, item_kind, default_kind, override_kind, relationship_kind, charge}
use Rattle.model.specs.Good.{GoodSet, Beside, Good}

module _ {E : Type 0} (kind : Kind E) where
  pub record Lawful : Type 0 where
    -- the new entries are the set's, and take the place of what was there; the own ones change nothing
    pub own : (S : State) (l : List E) → kind.entries (kind.renewed S l) ≡ l
    pub same : (S : State) → kind.renewed S (kind.entries S) ≡ S
    pub again : (S : State) (l m : List E) → kind.renewed (kind.renewed S l) m ≡ kind.renewed S m
    pub capacity : (S : State) (l : List E) → (kind.renewed S l).capacity ≡ S.capacity
    pub charged : (S : State) (l : List E) → charge (kind.renewed S l) + sum_of kind.charge (kind.entries S)
        ≡ charge S + sum_of kind.charge l
    -- a good package has a good set, and stays good with another one that the capacity and the items bear
    pub set : (S : State) → Good S → GoodSet kind (kind.entries S)
    pub good : (S : State) (l : List E) → Good S → GoodSet kind l → charge (kind.renewed S l) ≤ S.capacity →
        AllPairs Beside (kind.renewed S l).items → Good (kind.renewed S l)

pub item_lawful : Lawful item_kind
unfolding charge
item_lawful = record {
  own = λ S l. refl;
  same = λ S. refl;
  again = λ S l m. refl;
  capacity = λ S l. refl;
  charged = λ S l. omega arith;
  set = λ S g. g.items;
  good = λ S l g s w b. record {
    capacity = g.capacity;
    within = w;
    items = s;
    beside = b;
    defaults = g.defaults;
    overrides = g.overrides;
    relationships = g.relationships;
  };
}

pub default_lawful : Lawful default_kind
unfolding charge
default_lawful = record {
  own = λ S l. refl;
  same = λ S. refl;
  again = λ S l m. refl;
  capacity = λ S l. refl;
  charged = λ S l. omega arith;
  set = λ S g. g.defaults;
  good = λ S l g s w b. record {
    capacity = g.capacity;
    within = w;
    items = g.items;
    beside = b;
    defaults = s;
    overrides = g.overrides;
    relationships = g.relationships;
  };
}

pub override_lawful : Lawful override_kind
unfolding charge
override_lawful = record {
  own = λ S l. refl;
  same = λ S. refl;
  again = λ S l m. refl;
  capacity = λ S l. refl;
  charged = λ S l. omega arith;
  set = λ S g. g.overrides;
  good = λ S l g s w b. record {
    capacity = g.capacity;
    within = w;
    items = g.items;
    beside = b;
    defaults = g.defaults;
    overrides = s;
    relationships = g.relationships;
  };
}

pub relationship_lawful : Lawful relationship_kind
unfolding charge
relationship_lawful = record {
  own = λ S l. refl;
  same = λ S. refl;
  again = λ S l m. refl;
  capacity = λ S l. refl;
  charged = λ S l. omega arith;
  set = λ S g. g.relationships;
  good = λ S l g s w b. record {
    capacity = g.capacity;
    within = w;
    items = g.items;
    beside = b;
    defaults = g.defaults;
    overrides = g.overrides;
    relationships = s;
  };
}
