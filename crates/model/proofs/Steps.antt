-- Every call keeps the package good.
-- Assumes nothing.
use Prim.Native.Nat.{ℕ, ◌+◌, ◌≤◌, ◌<◌}
use mathlib.Core.Path.{◌≡◌}
use mathlib.Core.Bool.{true, false, ◌||◌}
use mathlib.Core.List.{List, [], ◌∷◌}
use native.Mathlib.Omega.{arith}
use lib.Dec.{ltb}
use lib.ListN.{length}
use borrow.Author.Tests.{ltb-false}
use Rattle.chars.specs.Folding.{equivalent}
use Rattle.model.specs.Sets.{Bytes, Key, same_key, sum_of, insert, remove, Each, AllPairs}
use Rattle.model.specs.Fields.{prefix_of, suffix_of}
use Rattle.model.specs.Package.{Item, State, Kind, item_kind, default_kind, override_kind, relationship_kind, empty, charge, group, disagrees, grows, item_key, name_key, relationship_key, key_of_item}
use Rattle.model.specs.Cutting.{cut_made, cut_refusal}
use Rattle.model.specs.Puts.{put_refusal, put_in, taken_out, misfits, put_item_refusal, put_default_refusal, put_override_refusal}
use Rattle.model.specs.Puts.{put_relationship_refusal}
use Rattle.model.specs.Reading.{Entered, ADefault, AnOverride, ARelationship, entry_refusal, entry_made, entries_refusal, entries_made}
use Rattle.model.specs.Reading.{types_in, relationships_in, read_types_refusal, read_relationships_refusal}
use Rattle.model.specs.Calls.{Call, Start, Looks, Changes, CutPart, TypeOrigin, Prints, capacity_limit, overhead, start_refusal, cut, step, after}
use Rattle.model.specs.Calls.{Change, PutItem, DropItem, PutDefault, DropDefault, PutOverride, DropOverride, PutRelationship, DropRelationship}
use Rattle.model.specs.Calls.{JoinPart, ReadTypes, ReadRelationships, change_refusal, change_made, change}
use Rattle.model.specs.Good.{GoodSet, Beside, Good}
use Rattle.base.proofs.Bools.{or_false_left}
use Rattle.model.proofs.Lists.{each_map, each_both, any_none, any_filter_none}
use Rattle.model.proofs.Sets.{Absent, each_insert, pairs_insert, sorted_insert, each_remove, pairs_remove, sorted_remove, length_insert, length_remove}
use Rattle.model.proofs.Refusals.{all_none, unmet, picked, changed_good}
use Rattle.model.proofs.Items.{beside_new, beside_comm}
use Rattle.model.proofs.KindLaws.{Lawful, item_lawful, default_lawful, override_lawful, relationship_lawful}
use Rattle.model.proofs.Charges.{charge_put, charge_drop_le}
use Rattle.model.proofs.Puts.{put_fields, put_free, put_own, put_few, put_within}
use Rattle.model.proofs.Cutting.{cut_good, join_good}

-- SETS OF A KIND
module _ {E : Type 0} (kind : Kind E) where
  pub empty_set : GoodSet kind []
  empty_set = record { sorted = tt; few = omega arith; fielded = tt }

  pub insert_set : (e : E) (xs : List E) → GoodSet kind xs → Absent kind.key (kind.key e) xs → kind.fields e ≡ 0 →
      length xs < kind.limit →
      GoodSet kind (insert kind.key e xs)
  insert_set e xs g free f l = record {
    sorted = sorted_insert kind.key e xs free g.sorted;
    few = omega (arith, length_insert kind.key e xs);
    fielded = each_insert kind.key (λ (x : E). kind.fields x ≡ 0) e xs f g.fielded;
  }

  pub remove_set : (k : Key) (xs : List E) → GoodSet kind xs → GoodSet kind (remove kind.key k xs)
  remove_set k xs g = record {
    sorted = sorted_remove kind.key k xs g.sorted;
    few = omega (arith, length_remove kind.key k xs, g.few);
    fielded = each_remove kind.key (λ (x : E). kind.fields x ≡ 0) k xs g.fielded;
  }

-- START
pub empty_good : (C : ℕ) → C ≤ capacity_limit → Good (empty C)
unfolding charge sum_of
empty_good C h = record {
  capacity = h;
  within = omega arith;
  items = empty_set item_kind;
  beside = tt;
  defaults = empty_set default_kind;
  overrides = empty_set override_kind;
  relationships = empty_set relationship_kind;
}

pub start_good : (room C : ℕ) → start_refusal room C ≡ 0 → Good (empty C)
unfolding start_refusal
start_good room C h =
    let p₂ : 0 < 2 = omega arith in
    let e = unmet (ltb capacity_limit C || ltb room (C + overhead)) 2 p₂ h in
    empty_good C (ltb-false capacity_limit C (or_false_left (ltb capacity_limit C) (ltb room (C + overhead)) e))

-- CHANGES OF A KIND; what they ask of the items, they do not ask of another set
module _ {E : Type 0} (kind : Kind E) (L : Lawful kind) (S : State) (g : Good S) where
  pub put_good : (e : E) (own : List ℕ) → put_refusal kind S e own ≡ 0 → AllPairs Beside (put_in kind S e).items → Good (put_in kind S e)
  put_good e own h =
      L.good S (insert kind.key e (kind.entries S)) g
      (insert_set kind e (kind.entries S) (L.set S g) (put_free kind S e own h) (put_fields kind S e own h) (put_few kind S e own h))
      (omega (arith, charge_put kind L S e, put_within kind S e own h))

  pub drop_good : (k : Key) → AllPairs Beside (taken_out kind S k).items → Good (taken_out kind S k)
  drop_good k =
      L.good S (remove kind.key k (kind.entries S)) g (remove_set kind k (kind.entries S) (L.set S g))
      (omega (arith, charge_drop_le kind L S k, g.within))

-- ITEMS. What 10, 12 and 11 leave of a new one: it stands beside every held one
module _ (S : State) (new : Item) (h : put_refusal item_kind S new (misfits new.name S.items) ≡ 0) where
  new_beside : Each (Beside new) S.items
  unfolding group
  new_beside =
      let z = put_own item_kind S new (misfits new.name S.items) h in
      let p₁₁ : 0 < 11 = omega arith in
      let p₁₂ : 0 < 12 = omega arith in
      let free : Absent key_of_item (item_key new.name) S.items = put_free item_kind S new (misfits new.name S.items) h in
      let agree =
      any_filter_none (λ (i : Item). disagrees (suffix_of new.name) (suffix_of i.name))
      (λ (i : Item). equivalent (prefix_of i.name) (prefix_of new.name)) S.items (unmet _ 12 p₁₂ z.0) in
      let apart = any_none (λ (i : Item). grows (prefix_of new.name) (prefix_of i.name)) S.items (unmet _ 11 p₁₁ z.1.0) in
      each_both (λ (i : Item). Free i × Agree i) (λ (i : Item). grows (prefix_of new.name) (prefix_of i.name) ≡ false) (Beside new)
      S.items
      (λ i a b. beside_new new i a.0 a.1 b)
      (each_both Free Agree (λ (i : Item). Free i × Agree i) S.items (λ i a b. (a, b)) free agree) apart
    where
      Free : Item → Type 0
      Free i = same_key (item_key new.name) (key_of_item i) ≡ false

      Agree : Item → Type 0
      Agree i = equivalent (prefix_of i.name) (prefix_of new.name) ≡ true → disagrees (suffix_of new.name) (suffix_of i.name)
          ≡ false

  pub put_beside : AllPairs Beside S.items → AllPairs Beside (insert key_of_item new S.items)
  put_beside b =
      pairs_insert key_of_item Beside new S.items new_beside
      (each_map (Beside new) (λ (i : Item). Beside i new) S.items (λ i b. beside_comm new i b) new_beside) b

-- ENTRIES OF A STREAM, put in one after the other
pub entry_good : (S : State) (e : Entered) → Good S → entry_refusal S e ≡ 0 → Good (entry_made S e)
unfolding put_default_refusal put_override_refusal put_relationship_refusal
entry_good S (ADefault d) g h = put_good default_kind default_lawful S g d [] h g.beside
entry_good S (AnOverride o) g h = put_good override_kind override_lawful S g o [] h g.beside
entry_good S (ARelationship r) g h = put_good relationship_kind relationship_lawful S g r [] h g.beside

pub entries_good : (S : State) (es : List Entered) → Good S → entries_refusal S es ≡ 0 → Good (entries_made S es)
unfolding entries_refusal entries_made
entries_good S [] g h = g
entries_good S (e ∷ es) g h =
    let z = all_none _ h in
    entries_good (entry_made S e) es (entry_good S e g z.0) z.1.0

-- EVERY CHANGE
pub made_good : (S : State) (c : Change) → Good S → change_refusal S c ≡ 0 → Good (change_made S c)
unfolding put_item_refusal put_default_refusal put_override_refusal put_relationship_refusal read_types_refusal read_relationships_refusal
made_good S (PutItem name bytes) g h = put_good item_kind item_lawful S g _ (misfits name S.items) h (put_beside S _ h g.beside)
made_good S (DropItem name) g h =
    drop_good item_kind item_lawful S g (item_key name) (pairs_remove key_of_item Beside (item_key name) S.items g.beside)
made_good S (PutDefault extension type) g h = put_good default_kind default_lawful S g _ [] h g.beside
made_good S (DropDefault extension) g h = drop_good default_kind default_lawful S g (name_key extension) g.beside
made_good S (PutOverride name type) g h = put_good override_kind override_lawful S g _ [] h g.beside
made_good S (DropOverride name) g h = drop_good override_kind override_lawful S g (name_key name) g.beside
made_good S (PutRelationship source id type mode target) g h = put_good relationship_kind relationship_lawful S g _ [] h g.beside
made_good S (DropRelationship source id) g h = drop_good relationship_kind relationship_lawful S g (relationship_key source id) g.beside
made_good S (JoinPart name) g h = join_good S name g h
made_good S (ReadTypes stream) g h = entries_good S (types_in stream) g (all_none _ h).1.0
made_good S (ReadRelationships source stream) g h = entries_good S (relationships_in source stream) g (all_none _ h).1.1.0

pub change_good : (S : State) (c : Change) → Good S → Good (change S c).1
unfolding change
change_good S c g = changed_good (change_refusal S c) S (change_made S c) g (made_good S c g)

pub cut_step_good : (S : State) (name : Bytes) (n : ℕ) → Good S → Good (cut S name n).1
unfolding cut
cut_step_good S name n g = picked (cut_refusal S name n) S (cut_made S name n) Good _ _ g (cut_good S name n g)

-- A LIST OF CALLS
pub step_good : (room : ℕ) (S : State) (c : Call) → Good S → Good (step room S c).1
step_good room S (Start C) g = changed_good (start_refusal room C) S (empty C) g (start_good room C)
step_good room S (Looks q) g = g
step_good room S (Changes c) g = change_good S c g
step_good room S (CutPart name n) g = cut_step_good S name n g
step_good room S (TypeOrigin name output) g = g
step_good room S (Prints p out) g = g

pub after_good : (room : ℕ) (S : State) (cs : List Call) → Good S → Good (after room S cs)
unfolding after
after_good room S [] g = g
after_good room S (c ∷ cs) g = after_good room (step room S c).1 cs (step_good room S c g)

-- from a package that an accepted start has just left
pub reachable_good : (room C : ℕ) (cs : List Call) → start_refusal room C ≡ 0 → Good (after room (empty C) cs)
reachable_good room C cs h = after_good room (empty C) cs (start_good room C h)
