-- A put, whichever the kind: its refusals in steps; what an accepted one leaves of them, and that its entry is found.
-- Assumes nothing.
use Prim.Native.Nat.{ℕ, ◌+◌, ◌≤◌, ◌<◌}
use mathlib.Core.Path.{◌≡◌, ap}
use mathlib.Core.Bool.{false, cond}
use mathlib.Core.List.{List, [], ◌∷◌}
use mathlib.Core.Option.{some}
use native.Mathlib.Omega.{arith}
use lib.Dec.{eqb}
use lib.ListN.{length}
use Rattle.model.specs.Sets.{Bytes, held, lookup, insert, Each}
use Rattle.model.specs.Fields.{when, first, item_field}
use Rattle.model.specs.Package.{State, Kind, item_kind, item_limit, charge}
use Rattle.model.specs.Puts.{no_room, put_refusal, misfits, clash, put_item_refusal}
use Rattle.model.proofs.Lists.{each_left, each_right}
use Rattle.model.proofs.Sets.{Absent, absent, lookup_insert}
use Rattle.model.proofs.Refusals.{first_append, all_none, unmet, room_count, room_charge}

-- a put in three steps: the fields, what is held, the room
pub put_steps : {E : Type 0} (kind : Kind E) (S : State) (e : E) (own : List ℕ) →
    put_refusal kind S e own
    ≡ first
    (kind.fields e
    ∷ first (when (held (lookup kind.key (kind.key e) (kind.entries S))) 10 ∷ own)
    ∷ when (no_room kind.limit (length (kind.entries S)) (kind.charge e) S) 15
    ∷ [])
unfolding first
put_steps kind S e own =
    let taken = when (held (lookup kind.key (kind.key e) (kind.entries S))) 10 in
    ap (λ (n : ℕ). cond (eqb (kind.fields e) 0) n (kind.fields e)) (first_append (taken ∷ own) _)

-- of an item, what is held beside it is its clash
pub put_item_steps : (S : State) (name bytes : Bytes) →
    put_item_refusal S name bytes
    ≡ first
    (item_field name
    ∷ clash name S.items
    ∷ when (no_room item_limit (length S.items) (length name + length bytes) S) 15
    ∷ [])
unfolding put_item_refusal clash
put_item_steps S name bytes = put_steps item_kind S (record { name = name; bytes = bytes }) (misfits name S.items)

-- what is known where none is met
module _ {E : Type 0} (kind : Kind E) (S : State) (e : E) (own : List ℕ) (h : put_refusal kind S e own ≡ 0) where
  abbrev full : ℕ
  full = when (no_room kind.limit (length (kind.entries S)) (kind.charge e) S) 15

  pub put_fields : kind.fields e ≡ 0
  put_fields = (all_none _ h).0

  pub put_free : Absent kind.key (kind.key e) (kind.entries S)
  put_free =
      absent kind.key (kind.key e) (kind.entries S)
      (unmet (held (lookup kind.key (kind.key e) (kind.entries S))) 10 (omega arith) (all_none _ h).1.0)

  pub put_own : Each (λ (n : ℕ). n ≡ 0) own
  put_own = each_left (λ (n : ℕ). n ≡ 0) own (full ∷ []) (all_none _ h).1.1

  roomy : no_room kind.limit (length (kind.entries S)) (kind.charge e) S ≡ false
  roomy =
      unmet (no_room kind.limit (length (kind.entries S)) (kind.charge e) S) 15 (omega arith)
      (each_right (λ (n : ℕ). n ≡ 0) own (full ∷ []) (all_none _ h).1.1).0

  pub put_few : length (kind.entries S) < kind.limit
  put_few = room_count kind.limit (length (kind.entries S)) (kind.charge e) S roomy

  pub put_within : charge S + kind.charge e ≤ S.capacity
  put_within = room_charge kind.limit (length (kind.entries S)) (kind.charge e) S roomy

  pub put_found : lookup kind.key (kind.key e) (insert kind.key e (kind.entries S)) ≡ some e
  put_found = lookup_insert kind.key e (kind.entries S) put_free
