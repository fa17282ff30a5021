-- A row found by its key, put in, taken out: each way out of the functions that do it.
-- Assumes nothing.
use Prim.Native.Nat.{ℕ, suc, ◌+◌, ◌-◌, ◌≤◌, ◌<◌}
use mathlib.Core.Path.{◌≡◌, refl, ap, ap₂, sym, ◌∙◌}
use mathlib.Core.Bool.{Bool, true, false, not, ◌||◌, cond, true≢false}
use mathlib.Core.List.{List, [], ◌∷◌, ◌++◌}
use mathlib.Core.Option.{none, some}
use native.Mathlib.Omega.{arith}
use lib.Dec.{leb, ltb, eqb}
use lib.ListN.{length, get_or, take, drop}
use borrow.Author.Tests.{lt-ltb, le-ltb, le-leb, lt-leb, leb-true, leb-false, ltb-true, ltb-false}
use Rattle.output.specs.Refusals.{number}
use Rattle.output.specs.declared.refusals.Refusal.{Refusal}
use Rattle.output.proofs.Answering.{number_some}
use Rattle.model.specs.Sets.{Bytes, Key, before, same_key, held, lookup, insert, remove}
use Rattle.model.specs.Places.{bound, place, spot}
use Rattle.model.specs.Fields.{when, first}
use Rattle.model.specs.Calls.{done, refused, Numbered}
use Rattle.model.proofs.Numbers.{numbered, zero_numbered}
use Rattle.base.proofs.Bools.{not_passing}
use Rattle.model.proofs.Refusals.{first_met, first_unmet, first_one, all_none, unmet}
use Rattle.model.proofs.KeyOrders.{same_key_sym}
use Rattle.model.proofs.Sets.{absent}
use Rattle.model.proofs.Places.{insert_at_lem, remove_at_lem, lookup_at, lookup_none, bound_hit, bound_miss, bound_place}
use Rattle.model.proofs.Walks.{first_le}
use Rattle.store.specs.Layout.{count_of, used_of, cap_of, slot_count}
use Rattle.store.specs.Rows.{Row, no_row, make_row, row_size, row_at, rows_of, insert_at, remove_at}
use Rattle.store.specs.Packages.{Sound, Became, Room, Inserted, Removed}
use Rattle.store.proofs.Headers.{rows_count, row_get_or}
use Rattle.contract.specs.Rows.{default_tag, override_tag, set_of, key_in, row_key}
use Rattle.contract.specs.Searches.{Ordered, Bounded, Placed}
use Rattle.contract.specs.Entries.{Sought, Taken, row_count, RowsCounted, SetFull, key_taken, no_row_room, row_refusal, Roomy, Weighed, Entered, Dropped}

-- an entry is held where its spot is one of the list
pub held_spot : {E : Type 0} (key : E → Key) (k : Key) (xs : List E) → held (lookup key k xs) ≡ ltb (spot key k xs) (length xs)
held_spot {E} key k xs = go (ltb (spot key k xs) (length xs)) refl
  where
    go : (t : Bool) → ltb (spot key k xs) (length xs) ≡ t → held (lookup key k xs) ≡ t
    go true e = held_some xs (ltb-true (spot key k xs) (length xs) e)
      where
        held_some : (ys : List E) → spot key k ys < length ys → held (lookup key k ys) ≡ true
        held_some [] l = absurd (omega arith)
        held_some (y ∷ ys) l = ap held (lookup_at key k (y ∷ ys) y l)
    go false e = ap held (lookup_none key k xs (ltb-false (spot key k xs) (length xs) e))

-- FINDING
module _ (b : List ℕ) (k : Key) (r : ℕ) (z : Bool) (p : Placed b k r z) where
  -- the row at the place has the key
  place_here : Ordered b → z ≡ true → r ≡ spot row_key k (rows_of b)
  place_here q e =
      let l = p.inside e in
      let f = p.bounded.is q in
      let n = rows_count b in
      let s : same_key k (row_key (get_or (rows_of b) (bound row_key k (rows_of b)) no_row)) ≡ true =
      ap (λ (x : Row). same_key k (row_key x)) (ap (λ (i : ℕ). get_or (rows_of b) i no_row) (sym f) ∙ row_get_or b r l)
      ∙ same_key_sym (row_key (row_at b r)) k (sym (p.has q l) ∙ e) in
      f ∙ sym (bound_hit row_key k (rows_of b) no_row q.sorted (omega arith) s)

  -- no row has it
  place_none : Ordered b → z ≡ false → lookup row_key k (rows_of b) ≡ none
  place_none q e =
      let f = p.bounded.is q in
      bound_miss row_key k (rows_of b) no_row q.sorted
      (λ l. ap (λ (x : Row). same_key k (row_key x)) (ap (λ (i : ℕ). get_or (rows_of b) i no_row) (sym f) ∙ row_get_or b r (omega (arith, rows_count b)))
      ∙ not_passing (same_key k (row_key (row_at b r)))
      (λ y. true≢false (sym (same_key_sym k (row_key (row_at b r)) y) ∙ sym (p.has q (omega (arith, rows_count b))) ∙ e)))

  pub taken_placed : Taken b k z
  taken_placed = record { is = λ q. go q z refl }
    where
      go : Ordered b → (y : Bool) → z ≡ y → y ≡ held (lookup row_key k (rows_of b))
      go q true e =
          let l = p.inside e in
          sym (held_spot row_key k (rows_of b) ∙ lt-ltb (spot row_key k (rows_of b)) (length (rows_of b)) (omega (arith, place_here q e, rows_count b)))
      go q false e = sym (ap held (place_none q e))

  pub sought_here : z ≡ true → Sought b k r
  sought_here e = record { within = p.bounded.within; is = λ q. place_here q e }

  pub sought_none : (m : ℕ) → m ≡ count_of b → z ≡ false → Sought b k m
  sought_none m em e = record {
    within = omega arith;
    is = λ q.
        let y = sym (held_spot row_key k (rows_of b)) ∙ ap held (place_none q e) in
        omega (arith, rows_count b, ltb-false (spot row_key k (rows_of b)) (length (rows_of b)) y, first_le (λ (x : Row). same_key k (row_key x)) (rows_of b));
  }

-- the row that is found
module _ (b : List ℕ) (q : Ordered b) (k : Key) (r : ℕ) (er : Sought b k r) where
  pub row_here : r < count_of b → lookup row_key k (rows_of b) ≡ some (row_at b r)
  row_here l =
      let e = er.is q in
      lookup_at row_key k (rows_of b) no_row (omega (arith, rows_count b)) ∙ ap (λ (i : ℕ). some (get_or (rows_of b) i no_row)) (sym e) ∙ ap some (row_get_or b r l)

  pub row_none : count_of b ≤ r → lookup row_key k (rows_of b) ≡ none
  row_none l = let e = er.is q in lookup_none row_key k (rows_of b) (omega (arith, rows_count b))

-- COUNTING
module _ (b : List ℕ) (n m f t : ℕ) (em : m ≡ suc n) (ef : Bounded b (key_in n [] 0 []) f) (et : Bounded b (key_in m [] 0 []) t) where
  pub counted : (r : ℕ) → r ≡ t - f → RowsCounted b n r
  counted r e = record { is = λ q. e ∙ ap₂ ◌-◌ (et.is q ∙ ap (λ (i : ℕ). bound row_key (key_in i [] 0 []) (rows_of b)) em) (ef.is q) }

-- ROOM
pub room_left : (room a b c d : ℕ) → a ≤ room → b ≤ room - a → c ≤ room - a - b → leb d (room - a - b - c) ≡ leb (a + (b + (c + d))) room
room_left room a b c d h i j = go (leb d (room - a - b - c)) refl
  where
    go : (t : Bool) → leb d (room - a - b - c) ≡ t → t ≡ leb (a + (b + (c + d))) room
    go true e = sym (le-leb (a + (b + (c + d))) room (omega (arith, leb-true d (room - a - b - c) e)))
    go false e = sym (lt-leb (a + (b + (c + d))) room (omega (arith, leb-false d (room - a - b - c) e)))

-- TAKING OUT
module _ (b : List ℕ) (k : Key) (r : ℕ) (z : Bool) (p : Placed b k r z) where
  pub drop_missing : z ≡ false → Dropped b k (refused 13) b
  drop_missing e = record {
    kept = λ _. (refl, refl);
    numbered = numbered 13 (omega arith) (omega arith);
    missing = λ _ _. refl;
    made = λ q h. absurd (true≢false (sym h ∙ sym ((taken_placed b k r z p).is q) ∙ e));
  }

  removed_is : (q : List ℕ) → z ≡ true → Removed b q r → Ordered b → Became b q (remove row_key k (rows_of b))
  unfolding remove_at
  removed_is q y x o =
      let l = p.inside y in
      let e = place_here b k r z p o y in
      let n = rows_count b in
      let j : spot row_key k (rows_of b) < length (rows_of b) = omega arith in
      let s : r + 1 ≡ suc (spot row_key k (rows_of b)) = omega arith in
      record {
        sound = x.sound;
        rows = x.rows ∙ ap₂ (λ (i j : ℕ). take i (rows_of b) ++ drop j (rows_of b)) e s ∙ sym (remove_at_lem row_key k (rows_of b) j);
        cap = x.cap;
        format = x.format;
      }

  pub drop_done : (q : List ℕ) → z ≡ true → (Sound b → Removed b q r) → Dropped b k done q
  drop_done q e rm = record {
    kept = λ z. absurd (z refl);
    numbered = zero_numbered;
    missing = λ o h. absurd (true≢false (sym e ∙ (taken_placed b k r z p).is o ∙ h));
    made = λ o h. (refl, removed_is q e (rm o.sound) o);
  }

-- PUTTING IN. Whether a set is full: not where all rows together are fewer than its limit
module _ (b : List ℕ) (set limit : ℕ) where
  pub full_few : (m : ℕ) → m ≡ length (rows_of b) → m < limit → SetFull b set limit false
  full_few m e l =
      let t = first_le (λ (x : Row). not (before (row_key x) (key_in (suc set) [] 0 []))) (rows_of b) in
      record { is = λ _. sym (lt-leb limit (row_count set (rows_of b)) (omega arith)) }

  pub full_counted : (n : ℕ) → RowsCounted b set n → (z : Bool) → z ≡ leb limit n → SetFull b set limit z
  full_counted n en z ez = record { is = λ q. ez ∙ ap (leb limit) (en.is q) }

-- whether there is room
module _ (b : List ℕ) (set limit size : ℕ) (w : Bool) (ew : SetFull b set limit w) where
  room_is : Ordered b → no_row_room b set limit size ≡ (w || leb slot_count (count_of b) || ltb (cap_of b) (used_of b + size))
  room_is q = ap (λ (c : Bool). c || leb slot_count (count_of b) || ltb (cap_of b) (used_of b + size)) (sym (ew.is q))

  none_left : (Ordered b → no_row_room b set limit size ≡ true) → Roomy b set limit size false
  none_left f = record { is = λ q. sym (f q); room = λ e. absurd (true≢false (sym e)) }

  pub roomy_many : w ≡ true → Roomy b set limit size false
  roomy_many g = none_left (λ q. room_is q ∙ rw g)

  module _ (g : w ≡ false) (m : ℕ) (em : m ≡ count_of b) where
    pub roomy_slots : slot_count ≤ m → Roomy b set limit size false
    roomy_slots h = none_left (λ q. room_is q ∙ rw (g, le-leb slot_count (count_of b) (omega arith)))

    pub roomy_bytes : m < slot_count → (f : ℕ) → f + used_of b ≡ cap_of b → (z : Bool) → z ≡ leb size f → Roomy b set limit size z
    roomy_bytes h f ef z ez = go z ez
      where
        slots : (y : Bool) → ltb (cap_of b) (used_of b + size) ≡ y → Ordered b → no_row_room b set limit size ≡ y
        slots y e q = room_is q ∙ rw (g, lt-leb slot_count (count_of b) (omega arith)) e

        go : (y : Bool) → y ≡ leb size f → Roomy b set limit size y
        go true e =
            let o = leb-true size f (sym e) in
            record {
              is = λ q. sym (slots false (le-ltb (cap_of b) (used_of b + size) (omega arith)) q);
              room = λ _. (omega arith, omega arith);
            }
        go false e =
            let o = leb-false size f (sym e) in
            none_left (λ q. slots true (lt-ltb (cap_of b) (used_of b + size) (omega arith)) q)

-- the refusal of a new row
module _ (b : List ℕ) (own limit t : ℕ) (f0 f1 f2 f3 : Bytes) (set : ℕ) (taken : Bool) (es : set ≡ set_of t)
    (et : Taken b (key_in set f0 t f1) taken) where
  abbrev X : Row
  X = make_row t f0 f1 f2 f3

  abbrev full : ℕ
  full = when (no_row_room b (set_of t) limit (row_size X)) 15

  taken_is : Ordered b → (y : Bool) → taken ≡ y → key_taken b X ≡ y
  taken_is q y e =
      ap (λ (n : ℕ). held (lookup row_key (key_in n f0 t f1) (rows_of b))) (sym es) ∙ sym (et.is q) ∙ e

  pub weighed_taken : taken ≡ true → Weighed b own limit X 10
  weighed_taken l = record {
    is = λ q.
        sym (ap (λ (y : Bool). first (when y 10 ∷ own ∷ full ∷ [])) (taken_is q true l)
        ∙ first_met 10 (own ∷ full ∷ []) (λ e. omega arith));
    room = λ z. absurd (omega arith);
    numbered = numbered 10 (omega arith) (omega arith);
  }

  module _ (l : taken ≡ false) where
    untaken : Ordered b → row_refusal b own limit X ≡ first (own ∷ full ∷ [])
    untaken q =
        ap (λ (y : Bool). first (when y 10 ∷ own ∷ full ∷ [])) (taken_is q false l) ∙ first_unmet 0 (own ∷ full ∷ []) refl

    pub weighed_own : (own ≡ 0 → ⊥) → Numbered own → Weighed b own limit X own
    weighed_own z n = record { is = λ q. sym (untaken q ∙ first_met own (full ∷ []) z); room = λ e. absurd (z e); numbered = n }

    module _ (z : own ≡ 0) (w : Bool) (ew : Roomy b set limit (row_size X) w) where
      weighed_is : Ordered b → (y : Bool) → w ≡ y → row_refusal b own limit X ≡ when (not y) 15
      weighed_is q y e =
          untaken q ∙ first_unmet own (full ∷ []) z ∙ first_one full
          ∙ ap (λ (n : ℕ). when (no_row_room b n limit (row_size X)) 15) (sym es)
          ∙ ap (λ (c : Bool). when c 15) (sym (ew.is q)) ∙ ap (λ (v : Bool). when (not v) 15) e

      pub weighed_clear : w ≡ true → Weighed b own limit X 0
      weighed_clear e = record { is = λ q. sym (weighed_is q true e); room = λ _. ew.room e; numbered = zero_numbered }

      pub weighed_full : w ≡ false → Weighed b own limit X 15
      weighed_full e = record {
        is = λ q. sym (weighed_is q false e);
        room = λ y. absurd (omega arith);
        numbered = numbered 15 (omega arith) (omega arith);
      }

-- a row that is refused
pub entered_refused : (b : List ℕ) (own limit : ℕ) (x : Row) (r : Refusal) → Weighed b own limit x (number r)
    → Entered b own limit x (refused (number r)) b
entered_refused b own limit x r w = record {
  kept = λ _. (refl, refl);
  numbered = w.numbered;
  stopped = λ q _. ap refused (w.is q);
  made = λ q e. absurd (number_some r (w.is q ∙ e));
}

-- the row put in
module _ (b : List ℕ) (own limit t : ℕ) (f0 f1 f2 f3 : Bytes) (w : Weighed b own limit (make_row t f0 f1 f2 f3) 0) where
  module _ (set r : ℕ) (es : set ≡ set_of t) (eb : Bounded b (key_in set f0 t f1) r) where
    pub entered_room : Room b r (length f0 + (length f1 + (length f2 + length f3)))
    entered_room = record { at = eb.within; more = (w.room refl).0; fits = (w.room refl).1 }

    inserted_is : (q : List ℕ) → Inserted b q r (make_row t f0 f1 f2 f3) → Ordered b → Became b q (insert row_key (make_row t f0 f1 f2 f3) (rows_of b))
    unfolding insert_at
    inserted_is q x o =
        let X = make_row t f0 f1 f2 f3 in
        let K = row_key X in
        let free : key_taken b X ≡ false = unmet (key_taken b X) 10 (omega arith) (all_none _ (sym (w.is o))).0 in
        let e : r ≡ place row_key K (rows_of b) =
        eb.is o ∙ ap (λ (n : ℕ). bound row_key (key_in n f0 t f1) (rows_of b)) es
        ∙ bound_place row_key K (rows_of b) (absent row_key K (rows_of b) free) in
        record {
          sound = x.sound;
          rows = x.rows ∙ ap (λ (i : ℕ). take i (rows_of b) ++ (X ∷ drop i (rows_of b))) e ∙ sym (insert_at_lem row_key X (rows_of b));
          cap = x.cap;
          format = x.format;
        }

    pub entered_made : (q : List ℕ) → (Sound b → Inserted b q r (make_row t f0 f1 f2 f3)) →
        Entered b own limit (make_row t f0 f1 f2 f3) done q
    entered_made q ins = record {
      kept = λ y. absurd (y refl);
      numbered = zero_numbered;
      stopped = λ o y. absurd (y (sym (w.is o)));
      made = λ o _. (refl, inserted_is q (ins o.sound) o);
    }

pub set_le : (t : ℕ) → set_of t ≤ 3
unfolding set_of
set_le t = go (ltb t default_tag) (eqb t default_tag) (eqb t override_tag)
  where
    go : (x y z : Bool) → cond x 0 (cond y 1 (cond z 2 3)) ≤ 3
    go true y z = omega arith
    go false true z = omega arith
    go false false true = omega arith
    go false false false = omega arith
