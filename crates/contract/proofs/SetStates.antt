-- A change of one set in a buffer that holds a package: what its rows tell of the set, and the state after a drop and a put.
-- Assumes nothing.
use Prim.Native.Nat.{ℕ, ◌+◌, ◌≤◌, ◌<◌}
use mathlib.Core.Path.{◌≡◌, refl, ap, ap₂, sym, ◌∙◌, subst}
use mathlib.Core.Bool.{Bool, true, false, not, ◌||◌}
use mathlib.Core.List.{List, [], ◌∷◌}
use mathlib.Core.Option.{Option, none, some}
use native.Mathlib.Omega.{arith}
use lib.Dec.{leb, ltb, eqb}
use lib.ListN.{length}
use borrow.Author.Tests.{leb-false, lt-leb, eqb-true, eqb-false}
use Rattle.output.specs.Answers.{Answer}
use Rattle.model.specs.Sets.{Key, held, lookup, insert, remove}
use Rattle.model.specs.Fields.{when, first}
use Rattle.model.specs.Package.{State, charge}
use Rattle.model.specs.Puts.{no_room, put_refusal, put_in, taken_out}
use Rattle.model.specs.Calls.{Change, done, refused, changed, change, change_refusal, change_made}
use Rattle.store.specs.Layout.{count_of, used_of, slot_count}
use Rattle.store.specs.Rows.{Row, row_size, rows_of}
use Rattle.store.specs.Packages.{Became}
use Rattle.contract.specs.Rows.{set_of, set_key, row_key, RowKind, rows_for}
use Rattle.contract.specs.Holds.{Lies, Holds}
use Rattle.contract.specs.Searches.{Ordered}
use Rattle.contract.specs.Entries.{row_count, key_taken, no_row_room, Entered, Dropped, row_refusal}
use Rattle.contract.proofs.RowKinds.{RowLawful}
use Rattle.contract.proofs.RowOrders.{holds_ordered}
use Rattle.contract.proofs.RowCharges.{used_charge, count_rows}
use Rattle.contract.proofs.Rans.{changed_refused}
use Rattle.model.proofs.Refusals.{all_none, none_all, changed_done}
use Rattle.contract.proofs.SetRows.{row_for, set_lookup, set_remove, set_insert, set_count}

-- the buffer then holds the package T
pub lies_in : (b : List ℕ) (S : State) → Holds b S → (q : List ℕ) (T : State) (rs : List Row) → Became b q rs → rs ≡ rows_for T →
    T.capacity ≡ S.capacity → Lies q T
lies_in b S h q T rs w e f = record {
  sound = w.sound;
  format = w.format ∙ h.lies.format;
  rows = w.rows ∙ e;
  capacity = w.cap ∙ h.lies.capacity ∙ sym f;
}

module _ (b : List ℕ) (S : State) (h : Holds b S) (c : Change) (a : Answer) (q : List ℕ) where
  pub refused_step : (k : ℕ) → a ≡ refused k → change_refusal S c ≡ k → (k ≡ 0 → ⊥) → q ≡ b → (a ≡ (change S c).0) × Lies q (change S c).1
  unfolding change
  refused_step k ea ek z eq =
      let e : changed (change_refusal S c) S (change_made S c) ≡ (refused k, S) =
      ap (λ (j : ℕ). changed j S (change_made S c)) ek ∙ changed_refused k S (change_made S c) z in
      rw e (ea, subst (λ (p : List ℕ). Lies p S) (sym eq) h.lies)

  pub made_step : (T : State) → a ≡ done → change_refusal S c ≡ 0 → change_made S c ≡ T → Lies q T → (a ≡ (change S c).0) × Lies q (change S c).1
  unfolding change
  made_step T ea ek em l =
      let e : changed (change_refusal S c) S (change_made S c) ≡ (done, change_made S c) =
      changed_done (change_refusal S c) S (change_made S c) ek in
      rw e (ea, subst (λ (T : State). Lies q T) (sym em) l)

module _ {E : Type 0} (K : RowKind E) (L : RowLawful K) (b : List ℕ) (S : State) (h : Holds b S) where
  abbrev key : E → Key
  key = K.kind.key

  abbrev xs : List E
  xs = K.kind.entries S

  ordered : Ordered b
  ordered = holds_ordered b S h

  pub found_row : (k : Key) → lookup row_key (set_key K.set k) (rows_of b) ≡ row_for K.row (lookup key k xs)
  found_row k = ap (lookup row_key (set_key K.set k)) h.lies.rows ∙ set_lookup K L k S

  pub held_row : (k : Key) → held (lookup row_key (set_key K.set k) (rows_of b)) ≡ held (lookup key k xs)
  held_row k = ap held (found_row k) ∙ go (lookup key k xs)
    where
      go : (o : Option E) → held (row_for K.row o) ≡ held o
      go none = refl
      go (some x) = refl

  nonzero : (a : Answer) (k : ℕ) → 0 < k → a ≡ refused k → a.number ≡ 0 → ⊥
  nonzero a k l r z = omega (arith, sym (ap (λ (x : Answer). x.number) r) ∙ z)

  -- a drop by the key k
  pub drop_step : (c : Change) (k : Key) (a : Answer) (q : List ℕ) → Dropped b (set_key K.set k) a q →
      change_refusal S c ≡ when (not (held (lookup key k xs))) 13 → change_made S c ≡ taken_out K.kind S k →
      (a ≡ (change S c).0) × Lies q (change S c).1
  drop_step c k a q w ek em = go (held (lookup key k xs)) refl
    where
      go : (t : Bool) → held (lookup key k xs) ≡ t → (a ≡ (change S c).0) × Lies q (change S c).1
      go false e =
          let m = w.missing ordered (held_row k ∙ e) in
          refused_step b S h c a q 13 m (ek ∙ ap (λ (t : Bool). when (not t) 13) e) (λ z. omega arith)
          (w.kept (nonzero a 13 (omega arith) m)).0
      go true e =
          let m = w.made ordered (held_row k ∙ e) in
          made_step b S h c a q (taken_out K.kind S k) m.0 (ek ∙ ap (λ (t : Bool). when (not t) 13) e) em
          (lies_in b S h q (taken_out K.kind S k) (remove row_key (set_key K.set k) (rows_of b)) m.1
          (ap (remove row_key (set_key K.set k)) h.lies.rows ∙ set_remove K L k S) (L.lawful.capacity S _))

  pub set_rows : row_count K.set (rows_of b) ≡ length xs
  set_rows = ap (row_count K.set) h.lies.rows ∙ set_count K L S

  -- a put of the entry e, by a limit that is not above the set's, where the call's own test gives the number own
  module _ (e : E) (own limit : ℕ) (few : limit ≤ K.kind.limit) where
    pub taken_is : key_taken b (K.row e) ≡ held (lookup key (key e) xs)
    taken_is = ap (λ (k : Key). held (lookup row_key k (rows_of b))) (L.keyed e) ∙ held_row (key e)

    count_is : row_count (set_of (K.row e).tag) (rows_of b) ≡ length xs
    count_is = ap (λ (n : ℕ). row_count n (rows_of b)) (L.placed e) ∙ set_rows

    -- a set that is not full leaves a slot
    room_is : no_row_room b (set_of (K.row e).tag) limit (row_size (K.row e)) ≡ no_room limit (length xs) (K.kind.charge e) S
    room_is =
        ap₂ (λ (j C : ℕ). leb limit j || leb slot_count (count_of b) || ltb C (used_of b + row_size (K.row e))) count_is h.lies.capacity
        ∙ ap₂ (λ (u s : ℕ). leb limit (length xs) || leb slot_count (count_of b) || ltb S.capacity (u + s)) (used_charge b S h) (L.sized e)
        ∙ go (leb limit (length xs)) refl (ltb S.capacity (charge S + K.kind.charge e))
      where
        go : (y : Bool) → leb limit (length xs) ≡ y → (z : Bool) → (y || leb slot_count (count_of b) || z) ≡ (y || z)
        go true f z = refl
        go false f z =
            let n = leb-false limit (length xs) f in
            let l = L.slot S h.good (omega arith) in
            rw (lt-leb slot_count (count_of b) (omega (arith, count_rows b S h)))

    pub refusal_is : row_refusal b own limit (K.row e)
        ≡ first (when (held (lookup key (key e) xs)) 10 ∷ own ∷ when (no_room limit (length xs) (K.kind.charge e) S) 15 ∷ [])
    refusal_is = ap₂ (λ (t f : Bool). first (when t 10 ∷ own ∷ when f 15 ∷ [])) taken_is room_is

  -- the buffer with the entry's row holds the package with the entry
  pub lies_put : (e : E) (q : List ℕ) → Became b q (insert row_key (K.row e) (rows_of b)) → Lies q (put_in K.kind S e)
  lies_put e q w =
      lies_in b S h q (put_in K.kind S e) (insert row_key (K.row e) (rows_of b)) w (ap (insert row_key (K.row e)) h.lies.rows ∙ set_insert K L e S)
      (L.lawful.capacity S _)

  -- so it does where nothing refuses the entry, and the call has no test of its own
  pub put_lies : (e : E) → put_refusal K.kind S e [] ≡ 0 → (a : Answer) (q : List ℕ) → Entered b 0 K.kind.limit (K.row e) a q →
      Lies q (put_in K.kind S e)
  put_lies e z a q w =
      let n = all_none _ z in
      lies_put e q (w.made ordered (refusal_is e 0 K.kind.limit (omega arith) ∙ none_all _ (n.1.0, (refl, (n.1.1.0, tt))))).1

  module _ (c : Change) (e : E) (own : ℕ) (a : Answer) (q : List ℕ) (w : Entered b own K.kind.limit (K.row e) a q) where
    abbrev full : Bool
    full = no_room K.kind.limit (length xs) (K.kind.charge e) S

    row_refusal_lem : row_refusal b own K.kind.limit (K.row e) ≡ first (when (held (lookup key (key e) xs)) 10 ∷ own ∷ when full 15 ∷ [])
    row_refusal_lem = refusal_is e own K.kind.limit (omega arith)

    pub put_step : change_refusal S c ≡ first (when (held (lookup key (key e) xs)) 10 ∷ own ∷ when full 15 ∷ []) →
        change_made S c ≡ put_in K.kind S e → (a ≡ (change S c).0) × Lies q (change S c).1
    put_step ek em = go (eqb (row_refusal b own K.kind.limit (K.row e)) 0) refl
      where
        go : (t : Bool) → eqb (row_refusal b own K.kind.limit (K.row e)) 0 ≡ t → (a ≡ (change S c).0) × Lies q (change S c).1
        go false y =
            let z = eqb-false (row_refusal b own K.kind.limit (K.row e)) 0 y in
            let m = w.stopped ordered z in
            refused_step b S h c a q (row_refusal b own K.kind.limit (K.row e)) m (ek ∙ sym row_refusal_lem) z
            (w.kept (λ x. z (sym (ap (λ (x : Answer). x.number) m) ∙ x))).0
        go true y =
            let z = eqb-true (row_refusal b own K.kind.limit (K.row e)) 0 y in
            let m = w.made ordered z in
            made_step b S h c a q (put_in K.kind S e) m.0 (ek ∙ sym row_refusal_lem ∙ z) em
            (lies_put e q m.1)
