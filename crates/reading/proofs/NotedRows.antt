-- An entry noted in the shadow, whichever its set: what refuses its row there refuses the entry beside the package.
-- Assumes nothing.
use Prim.Native.Nat.{ℕ, ◌+◌, ◌-◌, ◌≤◌, ◌<◌}
use mathlib.Core.Path.{◌≡◌, refl, ap, ap₂, sym, ◌∙◌}
use mathlib.Core.Bool.{Bool, true, false, ◌||◌}
use mathlib.Core.List.{List, [], ◌∷◌}
use native.Mathlib.Omega.{arith}
use lib.Dec.{leb, ltb, eqb}
use lib.ListN.{length}
use borrow.Author.Tests.{leb-true, leb-false, le-leb, lt-leb, ltb-true, ltb-false, lt-ltb, le-ltb, eqb-true, eqb-false}
use Rattle.std.specs.Prelude.{Ok, Err}
use Rattle.output.specs.Answers.{Answer}
use Rattle.output.specs.Refusals.{number}
use Rattle.output.specs.declared.refusals.Refusal.{Refusal}
use Rattle.output.specs.declared.refusals.Refusal.TheVariants as refusal
use Rattle.output.proofs.Answering.{number_some}
use Rattle.model.specs.Sets.{Key, same_key, held, lookup, insert}
use Rattle.model.specs.Fields.{when, first}
use Rattle.model.specs.Package.{State, Kind, charge}
use Rattle.model.specs.Puts.{no_room, put_refusal, put_in}
use Rattle.model.specs.Calls.{done, refused}
use Rattle.model.proofs.Refusals.{first_met, first_unmet, first_one, all_none, none_all, unmet}
use Rattle.model.proofs.Sets.{length_insert}
use Rattle.model.proofs.KindLaws.{Lawful}
use Rattle.model.proofs.EntryLists.{held_insert}
use Rattle.store.specs.Rows.{Row}
use Rattle.contract.specs.Rows.{set_key, RowKind}
use Rattle.contract.specs.Holds.{Holds}
use Rattle.contract.specs.Searches.{Ordered}
use Rattle.contract.specs.Entries.{Taken, row_refusal, Entered}
use Rattle.contract.proofs.RowKinds.{RowLawful}
use Rattle.contract.proofs.RowOrders.{holds_ordered}
use Rattle.contract.proofs.SetStates.{held_row, set_rows, refusal_is}
use Rattle.reading.specs.Notes.{Joined, LeftIn, note_refusal, NotedRow}

-- 10 by the package a or the shadow b, then 15 by the set c or the capacity d
ten_fifteen : (a b c d : Bool) → first (when a 10 ∷ first (when b 10 ∷ when d 15 ∷ when c 15 ∷ []) ∷ []) ≡ first (0 ∷ when (b || a) 10 ∷ when (c || d) 15 ∷ [])
unfolding first
ten_fifteen true true c d = refl
ten_fifteen true false c d = refl
ten_fifteen false true c d = refl
ten_fifteen false false true true = refl
ten_fifteen false false true false = refl
ten_fifteen false false false true = refl
ten_fifteen false false false false = refl

same_leb : (a b c d : ℕ) → (a ≤ b → c ≤ d) → (c ≤ d → a ≤ b) → leb a b ≡ leb c d
same_leb a b c d f g = go (leb a b) refl
  where
    go : (t : Bool) → leb a b ≡ t → t ≡ leb c d
    go true e = sym (le-leb c d (f (leb-true a b e)))
    go false e = let n = leb-false a b e in go' (leb c d) refl n
      where
        go' : (t : Bool) → leb c d ≡ t → b < a → false ≡ t
        go' true h n = let k = g (leb-true c d h) in absurd (omega arith)
        go' false h n = refl

same_ltb : (a b c d : ℕ) → (a < b → c < d) → (c < d → a < b) → ltb a b ≡ ltb c d
same_ltb a b c d f g = go (ltb a b) refl
  where
    go : (t : Bool) → ltb a b ≡ t → t ≡ ltb c d
    go true e = sym (lt-ltb c d (f (ltb-true a b e)))
    go false e = let n = ltb-false a b e in go' (ltb c d) refl n
      where
        go' : (t : Bool) → ltb c d ≡ t → b ≤ a → false ≡ t
        go' true h n = let k = g (ltb-true c d h) in absurd (omega arith)
        go' false h n = refl

or_assoc : (a b c : Bool) → (a || (b || c)) ≡ ((a || b) || c)
or_assoc true b c = refl
or_assoc false b c = refl

-- NOTING, each way out: the key is taken in the package
module _ (m n : List ℕ) (left room size : ℕ) (x : Row) where
  pub noted_taken : (taken : Bool) → taken ≡ true → NotedRow m n taken left room size x (Err refusal.Taken)
  noted_taken taken e = (
    (omega arith, λ z. omega arith),
    (λ z. omega arith),
    λ o.
        sym (ap (λ (t : Bool). first (when t 10 ∷ row_refusal m (when (ltb room size) 15) left x ∷ [])) e ∙ first_met 10 _ (λ z. omega arith)),
  )

  -- it is not, and the shadow takes the row or refuses it
  module _ (taken : Bool) (e : taken ≡ false) (own : ℕ) (eo : own ≡ when (ltb room size) 15) where
    row_only : note_refusal m taken left room size x ≡ row_refusal m own left x
    row_only =
        ap₂ (λ (t : Bool) (k : ℕ). first (when t 10 ∷ row_refusal m k left x ∷ [])) e (sym eo) ∙ first_unmet 0 _ refl ∙ first_one _

    pub noted_made : Entered m own left x done n → NotedRow m n taken left room size x (Ok size)
    noted_made w = (refl, λ o. let z = none_refused o in (row_only ∙ z, (w.made o z).1))
      where
        none_refused : Ordered m → row_refusal m own left x ≡ 0
        none_refused o = go (eqb (row_refusal m own left x) 0) refl
          where
            go : (t : Bool) → eqb (row_refusal m own left x) 0 ≡ t → row_refusal m own left x ≡ 0
            go true f = eqb-true _ 0 f
            go false f = sym (ap (λ (a : Answer). a.number) (w.stopped o (eqb-false _ 0 f)))

    pub noted_refused : (r : Refusal) → Entered m own left x (refused (number r)) n → NotedRow m n taken left room size x (Err r)
    noted_refused r w = (w.numbered, number_some r, λ o. sym (row_only ∙ met o))
      where
        met : Ordered m → row_refusal m own left x ≡ number r
        met o = go (eqb (row_refusal m own left x) 0) refl
          where
            go : (t : Bool) → eqb (row_refusal m own left x) 0 ≡ t → row_refusal m own left x ≡ number r
            go true f = absurd (number_some r (ap (λ (a : Answer). a.number) (w.made o (eqb-true _ 0 f)).0))
            go false f = ap (λ (a : Answer). a.number) (sym (w.stopped o (eqb-false _ 0 f)))

-- THE SETS with one entry more
module _ {E : Type 0} (kind : Kind E) (L : Lawful kind) (shaded : E → E) (Mine : E → Type 0)
    (apart : (e f : E) → Mine e → Mine f → same_key (kind.key (shaded e)) (kind.key (shaded f)) ≡ same_key (kind.key e) (kind.key f)) where
  pub joined_put : (S T U : State) → Joined kind shaded Mine S T U → (f : E) → Mine f → Joined kind shaded Mine S (put_in kind T (shaded f)) (put_in kind U f)
  joined_put S T U j f m = record {
    holding = λ e n.
        let k = kind.key in
        let h = held (lookup k (k e) (kind.entries S)) in
        ap (λ (l : List E). held (lookup k (k e) l)) (L.own U (insert k f (kind.entries U)))
        ∙ held_insert k (k e) f (kind.entries U)
        ∙ ap₂ (λ (a b : Bool). a || b) (sym (apart e f n m)) (j.holding e n)
        ∙ or_assoc (same_key (k (shaded e)) (k (shaded f))) (held (lookup k (k (shaded e)) (kind.entries T))) h
        ∙ ap (λ (a : Bool). a || h) (sym (held_insert k (k (shaded e)) (shaded f) (kind.entries T)))
        ∙ ap (λ (l : List E). held (lookup k (k (shaded e)) l) || h) (sym (L.own T (insert k (shaded f) (kind.entries T))));
    counted = omega (
      arith,
      ap (λ (l : List E). length l) (L.own U (insert kind.key f (kind.entries U))),
      ap (λ (l : List E). length l) (L.own T (insert kind.key (shaded f) (kind.entries T))),
      length_insert kind.key f (kind.entries U),
      length_insert kind.key (shaded f) (kind.entries T),
      j.counted,
    );
  }

-- THE ROW that notes the entry e; T is what the shadow m holds, and has room for a row more where the set is not full
module _ {E : Type 0} (K : RowKind E) (L : RowLawful K) (shaded : E → E) (Mine : E → Type 0) (e : E) (b m : List ℕ) (left room size : ℕ) (taken : Bool)
    (few : left ≤ K.kind.limit) (T : State) (h : Holds m T)
    (roomy : length (K.kind.entries T) < K.kind.limit → charge T + K.kind.charge (shaded e) ≤ T.capacity) where
  abbrev key : E → Key
  key = K.kind.key

  abbrev noted : Bool
  noted = held (lookup key (key (shaded e)) (K.kind.entries T))

  abbrev count : ℕ
  count = length (K.kind.entries T)

  abbrev own : ℕ
  own = when (ltb room size) 15

  row_is : row_refusal m own left (K.row (shaded e)) ≡ first (when noted 10 ∷ own ∷ when (leb left count) 15 ∷ [])
  row_is =
      refusal_is K L m T h (shaded e) own left few
      ∙ ap (λ (t : Bool). first (when noted 10 ∷ own ∷ when t 15 ∷ [])) (go (leb left count) refl)
    where
      go : (t : Bool) → leb left count ≡ t → (t || ltb T.capacity (charge T + K.kind.charge (shaded e))) ≡ t
      go true z = refl
      go false z = let n = leb-false left count z in le-ltb T.capacity (charge T + K.kind.charge (shaded e)) (roomy (omega arith))

  -- what an accepted row says
  module _ (z : note_refusal m taken left room size (K.row (shaded e)) ≡ 0) where
    none_met : first (when noted 10 ∷ own ∷ when (leb left count) 15 ∷ []) ≡ 0
    none_met = sym row_is ∙ (all_none _ z).1.0

    pub noted_fits : size ≤ room
    noted_fits = ltb-false room size (unmet (ltb room size) 15 (omega arith) (all_none _ none_met).1.0)

    pub noted_few : count < K.kind.limit
    noted_few =
        let n = leb-false left count (unmet (leb left count) 15 (omega arith) (all_none _ none_met).1.1.0) in
        omega arith

    -- the shadow takes it
    pub noted_put : K.kind.fields (shaded e) ≡ 0 → put_refusal K.kind T (shaded e) [] ≡ 0
    noted_put f =
        let roomed : no_room K.kind.limit count (K.kind.charge (shaded e)) T ≡ false =
        rw (lt-leb _ _ noted_few, le-ltb _ _ (roomy noted_few)) in
        none_all _ (f, ((all_none _ none_met).0, (ap (λ (t : Bool). when t 15) roomed, tt)))

  -- beside the package S, whose set takes `left` entries more
  module _ (S U : State) (s : Holds b S) (tk : Taken b (set_key K.set (key e)) taken) (lf : LeftIn b K.set K.kind.limit left)
      (j : Joined K.kind shaded Mine S T U) (mine : Mine e) (r : charge U + room ≡ U.capacity) where
    full_is : leb K.kind.limit (length (K.kind.entries U)) ≡ leb left count
    full_is =
        let l : left ≡ K.kind.limit - length (K.kind.entries S) =
        lf.is (holds_ordered b S s) ∙ ap (λ (n : ℕ). K.kind.limit - n) (set_rows K L b S s) in
        same_leb K.kind.limit (length (K.kind.entries U)) left count (λ n. omega (arith, j.counted)) (λ n. omega (arith, j.counted))

    pub note_is : size ≡ K.kind.charge e → K.kind.fields e ≡ 0 →
        note_refusal m taken left room size (K.row (shaded e)) ≡ put_refusal K.kind U e []
    note_is ez f =
        let too_much : ltb room size ≡ ltb U.capacity (charge U + K.kind.charge e) =
        same_ltb room size U.capacity (charge U + K.kind.charge e) (λ n. omega arith) (λ n. omega arith) in
        let t : taken ≡ held (lookup key (key e) (K.kind.entries S)) =
        tk.is (holds_ordered b S s) ∙ held_row K L b S s (key e) in
        ap (λ (n : ℕ). first (when taken 10 ∷ n ∷ [])) row_is
        ∙ ten_fifteen taken noted (leb left count) (ltb room size)
        ∙ ap₂ (λ (a : Bool) (n : ℕ). first (n ∷ when (noted || a) 10 ∷ when (leb left count || ltb room size) 15 ∷ [])) t (sym f)
        ∙ ap₂ (λ (a c : Bool). first (K.kind.fields e ∷ when a 10 ∷ when c 15 ∷ [])) (sym (j.holding e mine))
        (ap₂ (λ (x y : Bool). x || y) (sym full_is) too_much)
