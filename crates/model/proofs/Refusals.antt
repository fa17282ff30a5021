-- A list of refusals, and what it says where none is met.
-- Assumes nothing.
use Prim.Native.Nat.{ℕ, ◌+◌, ◌≤◌, ◌<◌}
use mathlib.Core.Path.{◌≡◌, refl, sym, ap, ◌∙◌}
use mathlib.Core.Bool.{Bool, true, false, cond}
use mathlib.Core.List.{List, [], ◌∷◌, ◌++◌}
use native.Mathlib.Omega.{arith}
use lib.Dec.{eqb, leb, ltb}
use borrow.Author.Tests.{eqb-true, eqb-false, leb-false, ltb-false, eq-eqb, ne_eqb}
use Rattle.output.specs.Answers.{Answer}
use Rattle.model.specs.Sets.{Each}
use Rattle.model.specs.Fields.{when, first}
use Rattle.model.specs.Good.{Good}
use Rattle.model.specs.Package.{State, charge}
use Rattle.model.specs.Puts.{no_room}
use Rattle.model.specs.Calls.{changed, pick, done, refused}
use Rattle.base.proofs.Bools.{or_false_left, or_false_right}

pub all_none : (ns : List ℕ) → first ns ≡ 0 → Each (λ (n : ℕ). n ≡ 0) ns
unfolding first
all_none [] e = tt
all_none (n ∷ ns) e = go (eqb n 0) refl e (all_none ns)
  where
    go : (b : Bool) → eqb n 0 ≡ b → cond b (first ns) n ≡ 0 → (first ns ≡ 0 → Each (λ (m : ℕ). m ≡ 0) ns) →
        (n ≡ 0) × Each (λ (m : ℕ). m ≡ 0) ns
    go true f h k = (eqb-true n 0 f, k h)
    go false f h k = absurd (eqb-false n 0 f h)

pub none_all : (ns : List ℕ) → Each (λ (n : ℕ). n ≡ 0) ns → first ns ≡ 0
unfolding first
none_all [] h = refl
none_all (n ∷ ns) h = rw (eq-eqb n 0 h.0) (none_all ns h.1)

-- refusals in two lists: the first of the first list, then those of the second
pub first_append : (ms ns : List ℕ) → first (ms ++ ns) ≡ first (first ms ∷ ns)
unfolding first
first_append [] ns = refl
first_append (m ∷ ms) ns = go (eqb m 0) refl (first_append ms ns)
  where
    go : (b : Bool) → eqb m 0 ≡ b → first (ms ++ ns) ≡ cond (eqb (first ms) 0) (first ns) (first ms) →
        cond b (first (ms ++ ns)) m ≡ cond (eqb (cond b (first ms) m) 0) (first ns) (cond b (first ms) m)
    go true e h = h
    go false e h = rw e

-- a list whose first is met, or is not
pub first_met : (n : ℕ) (ns : List ℕ) → (n ≡ 0 → ⊥) → first (n ∷ ns) ≡ n
unfolding first
first_met n ns z = rw (ne_eqb n 0 z)

pub first_unmet : (n : ℕ) (ns : List ℕ) → n ≡ 0 → first (n ∷ ns) ≡ first ns
unfolding first
first_unmet n ns e = rw (eq-eqb n 0 e)

pub first_one : (n : ℕ) → first (n ∷ []) ≡ n
unfolding first
first_one n = go (eqb n 0) refl
  where
    go : (t : Bool) → eqb n 0 ≡ t → cond t 0 n ≡ n
    go true e = sym (eqb-true n 0 e)
    go false e = refl

-- two lists of which the first has a refusal that is met, or has none
pub first_front : (ms ns : List ℕ) → (first ms ≡ 0 → ⊥) → first (ms ++ ns) ≡ first ms
first_front ms ns z = first_append ms ns ∙ first_met (first ms) ns z

pub first_past : (ms ns : List ℕ) → first ms ≡ 0 → first (ms ++ ns) ≡ first ns
first_past ms ns z = first_append ms ns ∙ first_unmet (first ms) ns z

pub unmet : (b : Bool) (n : ℕ) → 0 < n → when b n ≡ 0 → b ≡ false
unmet true n l e = absurd (omega arith)
unmet false n l e = refl

-- there is room: the charge stays within C, and the set is not full
pub room_charge : (limit count added : ℕ) (S : State) → no_room limit count added S ≡ false → charge S + added ≤ S.capacity
room_charge limit count added S e =
    ltb-false S.capacity (charge S + added) (or_false_right (leb limit count) (ltb S.capacity (charge S + added)) e)

pub room_count : (limit count added : ℕ) (S : State) → no_room limit count added S ≡ false → count < limit
room_count limit count added S e = leb-false limit count (or_false_left (leb limit count) (ltb S.capacity (charge S + added)) e)

-- a call that the number n refuses, unless it is 0: what holds of S, and of T where nothing is refused, holds of the package after it
module _ (n : ℕ) (S T : State) where
  pub picked : (P : State → Type 0) (a r : Answer) → P S → (n ≡ 0 → P T) → P (pick (eqb n 0) (a, T) (r, S)).1
  picked P a r g h = go (eqb n 0) refl
    where
      go : (b : Bool) → eqb n 0 ≡ b → P (pick b (a, T) (r, S)).1
      go true e = h (eqb-true n 0 e)
      go false e = g

  pub picked_done : (a r : Answer) → n ≡ 0 → pick (eqb n 0) (a, T) (r, S) ≡ (a, T)
  picked_done a r e = rw (eq-eqb n 0 e)

  -- accepted, it met no refusal
  pub picked_accepted : (a r : Answer) → r.number ≡ n → (pick (eqb n 0) (a, T) (r, S)).0.number ≡ 0 → n ≡ 0
  picked_accepted a r f h = go (eqb n 0) refl h
    where
      go : (b : Bool) → eqb n 0 ≡ b → (pick b (a, T) (r, S)).0.number ≡ 0 → n ≡ 0
      go true e k = eqb-true n 0 e
      go false e k = sym f ∙ k

  -- a change is such a call
  pub changed_good : Good S → (n ≡ 0 → Good T) → Good (changed n S T).1
  changed_good = picked Good done (refused n)

  pub changed_done : n ≡ 0 → changed n S T ≡ (done, T)
  changed_done = picked_done done (refused n)

  pub changed_accepted : (changed n S T).0.number ≡ 0 → n ≡ 0
  changed_accepted = picked_accepted done (refused n) refl

  -- what it makes matters only where it is made
  pub changed_same : (U : State) → (n ≡ 0 → T ≡ U) → changed n S T ≡ changed n S U
  changed_same U e = go (eqb n 0) refl
    where
      go : (b : Bool) → eqb n 0 ≡ b → changed n S T ≡ changed n S U
      go true z = ap (λ (W : State). changed n S W) (e (eqb-true n 0 z))
      go false z = rw z refl
