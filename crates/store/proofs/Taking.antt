-- The rows taken in the order of their offsets and gathered run by run.
-- Assumes nothing.
use mathlib.Core.Path.{◌≡◌, refl, sym, ap, ◌∙◌}
use mathlib.Core.Logic.{⊎_elim}
use Prim.Native.Nat.{ℕ, ◌+◌, ◌-◌, ◌≤◌, ◌<◌, ◌^◌}
use mathlib.Core.List.{List}
use native.Mathlib.Omega.{arith}
use lib.ListN.{length, get_or}
use Rattle.base.specs.Buffer.{part, splice}
use Rattle.store.specs.Buffer.{le4}
use Rattle.store.specs.Layout.{heap_start, count_of, end_of, slot_at, slot_of, off_of, size_of}
use Rattle.store.specs.Packages.{Sound, Gathered}
use Rattle.store.specs.Places.{Lowest, AllBelow, ByOffset, Settled, Carried, carried}
use Rattle.store.proofs.RowPlaces.{three}
use Rattle.store.proofs.Scanning.{last, below_or_not}
use Rattle.store.proofs.Moving.{Moved}
use Rattle.store.proofs.Ordering.{named_once, named_low, place_of}
use Rattle.store.proofs.Gathering.{Gathering, gather_none, gather_more, gather_all, move}
use Rattle.store.proofs.Carrying.{carry_is, carry_left, carried_none, carry_slot, carry_settled}

-- l is b with the first j rows of t gathered below c; the others are where they were, at or above h
pub record Taken (b l t : List ℕ) (n j c h : ℕ) : Type 0 where
  pub settled : (i : ℕ) → i < j → off_of (slot_of l (get_or t i 0)) + size_of (slot_of l (get_or t i 0)) ≤ c
  pub rest : (i : ℕ) → j ≤ i → i < n → (slot_of l (get_or t i 0) ≡ slot_of b (get_or t i 0)) × (h ≤ off_of (slot_of b (get_or t i 0)))

take_none : (b t : List ℕ) (n : ℕ) → Taken b b t n 0 0 0
take_none b t n = record { settled = λ i h. absurd (omega arith); rest = λ i h q. (refl, omega arith) }

-- row j of the order is the lowest of those that are not yet settled
module _ (b l t : List ℕ) (n c h j : ℕ) (g : Gathering b l c) (en : n ≡ count_of b) (od : ByOffset b t n n) (hc : c ≤ h) (tk : Taken b l t n j c h) where
  off_rest : (i : ℕ) → j ≤ i → i < n → off_of (slot_of l (get_or t i 0)) ≡ off_of (slot_of b (get_or t i 0))
  off_rest i p q = ap (λ (s : List ℕ). off_of s) (tk.rest i p q).0

  -- every row at or above c comes at j or later
  waiting : (x : ℕ) → x < n → c ≤ off_of (slot_of l x) → (i : ℕ) × (j ≤ i) × (i < n) × (get_or t i 0 ≡ x)
  waiting x p q =
      let w = place_of od x p in
      ⊎_elim
      (λ z.
      let s = tk.settled w.0 z in
      let s2 : off_of (slot_of l x) + size_of (slot_of l x) ≤ c = rw w.2 at s in
      absurd (omega (arith, g.sound.filled x (omega (arith, g.count)))))
      (λ z. (w.0, ⊎_elim (λ y. omega arith) (λ y. omega arith) z, w.1, w.2)) (three w.0 j)

  take_lowest : j < n → Lowest l n c (get_or t j 0)
  take_lowest p =
      let e = off_rest j (omega arith) p in
      let named = od.named j p in
      record {
        within = named;
        above = omega (arith, (tk.rest j (omega arith) p).1);
        least = λ x q z.
            let w = waiting x q z in
            let f = off_rest w.0 w.1 w.2 in
            let v : off_of (slot_of l (get_or t j 0)) ≤ off_of (slot_of l (get_or t w.0 0)) =
            ⊎_elim (λ y. omega (arith, od.rising j w.0 y w.2))
            (λ y. ⊎_elim (λ u. omega (arith, ap (λ (i : ℕ). off_of (slot_of l (get_or t i 0))) u)) (λ u. absurd (omega (arith, w.1))) y) (three j w.0) in
            rw w.3 at v;
      }

  take_all : n ≤ j → AllBelow l n c
  take_all p = record { below = λ x q. ⊎_elim (λ z. z) (λ z. let w = waiting x q z in absurd (omega (arith, w.1, w.2))) (below_or_not (off_of (slot_of l x)) c) }

-- m is b with the first j rows of t gathered to c, but for the run of q bytes at a, which is still to be moved
pub record Run (b m t : List ℕ) (n e c a q j : ℕ) : Type 0 where
  pub left : q ≤ c
  pub low : c ≤ a + q
  pub inside : a + q ≤ e
  pub len : length m ≡ length b
  pub gathering : Sound b → Gathering b (carried m a q c) c
  pub taken : Sound b → Taken b (carried m a q c) t n j c (a + q)

pub run_none : (b t : List ℕ) (n e : ℕ) → Run b b t n e 0 0 0 0
run_none b t n e =
    let same : Sound b → carried b 0 0 0 ≡ b = λ so. carried_none b (omega (arith, so.shape.room)) in
    record {
      left = omega arith;
      low = omega arith;
      inside = omega arith;
      len = refl;
      gathering = λ so. rw (same so) (gather_none b so);
      taken = λ so. rw (same so) (take_none b t n);
    }

-- row r, the next of the order
module _ (b m t : List ℕ) (n e c a q j : ℕ) (s : Run b m t n e c a q j) (od : ByOffset b t n n) (en : n ≡ count_of b) (ee : e ≡ end_of b) (he : e < 2 ^ 32) (hj : j < n)
    (r o k : ℕ) (er : r ≡ get_or t j 0) (eo : o ≡ off_of (slot_of m r)) (ek : k ≡ size_of (slot_of m r)) where
  hr : r < n
  hr = named_low b t n j r od hj er

  module _ (so : Sound b) where
    room : e + heap_start ≤ length m
    room = omega (arith, so.shape.within, s.len)

    few : r < 640
    few = omega (arith, hr, so.shape.few)

    carry_here : slot_of (carried m a q c) r ≡ slot_of m r
    carry_here = carry_slot m a q c s.left s.low (omega (arith, room, s.inside)) r few

    slot_here : slot_of m r ≡ slot_of b r
    slot_here = sym carry_here ∙ rw er ((s.taken so).rest j (omega arith) hj).0

    off_here : o ≡ off_of (slot_of b r)
    off_here = eo ∙ ap (λ (z : List ℕ). off_of z) slot_here

    size_here : k ≡ size_of (slot_of b r)
    size_here = ek ∙ ap (λ (z : List ℕ). size_of z) slot_here

    -- it lies behind the run, and before the end
    pub row_behind : a + q ≤ o
    row_behind = let h : a + q ≤ off_of (slot_of b r) = rw er ((s.taken so).rest j (omega arith) hj).1 in omega (arith, off_here)

    pub row_inside : o + k ≤ e
    row_inside = omega (arith, off_here, size_here, so.inside r (omega (arith, hr)))

    -- rows further up lie past it
    past : (y : ℕ) → y < n → off_of (slot_of b r) < off_of (slot_of b y) → o + k ≤ off_of (slot_of b y)
    past y h q =
        let f = so.filled y (omega arith) in
        ⊎_elim (λ z. ⊎_elim (λ u. omega (arith, off_here, size_here)) (λ u. absurd (omega arith)) (so.apart r y z (omega arith)))
        (λ v. ⊎_elim (λ z. let e = ap (λ (i : ℕ). off_of (slot_of b i)) z in absurd (omega arith))
        (λ z. ⊎_elim (λ u. absurd (omega arith)) (λ u. omega (arith, off_here, size_here)) (so.apart y r z (omega (arith, hr)))) v) (three r y)

  -- it is settled
  module _ (m1 m2 : List ℕ) (x : ℕ) (cr : Carried m m1 a q c o x) (e2 : m2 ≡ splice m1 (slot_at r) (le4 c)) where
    module _ (so : Sound b) where
      lowest : Lowest (carried m a q c) n c r
      lowest = rw er (take_lowest b (carried m a q c) t n c (a + q) j (s.gathering so) en od s.low (s.taken so) hj)

      settled : Settled (carried m a q c) (carried m2 (o - x) (x + k) (c + k)) r c e k
      settled = carry_settled m m1 m2 a q c o k r x s.left s.low (row_behind so) (omega (arith, row_inside so, room so)) (few so) cr e2 e ek (row_inside so) (sym eo)

      moving : Moved (carried m a q c) (carried m2 (o - x) (x + k) (c + k)) r c
      moving = move b (carried m a q c) (carried m2 (o - x) (x + k) (c + k)) n c e r k (s.gathering so) en ee he (omega (arith, s.low, s.inside)) lowest settled

      other_slot : (i : ℕ) → i < n → (get_or t i 0 ≡ r → ⊥) → slot_of (carried m2 (o - x) (x + k) (c + k)) (get_or t i 0) ≡ slot_of (carried m a q c) (get_or t i 0)
      other_slot i h ne = moving.others (get_or t i 0) (omega (arith, od.named i h, (s.gathering so).count)) ne

      take_more : Taken b (carried m2 (o - x) (x + k) (c + k)) t n (j + 1) (c + k) (o - x + (x + k))
      take_more =
          let er2 : get_or t j 0 ≡ r = sym er in
          let ez : size_of (slot_of (carried m a q c) r) ≡ k = ap (λ (z : List ℕ). size_of z) (carry_here so) ∙ sym ek in
          record {
            settled = λ i h. ⊎_elim
                (λ z. rw (other_slot i (omega arith) (λ y. named_once od i j z hj (y ∙ er))) (omega (arith, (s.taken so).settled i z)))
                (λ z. let ei : get_or t i 0 ≡ r = ap (λ (y : ℕ). get_or t y 0) z ∙ er2 in rw ei (omega (arith, moving.place, moving.size))) (last i j h);
            rest = λ i h z.
                let v : off_of (slot_of b r) < off_of (slot_of b (get_or t i 0)) = rw er (od.rising j i (omega arith) z) in (
                  other_slot i z (λ y. named_once od j i (omega arith) z (er2 ∙ sym y)) ∙ ((s.taken so).rest i (omega arith) z).0,
                  omega (arith, past so (get_or t i 0) (od.named i z) v, row_behind so, carry_left m m1 a q c o x cr),
                );
          }

    pub run_more : length m2 ≡ length m → a + q ≤ o → o + k ≤ e → Run b m2 t n e (c + k) (o - x) (x + k) (j + 1)
    run_more len h i =
        let l = carry_left m m1 a q c o x cr in
        record {
          left = omega (arith, s.left);
          low = omega (arith, s.low);
          inside = omega arith;
          len = len ∙ s.len;
          gathering = λ so. gather_more b (carried m a q c) (carried m2 (o - x) (x + k) (c + k)) n c e r k (s.gathering so) en ee he (omega (arith, s.low, s.inside)) (lowest so) (settled so);
          taken = take_more;
        }

-- no row is left: the run is moved, and the end is set
pub run_all : (b m m1 m2 t : List ℕ) (n e c a q j : ℕ) → Run b m t n e c a q j → ByOffset b t n n → n ≡ count_of b → e ≡ end_of b → e < 2 ^ 32 → n ≤ j
    → m1 ≡ splice m (heap_start + (c - q)) (part (heap_start + a) q m) → m2 ≡ splice m1 20 (le4 c) → Sound b → Gathered b m2
run_all b m m1 m2 t n e c a q j s od en ee he hj e1 e2 so =
    gather_all b (carried m a q c) m2 n c e (s.gathering so) en ee he (omega (arith, s.low, s.inside))
    (take_all b (carried m a q c) t n c (a + q) j (s.gathering so) en od s.low (s.taken so) hj)
    (e2 ∙ ap (λ (l : List ℕ). splice l 20 (le4 c)) (carry_is m m1 a q c e1))
