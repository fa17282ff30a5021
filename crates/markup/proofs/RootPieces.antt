-- What stands next in the root's content, from what was read of it.
-- Assumes nothing.
use Prim.Native.Nat.{ℕ, zero, suc, ◌+◌, ◌-◌, ◌≤◌, ◌<◌}
use native.Mathlib.Omega.{arith}
use mathlib.Core.Path.{◌≡◌, refl, sym, ap, ◌∙◌, subst}
use mathlib.Core.Bool.{Bool, true, false}
use mathlib.Core.List.{List, []}
use lib.ListN.{length, drop, length-drop, drop_of_length-le}
use lib.Seq.{drop-drop}
use Rattle.std.specs.Prelude.{Result, Ok, Err, IfOk}
use Rattle.base.specs.Buffer.{part}
use Rattle.markup.specs.Marks.{Outcome, name_at, prefixed}
use Rattle.markup.specs.Tags.{start_tag, opens}
use Rattle.markup.specs.Elements.{gaps, between}
use Rattle.markup.specs.Streams.{Said, Says, where_on, choose, passed, entry_then, entries_in}
use Rattle.markup.specs.Walks.{Reached, Walk, of_walk, Within, Walked, WalkedElement}
use Rattle.markup.specs.StreamPlaces.{next_step, of_step, StepWithin, PassedAt, StepAt, NextAt}
use Rattle.markup.specs.declared.marks.Fault.{Fault}
use Rattle.markup.specs.declared.entries.Kind.{Kind}
use Rattle.markup.specs.declared.streams.Step.{Step}
use Rattle.markup.specs.declared.streams.Step.TheVariants.{Unprefixed, Passed, Over}
use Rattle.markup.specs.declared.streams.Next.TheVariants.{Tag, End}
use Rattle.markup.proofs.NameTexts.{name_part}
use Rattle.markup.proofs.Rests.{walked_at, opens_within}

-- AN ELEMENT that is passed over
module _ {s : List ℕ} {at : ℕ} {w : Walk} (inner : WalkedElement s at 14 w) where
  passed_is : (f : List ℕ → Said) (x : Walk) → w ≡ x → where_on (of_walk s x) f ≡ where_on (passed (drop at s)) f
  passed_is f x e =
      let n : length (drop at s) ≡ length s - at = length-drop at s in
      sym (ap (λ (y : Walk). where_on (of_walk s y) f) e) ∙ ap (λ (o : Outcome). where_on o f) (inner.is (length (drop at s)) (omega arith))

  pub passed_off : {n : Fault} → w ≡ Err n → PassedAt s at (Err n)
  passed_off {n} e = record { within = tt; is = λ f g. passed_is f (Err n) e }

  pub passed_on : {d : ℕ} → w ≡ Ok d → PassedAt s at (Ok (Passed d))
  passed_on {d} e =
      let v : Reached s (at + 1) d = subst (λ (x : Walk). Within s (at + 1) x) e inner.within in
      record { within = (omega arith, v.1); is = λ f g. passed_is f (Ok d) e }

-- WHAT STANDS NEXT, behind what stands between tags
steps_from : (s : List ℕ) (at t : ℕ) → at ≤ t → (q : Result Step Fault) → IfOk q (StepWithin s t) → IfOk q (StepWithin s at)
steps_from s at t h (Ok (Unprefixed n)) w = (omega arith, w.1)
steps_from s at t h (Ok (Passed n)) w = (omega arith, w.1)
steps_from s at t h (Ok (Over n)) w = (omega arith, w.1)
steps_from s at t h (Err n) w = tt

module _ {s : List ℕ} {at : ℕ} {w : Walk} (gap : Walked s at (between false (drop at s)) w) where
  -- at a start tag, from behind its `<` on: it has a prefix, or it has none
  abbrev named : (List ℕ → Said) → (List ℕ → Said) → Bool → List ℕ → Said
  named f g p t = choose p (where_on (passed t) f) (g t)

  abbrev behind : (List ℕ → Said) → (List ℕ → Said) → Bool → List ℕ → Said
  behind f g b t = choose b (named f g (prefixed (name_at (drop 1 t))) (drop 1 t)) (Says [] t)

  next_gap : (f g : List ℕ → Said) (x : Walk) → w ≡ x → where_on (of_walk s x) (λ (t : List ℕ). behind f g (opens t) t) ≡ next_step (drop at s) f g
  next_gap f g x e =
      sym (ap (λ (y : Walk). where_on (of_walk s y) (λ (t : List ℕ). behind f g (opens t) t)) e)
      ∙ ap (λ (o : Outcome). where_on o (λ (t : List ℕ). behind f g (opens t) t)) gap.is

  pub next_bad : {n : Fault} → w ≡ Err n → StepAt s at (Err n)
  next_bad {n} e = record { within = tt; is = λ f g. next_gap f g (Err n) e }

  module _ {t : ℕ} (e : w ≡ Ok t) {b : Bool} (o : b ≡ opens (drop t s)) where
    next_behind : (f g : List ℕ → Said) (c : Bool) → b ≡ c → behind f g c (drop t s) ≡ next_step (drop at s) f g
    next_behind f g c q = ap (λ (x : Bool). behind f g x (drop t s)) (sym q ∙ o) ∙ next_gap f g (Ok t) e

    pub next_over : b ≡ false → StepAt s at (Ok (Over t))
    next_over q = record { within = walked_at gap e; is = λ f g. next_behind f g false q }

    -- a start tag stands there: its element is passed over, or it has no prefix
    module _ (q : b ≡ true) {end : ℕ} (ended : end ≡ t + 1 + length (name_at (drop (t + 1) s))) {p : Bool}
        (is : p ≡ prefixed (part (t + 1) (end - (t + 1)) s)) where
      next_named : (f g : List ℕ → Said) (c : Bool) → p ≡ c → named f g c (drop (t + 1) s) ≡ next_step (drop at s) f g
      next_named f g c z =
          let d : drop 1 (drop t s) ≡ drop (t + 1) s = drop-drop 1 t s in
          let y : c ≡ prefixed (name_at (drop (t + 1) s)) = sym z ∙ is ∙ ap prefixed (sym (name_part s (t + 1) end ended)) in
          rw (y, ← d) (next_behind f g true q)

      pub next_passed : p ≡ true → {r : Result Step Fault} → PassedAt s (t + 1) r → StepAt s at r
      next_passed z {r} a =
          let v = walked_at gap e in
          record {
            within = steps_from s at (t + 1) (omega arith) r a.within;
            is = λ f g. a.is f g ∙ next_named f g true z;
          }

      pub next_plain : p ≡ false → StepAt s at (Ok (Unprefixed (t + 1)))
      next_plain z =
          let v = walked_at gap e in
          record { within = (omega arith, opens_within s t o q); is = λ f g. next_named f g false z }

-- THE NEXT TAG: the loop, which began at a, has come to i
pub record Came (K : Kind) (s : List ℕ) (i : ℕ) (d : Said) : Type 0 where
  pub calls : ℕ
  pub enough : length s ≤ i + calls
  pub is : d ≡ entries_in K calls (drop i s)

pub record Coming (s : List ℕ) (a i : ℕ) : Type 0 where
  pub from : a ≤ i
  pub to : i ≤ length s
  pub came : (K : Kind) (k : ℕ) → length s ≤ a + k → Came K s i (entries_in K k (drop a s))

pub came_none : {s : List ℕ} {a : ℕ} → a ≤ length s → Coming s a a
came_none h = record { from = omega arith; to = h; came = λ K k g. record { calls = k; enough = g; is = refl } }

-- the content behind what is passed over, and from a tag on, with so many calls
abbrev again : Kind → ℕ → List ℕ → Said
again K j t = entries_in K j t

abbrev entry : Kind → ℕ → List ℕ → Said
entry K j t = entry_then K (again K j) (start_tag t)

entries_nil : (K : Kind) → Says [] [] ≡ next_step [] (again K 0) (entry K 0)
unfolding gaps
entries_nil K = refl

entries_step : (K : Kind) (s : List ℕ) (i k : ℕ) → length s ≤ i + k
    → entries_in K k (drop i s) ≡ next_step (drop i s) (again K (k - 1)) (entry K (k - 1))
unfolding entries_in
entries_step K s i zero h =
    let g : length s ≤ i = omega (arith, h) in
    rw (drop_of_length-le s g) (entries_nil K)
entries_step K s i (suc k) h = let e : suc k - 1 ≡ k = omega arith in rw e

module _ {s : List ℕ} {a i : ℕ} (so : Coming s a i) {q : Result Step Fault} (next : StepAt s i q) where
  came_step : (K : Kind) (k : ℕ) (h : length s ≤ a + k) (x : Result Step Fault) → q ≡ x
      → entries_in K k (drop a s) ≡ of_step s (again K ((so.came K k h).calls - 1)) (entry K ((so.came K k h).calls - 1)) x
  came_step K k h x e =
      let c = so.came K k h in
      c.is ∙ entries_step K s i c.calls c.enough
      ∙ sym (next.is (again K (c.calls - 1)) (entry K (c.calls - 1)))
      ∙ ap (of_step s (again K (c.calls - 1)) (entry K (c.calls - 1))) e

  came_within : (x : Step) → q ≡ Ok x → StepWithin s i x
  came_within x e = subst (λ (y : Result Step Fault). IfOk y (StepWithin s i)) e next.within

  -- one call less suffices further on
  came_enough : (K : Kind) (k : ℕ) (h : length s ≤ a + k) (d : ℕ) → i < d → length s ≤ d + ((so.came K k h).calls - 1)
  came_enough K k h d l = let m : length s ≤ i + (so.came K k h).calls = (so.came K k h).enough in omega arith

  pub step_past : {d : ℕ} → q ≡ Ok (Passed d) → (i < d) × (d ≤ length s)
  step_past {d} e = came_within (Passed d) e

  pub came_passed : {d : ℕ} → q ≡ Ok (Passed d) → Coming s a d
  came_passed {d} e =
      let v = step_past e in
      let f : a ≤ i = so.from in
      record {
        from = omega (arith, v.0, f);
        to = v.1;
        came = λ K k h. record {
          calls = (so.came K k h).calls - 1;
          enough = came_enough K k h d v.0;
          is = came_step K k h (Ok (Passed d)) e;
        };
      }

  pub came_tag : {t : ℕ} → q ≡ Ok (Unprefixed t) → NextAt s a (Ok (Tag t))
  came_tag {t} e =
      let v = came_within (Unprefixed t) e in
      let f : a ≤ i = so.from in
      record {
        within = (omega (arith, v.0, f), v.1);
        is = λ K k h. record {
          calls = (so.came K k h).calls - 1;
          enough = came_enough K k h t v.0;
          is = came_step K k h (Ok (Unprefixed t)) e;
        };
      }

  pub came_over : {n : ℕ} → q ≡ Ok (Over n) → NextAt s a (Ok (End n))
  came_over {n} e =
      let v = came_within (Over n) e in
      let f : a ≤ i = so.from in
      record { within = (omega (arith, v.0, f), v.1); is = λ K k h. came_step K k h (Ok (Over n)) e }

  pub came_bad : {n : Fault} → q ≡ Err n → NextAt s a (Err n)
  came_bad {n} e = record { within = tt; is = λ K k h. came_step K k h (Err n) e }
