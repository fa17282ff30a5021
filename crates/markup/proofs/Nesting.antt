-- Elements and content, from what was read of their tags and gaps.
-- Assumes nothing.
use Prim.Native.Nat.{ℕ, zero, suc, ◌+◌, ◌-◌, ◌≤◌, ◌<◌}
use native.Mathlib.Omega.{arith}
use mathlib.Core.Path.{◌≡◌, refl, sym, ap, ◌∙◌, subst}
use mathlib.Core.Bool.{Bool, true, false, not, ◌&&◌, cond}
use mathlib.Core.List.{List, []}
use lib.Dec.{eqb}
use lib.ListN.{length, drop, drop_of_length-le}
use lib.Seq.{drop-drop}
use Rattle.std.specs.Prelude.{⊤, Result, Ok, Err, Option as Optional, Some, None}
use Rattle.base.specs.Buffer.{part}
use Rattle.chars.specs.Bytes.{letter}
use Rattle.markup.specs.Marks.{Outcome, On, Not, malformed, too_deep, either, and_then, name_at, prefixed}
use Rattle.markup.specs.Tags.{NoTag, start_tag, end_tag, opens}
use Rattle.markup.specs.Elements.{gaps, between, element_of, nested, goes_on, element, content}
use Rattle.markup.specs.Walks.{Reached, number, Walk, of_walk, Within, Walked, WalkedElement, WalkedContent, of_tagged, TagAt, stops}
use Rattle.markup.specs.declared.marks.Fault.{Fault}
use Rattle.markup.specs.declared.marks.Fault.TheVariants.{Malformed, TooDeep}
use Rattle.markup.specs.declared.tags.StartTag.{StartTag}
use Rattle.markup.proofs.Rests.{within_from, walked_at, content_at, tag_reach}

-- CONTENT, with one call less
module _ (left : ℕ) (text : Bool) where
  abbrev further : ℕ → List ℕ → Outcome
  further j s = goes_on (λ (t : List ℕ). element j (left - 1) t) (λ (t : List ℕ). content j left text t) left text s

  content_nil : On [] ≡ and_then (between text []) (further 0)
  unfolding gaps
  content_nil = refl

  content_step : (s : List ℕ) (i k : ℕ) → length s ≤ i + k
      → content k left text (drop i s) ≡ and_then (between text (drop i s)) (further (k - 1))
  unfolding content
  content_step s i zero h =
      let g : length s ≤ i = omega (arith, h) in
      rw (drop_of_length-le s g) content_nil
  content_step s i (suc k) h = let e : suc k - 1 ≡ k = omega arith in rw e

-- nothing refuses the start tag, or something does
abbrev let_through : Result ⊤ Fault → Outcome → Outcome
let_through (Ok u) o = o
let_through (Err f) o = Not (number f)

module _ (inner : List ℕ → Outcome) (left : ℕ) (text : Bool) (s : List ℕ) where
  nested_is : (a b : Bool) → either a (Not too_deep) (either b (Not malformed) (inner s))
      ≡ let_through (cond a (Err TooDeep) (cond b (Err Malformed) (Ok tt))) (inner s)
  nested_is true b = refl
  nested_is false true = refl
  nested_is false false = refl

  nested_stops : nested inner left text s ≡ let_through (stops left text s) (inner s)
  nested_stops = nested_is (eqb left 0) (not text && not (prefixed (name_at s)))

-- a start tag that nothing refuses has a depth left
pub stops_none : (left : ℕ) (text : Bool) (s : List ℕ) {v : Result ⊤ Fault} {u : ⊤} → v ≡ stops left text s → v ≡ Ok u → 1 ≤ left
stops_none zero text s e z = cc
stops_none (suc left) text s e z = omega arith

-- THE LOOP of content, which began at a, has come to i
pub record Came (s : List ℕ) (i left : ℕ) (text : Bool) (o : Outcome) : Type 0 where
  pub calls : ℕ
  pub enough : length s ≤ i + calls
  pub is : o ≡ content calls left text (drop i s)

pub record Coming (s : List ℕ) (a left : ℕ) (text : Bool) (i : ℕ) : Type 0 where
  pub from : a ≤ i
  pub to : i ≤ length s
  pub came : (k : ℕ) → length s ≤ a + k → Came s i left text (content k left text (drop a s))

pub came_none : {s : List ℕ} {a left : ℕ} {text : Bool} → a ≤ length s → Coming s a left text a
came_none h = record { from = omega arith; to = h; came = λ k g. record { calls = k; enough = g; is = refl } }

-- an element that was read behind a gap ends further on
pub came_past : {s : List ℕ} {i t d left : ℕ} {o : Outcome} {w r : Walk} → Walked s i o w → w ≡ Ok t → WalkedElement s (t + 1) left r → r ≡ Ok d
    → (i < d) × (d ≤ length s)
came_past {s} {i} {t} {d} gap e read f =
    let u = walked_at gap e in
    let v : Reached s (t + 1 + 1) d = subst (λ (x : Walk). Within s (t + 1 + 1) x) f read.within in
    (omega arith, v.1)

module _ {s : List ℕ} {a left : ℕ} {text : Bool} {i : ℕ} (so : Coming s a left text i) {w : Walk}
    (gap : Walked s i (between text (drop i s)) w) where
  abbrev fewer : (k : ℕ) → length s ≤ a + k → ℕ
  fewer k h = (so.came k h).calls - 1

  abbrev behind : (k : ℕ) → length s ≤ a + k → List ℕ → Outcome
  behind k h t = content (fewer k h) left text t

  came_step : (k : ℕ) (h : length s ≤ a + k) (x : Walk) → w ≡ x
      → content k left text (drop a s) ≡ and_then (of_walk s x) (further left text (fewer k h))
  came_step k h x e =
      let c = so.came k h in
      c.is ∙ content_step left text s i c.calls c.enough
      ∙ ap (λ (o : Outcome). and_then o (further left text (fewer k h))) (sym gap.is)
      ∙ ap (λ (y : Walk). and_then (of_walk s y) (further left text (fewer k h))) e

  -- what stands between tags is malformed
  pub came_bad : {n : Fault} → w ≡ Err n → WalkedContent s a left text (Err n)
  came_bad {n} e = record { within = tt; is = λ k h. sym (came_step k h (Err n) e) }

  -- behind it at t: no start tag stands there
  module _ {t : ℕ} (e : w ≡ Ok t) {b : Bool} (o : b ≡ opens (drop t s)) where
    pub came_ends : b ≡ false → WalkedContent s a left text (Ok t)
    came_ends q =
        let r = walked_at gap e in
        let f : a ≤ i = so.from in
        let p : opens (drop t s) ≡ false = sym o ∙ q in
        record { within = (omega arith, r.1); is = λ k h. sym (came_step k h (Ok t) e ∙ rw p) }

    -- one does, and its element is read from behind the `<` on
    module _ (q : b ≡ true) {v : Result ⊤ Fault} (st : v ≡ stops left text (drop (t + 1) s)) where
      abbrev inner : (k : ℕ) → length s ≤ a + k → List ℕ → Outcome
      inner k h u = element (fewer k h) (left - 1) u

      came_nested : (k : ℕ) (h : length s ≤ a + k)
          → content k left text (drop a s) ≡ and_then (let_through v (inner k h (drop (t + 1) s))) (behind k h)
      came_nested k h =
          let p : opens (drop t s) ≡ true = sym o ∙ q in
          came_step k h (Ok t) e ∙ rw (p, nested_stops (inner k h) left text (drop 1 (drop t s)), drop-drop 1 t s, ← st)

      -- it is refused
      pub came_refused : {n : Fault} → v ≡ Err n → WalkedContent s a left text (Err n)
      came_refused z = record { within = tt; is = λ k h. sym (came_nested k h ∙ rw z) }

      module _ {u : ⊤} (z : v ≡ Ok u) {r : Walk} (read : WalkedElement s (t + 1) (left - 1) r) where
        came_element : (k : ℕ) (h : length s ≤ a + k) (x : Walk) → r ≡ x → content k left text (drop a s) ≡ and_then (of_walk s x) (behind k h)
        came_element k h x f =
            let l = walked_at gap e in
            let m : length s ≤ i + (so.came k h).calls = (so.came k h).enough in
            let g : content k left text (drop a s) ≡ and_then (of_walk s r) (behind k h) =
            came_nested k h ∙ rw (z, ← read.is (fewer k h) (omega arith)) in
            g ∙ ap (λ (y : Walk). and_then (of_walk s y) (behind k h)) f

        pub came_off : {m : Fault} → r ≡ Err m → WalkedContent s a left text (Err m)
        came_off {m} f = record { within = tt; is = λ k h. sym (came_element k h (Err m) f) }

        pub came_on : {d : ℕ} → r ≡ Ok d → Coming s a left text d
        came_on {d} f =
            let l = came_past gap e read f in
            let g : a ≤ i = so.from in
            record {
              from = omega arith;
              to = l.1;
              came = λ k h. record {
                calls = fewer k h;
                enough = let m : length s ≤ i + (so.came k h).calls = (so.came k h).enough in omega arith;
                is = came_element k h (Ok d) f;
              };
            }

-- AN ELEMENT whose tag was read from a on
no_tag : start_tag [] ≡ NoTag
unfolding start_tag letter
no_tag = refl

-- what it holds
abbrev holding : ℕ → ℕ → List ℕ → Outcome
holding left k t = content k left true t

element_step : (s : List ℕ) (a left k : ℕ) → length s ≤ a + k
    → element k left (drop a s) ≡ element_of (holding left (k - 1)) (start_tag (drop a s))
unfolding element
element_step s a left zero h =
    let g : length s ≤ a = omega (arith, h) in
    rw (drop_of_length-le s g, no_tag)
element_step s a left (suc k) h = let e : suc k - 1 ≡ k = omega arith in rw e

module _ {s : List ℕ} {a : ℕ} (left : ℕ) {r : Optional StartTag} (tag : TagAt s a r) where
  element_tag : (k : ℕ) → length s ≤ a + k → (x : Optional StartTag) → r ≡ x
      → element k left (drop a s) ≡ element_of (holding left (k - 1)) (of_tagged s a x)
  element_tag k h x e =
      element_step s a left k h ∙ ap (element_of (holding left (k - 1))) (sym tag.is)
      ∙ ap (λ (y : Optional StartTag). element_of (holding left (k - 1)) (of_tagged s a y)) e

  pub tagless : r ≡ None → WalkedElement s a left (Err Malformed)
  tagless e = record { within = tt; is = λ k h. sym (element_tag k h None e) }

  module _ {t : StartTag} (e : r ≡ Some t) where
    -- an empty tag
    pub emptied : t.empty ≡ true → WalkedElement s a left (Ok t.next)
    emptied b =
        let v = tag_reach tag e in
        record { within = (omega arith, v.2); is = λ k h. sym (element_tag k h (Some t) e ∙ rw b) }

    -- what it holds, and its end tag
    module _ (b : t.empty ≡ false) {w : Walk} (inside : WalkedContent s t.next left true w) where
      abbrev closed : List ℕ → Outcome
      closed u = end_tag (part a (t.name_end - a) s) u

      element_inside : (k : ℕ) → length s ≤ a + k → (x : Walk) → w ≡ x → element k left (drop a s) ≡ and_then (of_walk s x) closed
      element_inside k h x f =
          let v = tag_reach tag e in
          let g : element k left (drop a s) ≡ and_then (of_walk s w) closed =
          element_tag k h (Some t) e ∙ rw (b, ← inside.is (k - 1) (omega arith)) in
          g ∙ ap (λ (y : Walk). and_then (of_walk s y) closed) f

      pub held_off : {n : Fault} → w ≡ Err n → WalkedElement s a left (Err n)
      held_off {n} f = record { within = tt; is = λ k h. sym (element_inside k h (Err n) f) }

      pub held_on : {d : ℕ} → w ≡ Ok d → {x : Walk} → Walked s d (end_tag (part a (t.name_end - a) s) (drop d s)) x → WalkedElement s a left x
      held_on {d} f {x} q =
          let v = tag_reach tag e in
          let u = content_at inside f in
          record { within = within_from s (a + 1) d (omega arith) x q.within; is = λ k h. q.is ∙ sym (element_inside k h (Ok d) f) }
