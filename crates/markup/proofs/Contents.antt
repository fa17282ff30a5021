-- Elements and content in a text p before a `<`: what ends in p ends there whatever follows the `<`.
-- Assumes nothing.
use Prim.Native.Nat.{ℕ, zero, suc, ◌+◌, ◌-◌, ◌≤◌, ◌<◌}
use native.Mathlib.Omega.{arith}
use mathlib.Core.Path.{◌≡◌, refl, sym, ap, ◌∙◌}
use mathlib.Core.Bool.{Bool, true, false, not, ◌&&◌}
use mathlib.Core.List.{List, [], ◌∷◌, ◌++◌}
use lib.Dec.{eqb}
use lib.ListN.{length, get_or, length-append}
use Rattle.markup.specs.Marks.{Outcome, On, Not, either, and_then, name_at, prefixed}
use Rattle.markup.specs.Tags.{Tag, Started, Begun, NoTag, start_tag, end_tag, opens}
use Rattle.markup.specs.Elements.{gaps, between, held, element_of, goes_on, element, content}
use Rattle.markup.proofs.Fronts.{clear, farther, first_name_front, name_front}
use Rattle.markup.proofs.FrontTags.{onward, start_front}
use Rattle.markup.proofs.EndTags.{name_bytes_lem, name_clear, end_front, start_named}
use Rattle.markup.proofs.FrontGaps.{Both, and_on, gaps_less, gaps_front, gaps_past}
use Rattle.markup.proofs.Remains.{remains_less, end_remains, goes_remains, element_remains, content_remains}

-- what follows the `<` is no `/`: no end tag stands there
abbrev pub Cut : List ℕ → Type 0
Cut r = eqb (get_or r 0 0) 47 ≡ false

-- ELEMENTS AND CONTENT, one call
pub element_front : (k left : ℕ) (p r : List ℕ) (g : Tag) (s : List ℕ) → start_tag p ≡ Begun g s
    → element (suc k) left (p ++ (60 ∷ r)) ≡ held g (λ (t : List ℕ). content k left true t) (s ++ (60 ∷ r))
unfolding element
element_front k left p r g s e = rw (start_front p r, e)

pub opens_front : (b : ℕ) (q r : List ℕ) → opens ((b ∷ q) ++ (60 ∷ r)) ≡ opens (b ∷ q)
opens_front b q r = ap (λ (x : Bool). eqb b 60 && x) (first_name_front q r)

abbrev pub goes : Bool → Bool → Bool → (List ℕ → Outcome) → (List ℕ → Outcome) → ℕ → List ℕ → Outcome
goes x y w inner more b s = either x (and_then (either y (Not 20) (either w (Not 19) (inner s))) more) (On (b ∷ s))

pub goes_front : (inner more : List ℕ → Outcome) (left : ℕ) (text : Bool) (b : ℕ) (q r : List ℕ) → goes_on inner more left text ((b ∷ q) ++ (60 ∷ r))
    ≡ goes (opens (b ∷ q)) (eqb left 0) (not text && not (prefixed (name_at q))) inner more b (q ++ (60 ∷ r))
goes_front inner more left text b q r = rw (opens_front b q r, name_front q r)

pub content_step : (k left : ℕ) (text : Bool) (s : List ℕ) → content (suc k) left text s
    ≡ and_then (between text s) (goes_on (λ (t : List ℕ). element k (left - 1) t) (λ (t : List ℕ). content k left text t) left text)
unfolding content
content_step k left text s = refl

pub gap_on : (text : Bool) (p : List ℕ) (b : ℕ) (q : List ℕ) → between text p ≡ On (b ∷ q) → (r : List ℕ)
    → between text (p ++ (60 ∷ r)) ≡ On ((b ∷ q) ++ (60 ∷ r))
gap_on text p b q e r = gaps_front (length p) (length (p ++ (60 ∷ r))) (length (60 ∷ r)) text p r (b ∷ q) (omega arith) (omega arith) (omega arith) e

pub content_front : (k left : ℕ) (text : Bool) (p r : List ℕ) (b : ℕ) (q : List ℕ) → between text p ≡ On (b ∷ q) → content (suc k) left text (p ++ (60 ∷ r))
    ≡ goes (opens (b ∷ q)) (eqb left 0) (not text && not (prefixed (name_at q)))
    (λ (t : List ℕ). element k (left - 1) t) (λ (t : List ℕ). content k left text t) b (q ++ (60 ∷ r))
content_front k left text p r b q e =
    content_step k left text (p ++ (60 ∷ r)) ∙ rw (gap_on text p b q e r)
    (goes_front (λ (t : List ℕ). element k (left - 1) t) (λ (t : List ℕ). content k left text t) left text b q r)

-- WHAT ENDS IN p
pub record KeptElement (left : ℕ) (p t z : List ℕ) : Type 0 where
  pub rest : List ℕ
  pub is : t ≡ rest ++ z
  pub also : (k : ℕ) (r : List ℕ) → Cut r → length (p ++ (60 ∷ r)) ≤ k → element k left (p ++ (60 ∷ r)) ≡ On (rest ++ (60 ∷ r))

pub record KeptContent (left : ℕ) (text : Bool) (p t z : List ℕ) : Type 0 where
  pub rest : List ℕ
  pub is : t ≡ rest ++ z
  pub also : (k : ℕ) (r : List ℕ) → Cut r → length (p ++ (60 ∷ r)) ≤ k → content k left text (p ++ (60 ∷ r)) ≡ On (rest ++ (60 ∷ r))

abbrev ElementsKept : ℕ → Type 0
ElementsKept k = (left : ℕ) (p r t : List ℕ) → Cut r → length (p ++ (60 ∷ r)) ≤ k → element k left (p ++ (60 ∷ r)) ≡ On t → length (60 ∷ r) ≤ length t
    → KeptElement left p t (60 ∷ r)

abbrev ContentKept : ℕ → Type 0
ContentKept k = (left : ℕ) (text : Bool) (p r t : List ℕ) → Cut r → length (p ++ (60 ∷ r)) ≤ k → content k left text (p ++ (60 ∷ r)) ≡ On t
    → length (60 ∷ r) < length t → KeptContent left text p t (60 ∷ r)

pub record Farther (o : Outcome) (z t : List ℕ) : Type 0 where
  pub mid : List ℕ
  pub first : o ≡ On mid
  pub is : t ≡ mid ++ z

pub farther_on : (o : Outcome) (z t : List ℕ) → farther z o ≡ On t → Farther o z t
farther_on (On s) z t e = let d : s ++ z ≡ t = cc in record { mid = s; first = refl; is = sym d }
farther_on (Not n) z t e = absurd (let z : ◌≡◌ {A = ℕ} 0 1 = cc in omega arith)

-- the end tag of a tag's name
tag_clear : (p : List ℕ) (g : Tag) (s : List ℕ) → start_tag p ≡ Begun g s → clear g.name ≡ true
tag_clear p g s e = rw (start_named p g s e).0 (name_clear (name_at p) (name_bytes_lem p))

pub tag_end_front : (p : List ℕ) (g : Tag) (s : List ℕ) → start_tag p ≡ Begun g s → (q r : List ℕ) → Cut r
    → end_tag g.name (q ++ (60 ∷ r)) ≡ farther (60 ∷ r) (end_tag g.name q)
tag_end_front p g s e q r c = end_front g.name (tag_clear p g s e) q r c

pub held_empty : (g : Tag) (inside : List ℕ → Outcome) (s : List ℕ) → g.empty ≡ true → held g inside s ≡ On s
held_empty g inside s e = rw e

pub held_full : (g : Tag) (inside : List ℕ → Outcome) (s : List ℕ) → g.empty ≡ false → held g inside s ≡ and_then (inside s) (end_tag g.name)
held_full g inside s e = rw e

module _ (left : ℕ) (p : List ℕ) (g : Tag) (s : List ℕ) (f : start_tag p ≡ Begun g s) where
  empty_runs : g.empty ≡ true → (k : ℕ) (r : List ℕ) → Cut r → length (p ++ (60 ∷ r)) ≤ k → element k left (p ++ (60 ∷ r)) ≡ On (s ++ (60 ∷ r))
  empty_runs m zero r c h = absurd (omega (arith, length-append p (60 ∷ r)))
  empty_runs m (suc k) r c h = element_front k left p r g s f ∙ held_empty g (λ (t : List ℕ). content k left true t) (s ++ (60 ∷ r)) m

  full_runs : g.empty ≡ false → (rest q : List ℕ)
      → ((k : ℕ) (r : List ℕ) → Cut r → length (s ++ (60 ∷ r)) ≤ k → content k left true (s ++ (60 ∷ r)) ≡ On (rest ++ (60 ∷ r)))
      → end_tag g.name rest ≡ On q → (k : ℕ) (r : List ℕ) → Cut r → length (p ++ (60 ∷ r)) ≤ k → element k left (p ++ (60 ∷ r)) ≡ On (q ++ (60 ∷ r))
  full_runs m rest q w e zero r c h = absurd (omega (arith, length-append p (60 ∷ r)))
  full_runs m rest q w e (suc k) r c h =
      let l : length s < length p = (start_named p g s f).1 in
      let n : length (s ++ (60 ∷ r)) ≤ k = omega (arith, length-append p (60 ∷ r), length-append s (60 ∷ r)) in
      element_front k left p r g s f ∙ held_full g (λ (t : List ℕ). content k left true t) (s ++ (60 ∷ r)) m
      ∙ ap (λ (o : Outcome). and_then o (end_tag g.name)) (w k r c n)
      ∙ tag_end_front p g s f rest r c ∙ ap (farther (60 ∷ r)) e

element_turn : (k : ℕ) → ContentKept k → ElementsKept (suc k)
unfolding element
element_turn k IH left p r t c h e l = go (start_tag p) refl
  where
    inside : List ℕ → Outcome
    inside u = content k left true u

    filled : (g : Tag) (s : List ℕ) → start_tag p ≡ Begun g s → (x : Bool) → g.empty ≡ x → KeptElement left p t (60 ∷ r)
    filled g s f true m =
        let d : On (s ++ (60 ∷ r)) ≡ On t = sym (element_front k left p r g s f ∙ held_empty g inside (s ++ (60 ∷ r)) m) ∙ e in
        let i : s ++ (60 ∷ r) ≡ t = cc in
        record { rest = s; is = sym i; also = empty_runs left p g s f m }
    filled g s f false m =
        let w : Both (inside (s ++ (60 ∷ r))) (end_tag g.name) t =
        and_on (inside (s ++ (60 ∷ r))) (end_tag g.name) t (sym (element_front k left p r g s f ∙ held_full g inside (s ++ (60 ∷ r)) m) ∙ e) in
        let lt : length t < length w.mid = (end_remains g.name w.mid t w.then).1 in
        let ls : length s < length p = (start_named p g s f).1 in
        let n : length (s ++ (60 ∷ r)) ≤ k = omega (arith, length-append p (60 ∷ r), length-append s (60 ∷ r)) in
        let kept : KeptContent left true s w.mid (60 ∷ r) = IH left true s r w.mid c n w.first (omega arith) in
        let u : Farther (end_tag g.name kept.rest) (60 ∷ r) t =
        farther_on (end_tag g.name kept.rest) (60 ∷ r) t
        (sym (tag_end_front p g s f kept.rest r c) ∙ ap (end_tag g.name) (sym kept.is) ∙ w.then) in
        record { rest = u.mid; is = u.is; also = full_runs left p g s f m kept.rest u.mid kept.also u.first }

    go : (x : Started) → start_tag p ≡ x → KeptElement left p t (60 ∷ r)
    go (Begun g s) f = filled g s f g.empty refl
    go NoTag f =
        let d : Not 19 ≡ On t = sym (ap (element_of inside) (start_front p r ∙ ap (onward (60 ∷ r)) f)) ∙ e in
        absurd (let z : ◌≡◌ {A = ℕ} 0 1 = cc in omega arith)

-- the content goes on in p with q, behind an element that leaves e
module _ (left : ℕ) (text : Bool) (p : List ℕ) (b : ℕ) (q : List ℕ) (gap : between text p ≡ On (b ∷ q)) where
  stop_runs : opens (b ∷ q) ≡ false → (k : ℕ) (r : List ℕ) → Cut r → length (p ++ (60 ∷ r)) ≤ k → content k left text (p ++ (60 ∷ r)) ≡ On ((b ∷ q) ++ (60 ∷ r))
  stop_runs o zero r c h = absurd (omega (arith, length-append p (60 ∷ r)))
  stop_runs o (suc k) r c h = content_front k left text p r b q gap ∙ rw o

  go_runs : opens (b ∷ q) ≡ true → eqb left 0 ≡ false → (not text && not (prefixed (name_at q))) ≡ false → (e t : List ℕ)
      → ((k : ℕ) (r : List ℕ) → Cut r → length (q ++ (60 ∷ r)) ≤ k → element k (left - 1) (q ++ (60 ∷ r)) ≡ On (e ++ (60 ∷ r)))
      → length e ≤ length q
      → ((k : ℕ) (r : List ℕ) → Cut r → length (e ++ (60 ∷ r)) ≤ k → content k left text (e ++ (60 ∷ r)) ≡ On (t ++ (60 ∷ r)))
      → (k : ℕ) (r : List ℕ) → Cut r → length (p ++ (60 ∷ r)) ≤ k → content k left text (p ++ (60 ∷ r)) ≡ On (t ++ (60 ∷ r))
  go_runs o n x e t w l v zero r c h = absurd (omega (arith, length-append p (60 ∷ r)))
  go_runs o n x e t w l v (suc k) r c h =
      let a : length (b ∷ q) ≤ length p = gaps_less (length p) text p (b ∷ q) gap in
      let f : length (q ++ (60 ∷ r)) ≤ k = omega (arith, length-append p (60 ∷ r), length-append q (60 ∷ r)) in
      let g : length (e ++ (60 ∷ r)) ≤ k = omega (arith, length-append q (60 ∷ r), length-append e (60 ∷ r)) in
      content_front k left text p r b q gap ∙ rw (o, n, x, w k r c f) (v k r c g)

content_turn : (k : ℕ) → ElementsKept k → ContentKept k → ContentKept (suc k)
content_turn k IE IC left text p r t c h e l = go (between text p) refl
  where
    inner : List ℕ → Outcome
    inner u = element k (left - 1) u

    more : List ℕ → Outcome
    more u = content k left text u

    w : Both (between text (p ++ (60 ∷ r))) (goes_on inner more left text) t
    w = and_on (between text (p ++ (60 ∷ r))) (goes_on inner more left text) t (sym (content_step k left text (p ++ (60 ∷ r))) ∙ e)

    less : length t ≤ length w.mid
    less =
        remains_less w.mid t (goes_remains inner more left text w.mid t (λ (u v : List ℕ) x. (element_remains k (left - 1) u v x).0)
        (λ (u : List ℕ) x. content_remains k left text u t x) w.then)

    bits : (b : ℕ) (q : List ℕ) → between text p ≡ On (b ∷ q) → (x y z : Bool) → opens (b ∷ q) ≡ x → eqb left 0 ≡ y
        → (not text && not (prefixed (name_at q))) ≡ z → goes x y z inner more b (q ++ (60 ∷ r)) ≡ On t → KeptContent left text p t (60 ∷ r)
    bits b q f true true z x1 y1 z1 d = absurd (let z : ◌≡◌ {A = ℕ} 0 1 = cc in omega arith)
    bits b q f true false true x1 y1 z1 d = absurd (let z : ◌≡◌ {A = ℕ} 0 1 = cc in omega arith)
    bits b q f true false false x1 y1 z1 d =
        let a : length (b ∷ q) ≤ length p = gaps_less (length p) text p (b ∷ q) f in
        let n : length (q ++ (60 ∷ r)) ≤ k = omega (arith, length-append p (60 ∷ r), length-append q (60 ∷ r)) in
        let v : Both (inner (q ++ (60 ∷ r))) more t = and_on (inner (q ++ (60 ∷ r))) more t d in
        let lv : length t ≤ length v.mid = remains_less v.mid t (content_remains k left text v.mid t v.then) in
        let lq : length v.mid < length (q ++ (60 ∷ r)) = (element_remains k (left - 1) (q ++ (60 ∷ r)) v.mid v.first).1 in
        let ke : KeptElement (left - 1) q v.mid (60 ∷ r) = IE (left - 1) q r v.mid c n v.first (omega arith) in
        let le : length v.mid ≡ length ke.rest + length (60 ∷ r) = ap length ke.is ∙ length-append ke.rest (60 ∷ r) in
        let lr : length ke.rest ≤ length q = omega (arith, length-append q (60 ∷ r)) in
        let ln : length (ke.rest ++ (60 ∷ r)) ≤ k = omega (arith, ap length ke.is) in
        let kc : KeptContent left text ke.rest t (60 ∷ r) = IC left text ke.rest r t c ln (ap more (sym ke.is) ∙ v.then) l in
        record { rest = kc.rest; is = kc.is; also = go_runs left text p b q f x1 y1 z1 ke.rest kc.rest ke.also lr kc.also }
    bits b q f false y z x1 y1 z1 d =
        let i : (b ∷ q) ++ (60 ∷ r) ≡ t = cc in
        record { rest = b ∷ q; is = sym i; also = stop_runs left text p b q f x1 }

    go : (o : Outcome) → between text p ≡ o → KeptContent left text p t (60 ∷ r)
    go (On []) f =
        let g : gaps (length (60 ∷ r)) text (60 ∷ r) ≡ On w.mid =
        sym (gaps_front (length p) (length (p ++ (60 ∷ r))) (length (60 ∷ r)) text p r [] (omega arith) (omega arith) (omega arith) f) ∙ w.first in
        absurd (omega (arith, gaps_less (length (60 ∷ r)) text (60 ∷ r) w.mid g, less))
    go (On (b ∷ q)) f =
        bits b q f (opens (b ∷ q)) (eqb left 0) (not text && not (prefixed (name_at q))) refl refl refl (sym (content_front k left text p r b q f) ∙ e)
    go (Not n) f = absurd (omega (arith, gaps_past (length p) (length (p ++ (60 ∷ r))) text p r n w.mid (omega arith) f w.first, less))

kept : (k : ℕ) → ElementsKept k × ContentKept k
kept zero = (
  (λ (left : ℕ) (p r t : List ℕ) c h e l. absurd (omega (arith, length-append p (60 ∷ r)))),
  (λ (left : ℕ) (text : Bool) (p r t : List ℕ) c h e l. absurd (omega (arith, length-append p (60 ∷ r)))),
)
kept (suc k) = (element_turn k (kept k).1, content_turn k (kept k).0 (kept k).1)

pub element_kept : (k left : ℕ) (p r t : List ℕ) → Cut r → length (p ++ (60 ∷ r)) ≤ k → element k left (p ++ (60 ∷ r)) ≡ On t → length (60 ∷ r) ≤ length t
    → KeptElement left p t (60 ∷ r)
element_kept k = (kept k).0

pub content_kept : (k left : ℕ) (text : Bool) (p r t : List ℕ) → Cut r → length (p ++ (60 ∷ r)) ≤ k → content k left text (p ++ (60 ∷ r)) ≡ On t
    → length (60 ∷ r) < length t → KeptContent left text p t (60 ∷ r)
content_kept k = (kept k).1
