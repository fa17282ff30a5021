-- Where elements or content give 20: all before the start tag that is too deep, a comment and the end tags of what is open would be read.
-- Assumes nothing.
use Prim.Native.Nat.{ℕ, zero, suc, ◌-◌, ◌≤◌, ◌<◌}
use native.Mathlib.Omega.{arith}
use mathlib.Core.Path.{◌≡◌, refl, sym, ap, ◌∙◌, subst}
use mathlib.Core.Bool.{Bool, true, false, not, ◌&&◌}
use mathlib.Core.List.{List, [], ◌∷◌, ◌++◌, flat_map, append_assoc}
use lib.Dec.{eqb}
use lib.ListN.{length, get_or, take, drop, length-append}
use borrow.Author.Tests.{eqb-true, eqb-false}
use Rattle.base.proofs.Bools.{and_left, and_right}
use Rattle.chars.specs.Bytes.{letter}
use Rattle.chars.specs.Lists.{all}
use Rattle.markup.specs.Marks.{Outcome, On, Not, either, and_then, name_first, name_at, prefixed}
use Rattle.markup.specs.Tags.{Tag, Started, Begun, NoTag, start_tag, end_tag, opens}
use Rattle.markup.specs.Elements.{gaps, between, held, element_of, goes_on, element, content}
use Rattle.markup.specs.Depth.{end_tags, is_name}
use Rattle.markup.proofs.Refusals.{gaps_never, end_never, Refused, Early, Late, and_not}
use Rattle.markup.proofs.Fronts.{name_front}
use Rattle.markup.proofs.EndTags.{end_own, start_named}
use Rattle.markup.proofs.FrontGaps.{empty_comment, gaps_less, gaps_front}
use Rattle.markup.proofs.Remains.{Remains, remains_split, gaps_remain, start_remains, element_remains}
use Rattle.markup.proofs.Contents.{Cut, element_front, opens_front, content_front, content_step, held_empty, held_full, KeptElement, element_kept}
use Rattle.markup.proofs.Openings.{same_front, first_not_lem, gap_stops, gap_passes, gap_back, start_back, content_stops, ends_last, all_last, name_is}

-- DEEP: the start tag, n elements being open there
pub record Deep (s : List ℕ) (n : ℕ) (Closes : List ℕ → List (List ℕ) → Type 0) : Type 0 where
  pub front : List ℕ
  pub tag : List ℕ
  pub is : s ≡ front ++ (60 ∷ tag)
  pub first : name_first (get_or tag 0 0) ≡ true
  pub names : List (List ℕ)
  pub named : all is_name names ≡ true
  pub count : length names ≡ n
  pub closes : Closes front names

-- the comment, the end tags and e
abbrev pub closed : List (List ℕ) → List ℕ → List ℕ
closed names e = empty_comment ++ (end_tags names ++ e)

abbrev pub ElementCloses : ℕ → List ℕ → List (List ℕ) → Type 0
ElementCloses left p names = (k : ℕ) (e : List ℕ) → length (p ++ closed names e) ≤ k → element k left (p ++ closed names e) ≡ On e

abbrev pub ContentCloses : ℕ → Bool → List ℕ → List (List ℕ) → Type 0
ContentCloses left text p names = (k : ℕ) (e : List ℕ) → length (p ++ closed names (60 ∷ 47 ∷ e)) ≤ k
    → content k left text (p ++ closed names (60 ∷ 47 ∷ e)) ≡ On (60 ∷ 47 ∷ e)

pub cut_first : (r : List ℕ) → name_first (get_or r 0 0) ≡ true → Cut r
unfolding letter
cut_first r e = first_not_lem 47 refl (get_or r 0 0) e

-- one more end tag
pub closed_last : (names : List (List ℕ)) (n e : List ℕ) → closed (names ++ (n ∷ [])) e ≡ closed names (60 ∷ 47 ∷ (n ++ (62 ∷ e)))
closed_last names n e = ap (λ (l : List ℕ). empty_comment ++ l) (ends_last names n e)

-- AN ELEMENT, from its content
element_closes : (left : ℕ) (p : List ℕ) (g : Tag) (q : List ℕ) → start_tag p ≡ Begun g q → g.empty ≡ false → (names : List (List ℕ))
    → ContentCloses left true q names → ElementCloses left p (names ++ (g.name ∷ []))
element_closes left p g q f m names w zero e h = absurd (omega (arith, length-append p (closed (names ++ (g.name ∷ [])) e)))
element_closes left p g q f m names w (suc k) e h =
    let x : List ℕ = closed names (60 ∷ 47 ∷ (g.name ++ (62 ∷ e))) in
    let i : closed (names ++ (g.name ∷ [])) e ≡ x = closed_last names g.name e in
    let l : length q < length p = (start_named p g q f).1 in
    let n : length (q ++ x) ≤ k = omega (arith, length-append p (closed (names ++ (g.name ∷ [])) e), length-append q x, ap length i) in
    ap (λ (z : List ℕ). element (suc k) left (p ++ z)) i ∙ element_front k left p (drop 1 x) g q f
    ∙ held_full g (λ (t : List ℕ). content k left true t) (q ++ x) m ∙ ap (λ (o : Outcome). and_then o (end_tag g.name)) (w k (g.name ++ (62 ∷ e)) n)
    ∙ end_own g.name e

ElementsDeep : ℕ → Type 0
ElementsDeep k = (left : ℕ) (s : List ℕ) → length s ≤ k → element k left s ≡ Not 20 → Deep s (suc left) (ElementCloses left)

ContentDeep : ℕ → Type 0
ContentDeep k = (left : ℕ) (text : Bool) (s : List ℕ) → length s ≤ k → content k left text s ≡ Not 20 → Deep s left (ContentCloses left text)

-- the tag before content that is deep
pub deep_tag : (C D : List ℕ → List (List ℕ) → Type 0) (n : ℕ) (s : List ℕ) (g : Tag) (t : List ℕ) → start_tag s ≡ Begun g t
    → ((p q : List ℕ) (names : List (List ℕ)) → start_tag p ≡ Begun g q → C q names → D p (names ++ (g.name ∷ []))) → Deep t n C → Deep s (suc n) D
deep_tag C D n s g t f c d =
    let w : Remains s t = start_remains s g t f in
    let u : List ℕ = take w.read s in
    let y : List ℕ = 60 ∷ d.tag in
    let i : s ≡ (u ++ d.front) ++ y = remains_split s t w ∙ ap (λ (l : List ℕ). u ++ l) d.is ∙ sym (append_assoc u d.front y) in
    let b : start_tag (u ++ d.front) ≡ Begun g d.front =
    start_back (u ++ d.front) d.front d.tag g (ap start_tag (sym i) ∙ f ∙ ap (Begun g) d.is) in
    let m : is_name g.name ≡ true = rw (start_named s g t f).0 (name_is s) in
    record {
      front = u ++ d.front;
      tag = d.tag;
      is = i;
      first = d.first;
      names = d.names ++ (g.name ∷ []);
      named = all_last is_name d.names g.name d.named m;
      count = omega (arith, d.count, length-append d.names (g.name ∷ []));
      closes = c (u ++ d.front) d.front d.names b d.closes;
    }

element_turn : (k : ℕ) → ContentDeep k → ElementsDeep (suc k)
unfolding element ElementsDeep ContentDeep
element_turn k IH left s h e = go (start_tag s) refl e
  where
    inside : List ℕ → Outcome
    inside t = content k left true t

    second : (g : Tag) (t : List ℕ) → start_tag s ≡ Begun g t → g.empty ≡ false → Refused (inside t) (end_tag g.name) → Deep s (suc left) (ElementCloses left)
    second g t f m (Early z) =
        deep_tag (ContentCloses left true) (ElementCloses left) left s g t f
        (λ (p q : List ℕ) (names : List (List ℕ)) b c. element_closes left p g q b m names c) (IH left true t (omega (arith, start_named s g t f)) z)
    second g t f m (Late u y z) = absurd (end_never g.name u z)

    full : (g : Tag) (t : List ℕ) → start_tag s ≡ Begun g t → (x : Bool) → g.empty ≡ x → held g inside t ≡ Not 20 → Deep s (suc left) (ElementCloses left)
    full g t f true m z = let y : On t ≡ Not 20 = sym (held_empty g inside t m) ∙ z in absurd (let z : ◌≡◌ {A = ℕ} 0 1 = cc in omega arith)
    full g t f false m z = second g t f m (and_not (inside t) (end_tag g.name) (sym (held_full g inside t m) ∙ z))

    go : (x : Started) → start_tag s ≡ x → element_of inside x ≡ Not 20 → Deep s (suc left) (ElementCloses left)
    go (Begun g t) f z = full g t f g.empty refl z
    go NoTag f z = let y : ◌≡◌ {A = ℕ} 19 20 = cc in absurd (omega arith)

-- CONTENT that the tag stands in,
content_here : (left : ℕ) (text : Bool) (p : List ℕ) → between text p ≡ On [] → ContentCloses left text p []
unfolding flat_map letter
content_here left text p f zero e h = absurd (omega (arith, length-append p (closed [] (60 ∷ 47 ∷ e))))
content_here left text p f (suc k) e h =
    let s : List ℕ = 60 ∷ 47 ∷ e in
    let x : List ℕ = empty_comment ++ s in
    let g : between text (p ++ x) ≡ gaps (suc (length x)) text x =
    gaps_front (length p) (length (p ++ x)) (suc (length x)) text p (drop 1 x) [] (omega arith) (omega arith) (omega arith) f in
    let i : between text (p ++ x) ≡ On s = g ∙ gap_passes (length x) text s ∙ gap_stops (length x) text (47 ∷ e) refl in
    content_step k left text (p ++ x) ∙ rw i

-- and content that an element stands in, which holds the tag or is passed before it
module _ (left : ℕ) (text : Bool) (p q : List ℕ) (gap : between text p ≡ On (60 ∷ q)) (o : opens (60 ∷ q) ≡ true) (n : eqb left 0 ≡ false)
    (b : (not text && not (prefixed (name_at q))) ≡ false) (names : List (List ℕ)) where
  shorter : length (60 ∷ q) ≤ length p
  shorter = gaps_less (length p) text p (60 ∷ q) gap

  content_into : ElementCloses (left - 1) q names → ContentCloses left text p names
  content_into w zero e h = absurd (omega (arith, length-append p (closed names (60 ∷ 47 ∷ e))))
  content_into w (suc k) e h =
      let x : List ℕ = closed names (60 ∷ 47 ∷ e) in
      let l : length (q ++ x) ≤ k = omega (arith, shorter, length-append p x, length-append q x) in
      content_front k left text p (drop 1 x) 60 q gap ∙ rw (o, n, b, w k (60 ∷ 47 ∷ e) l) (content_stops k left text e)

  content_over : (t : List ℕ) → ((k : ℕ) (r : List ℕ) → Cut r → length (q ++ (60 ∷ r)) ≤ k → element k (left - 1) (q ++ (60 ∷ r)) ≡ On (t ++ (60 ∷ r)))
      → length t ≤ length q → ContentCloses left text t names → ContentCloses left text p names
  content_over t w l v zero e h = absurd (omega (arith, length-append p (closed names (60 ∷ 47 ∷ e))))
  content_over t w l v (suc k) e h =
      let x : List ℕ = closed names (60 ∷ 47 ∷ e) in
      let a : length (q ++ x) ≤ k = omega (arith, shorter, length-append p x, length-append q x) in
      let c : length (t ++ x) ≤ k = omega (arith, length-append q x, length-append t x) in
      content_front k left text p (drop 1 x) 60 q gap ∙ rw (o, n, b, w k (drop 1 x) refl a) (v k e c)

-- THE TAG in content: q stands behind the `<` that the content comes to
module _ (left : ℕ) (text : Bool) (s q : List ℕ) (f : between text s ≡ On (60 ∷ q)) (first : name_first (get_or q 0 0) ≡ true) where
  came : Remains s (60 ∷ q)
  came = gaps_remain (length s) text s (60 ∷ q) f

  pub before : List ℕ
  before = take came.read s

  split : s ≡ before ++ (60 ∷ q)
  unfolding before
  split = remains_split s (60 ∷ q) came

  deep_here : left ≡ 0 → Deep s left (ContentCloses left text)
  deep_here e =
      record {
        front = before;
        tag = q;
        is = split;
        first = first;
        names = [];
        named = refl;
        count = sym e;
        closes = content_here left text before (gap_back text before [] q (ap (between text) (sym split) ∙ f));
      }

  -- q is p and what follows another `<`
  module _ (p tag : List ℕ) (i : q ≡ p ++ (60 ∷ tag)) where
    pub whole : s ≡ (before ++ (60 ∷ p)) ++ (60 ∷ tag)
    whole = split ∙ ap (λ (l : List ℕ). before ++ (60 ∷ l)) i ∙ sym (append_assoc before (60 ∷ p) (60 ∷ tag))

    pub gap_is : between text (before ++ (60 ∷ p)) ≡ On (60 ∷ p)
    gap_is = gap_back text (before ++ (60 ∷ p)) (60 ∷ p) tag (ap (between text) (sym whole) ∙ f ∙ ap (λ (l : List ℕ). On (60 ∷ l)) i)

    pub opens_is : opens (60 ∷ p) ≡ true
    opens_is = sym (opens_front 60 p tag) ∙ ap (λ (l : List ℕ). opens (60 ∷ l)) (sym i) ∙ first

  module _ (n : eqb left 0 ≡ false) (b : (not text && not (prefixed (name_at q))) ≡ false) where
    bare_is : (p tag : List ℕ) → q ≡ p ++ (60 ∷ tag) → (not text && not (prefixed (name_at p))) ≡ false
    bare_is p tag i = ap (λ (l : List ℕ). not text && not (prefixed l)) (sym (name_front p tag) ∙ ap name_at (sym i)) ∙ b

    deep_into : Deep q (suc (left - 1)) (ElementCloses (left - 1)) → Deep s left (ContentCloses left text)
    deep_into d =
        record {
          front = before ++ (60 ∷ d.front);
          tag = d.tag;
          is = whole d.front d.tag d.is;
          first = d.first;
          names = d.names;
          named = d.named;
          count = omega (arith, d.count, eqb-false left 0 n);
          closes = content_into left text (before ++ (60 ∷ d.front)) d.front (gap_is d.front d.tag d.is) (opens_is d.front d.tag d.is) n
              (bare_is d.front d.tag d.is) d.names d.closes;
        }

    deep_over : (k : ℕ) (m : List ℕ) → length q ≤ k → element k (left - 1) q ≡ On m → Deep m left (ContentCloses left text)
        → Deep s left (ContentCloses left text)
    deep_over k m h e d =
        let w : Remains q m = (element_remains k (left - 1) q m e).0 in
        let v : List ℕ = take w.read q in
        let y : List ℕ = 60 ∷ d.tag in
        let p : List ℕ = v ++ d.front in
        let i : q ≡ p ++ y = remains_split q m w ∙ ap (λ (l : List ℕ). v ++ l) d.is ∙ sym (append_assoc v d.front y) in
        let l : length y ≤ length m = omega (arith, ap length d.is, length-append d.front y) in
        let g : length (p ++ y) ≤ k = omega (arith, ap length i) in
        let ke : KeptElement (left - 1) p m y =
        element_kept k (left - 1) p d.tag m (cut_first d.tag d.first) g (ap (element k (left - 1)) (sym i) ∙ e) l in
        let j : ke.rest ≡ d.front = same_front ke.rest d.front y (sym ke.is ∙ d.is) in
        let c : ContentCloses left text ke.rest d.names = subst (λ (l : List ℕ). ContentCloses left text l d.names) (sym j) d.closes in
        record {
          front = before ++ (60 ∷ p);
          tag = d.tag;
          is = whole p d.tag i;
          first = d.first;
          names = d.names;
          named = d.named;
          count = d.count;
          closes = content_over left text (before ++ (60 ∷ p)) p (gap_is p d.tag i) (opens_is p d.tag i) n (bare_is p d.tag i) d.names
              ke.rest ke.also (omega (arith, ap length j, length-append v d.front)) c;
        }

content_turn : (k : ℕ) → ElementsDeep k → ContentDeep k → ContentDeep (suc k)
unfolding ElementsDeep ContentDeep letter
content_turn k IE IC left text s h e = start (and_not (between text s) (goes_on inner more left text) (sym (content_step k left text s) ∙ e))
  where
    inner : List ℕ → Outcome
    inner u = element k (left - 1) u

    more : List ℕ → Outcome
    more u = content k left text u

    second : (q : List ℕ) → between text s ≡ On (60 ∷ q) → name_first (get_or q 0 0) ≡ true → eqb left 0 ≡ false → (not text && not (prefixed (name_at q))) ≡ false
        → Refused (inner q) more → Deep s left (ContentCloses left text)
    second q f a n b (Early z) =
        deep_into left text s q f a n b (IE (left - 1) q (omega (arith, gaps_less (length s) text s (60 ∷ q) f)) z)
    second q f a n b (Late m y z) =
        let l : length (60 ∷ q) ≤ length s = gaps_less (length s) text s (60 ∷ q) f in
        deep_over left text s q f a n b k m (omega arith) y (IC left text m (omega (arith, element_remains k (left - 1) q m y)) z)

    bits : (q : List ℕ) → between text s ≡ On (60 ∷ q) → name_first (get_or q 0 0) ≡ true → (y z : Bool) → eqb left 0 ≡ y
        → (not text && not (prefixed (name_at q))) ≡ z → and_then (either y (Not 20) (either z (Not 19) (inner q))) more ≡ Not 20
        → Deep s left (ContentCloses left text)
    bits q f a true z y1 z1 d = deep_here left text s q f a (eqb-true left 0 y1)
    bits q f a false true y1 z1 d = let y : ◌≡◌ {A = ℕ} 19 20 = cc in absurd (omega arith)
    bits q f a false false y1 z1 d = second q f a y1 z1 (and_not (inner q) more d)

    less : (b : ℕ) (q : List ℕ) → between text s ≡ On (b ∷ q) → (x : Bool) → opens (b ∷ q) ≡ x
        → either x (and_then (either (eqb left 0) (Not 20) (either (not text && not (prefixed (name_at q))) (Not 19) (inner q))) more) (On (b ∷ q)) ≡ Not 20
        → Deep s left (ContentCloses left text)
    less b q f true x1 d =
        let i : b ≡ 60 = eqb-true b 60 (and_left (eqb b 60) (name_first (get_or q 0 0)) x1) in
        bits q (f ∙ ap (λ (c : ℕ). On (c ∷ q)) i) (and_right (eqb b 60) (name_first (get_or q 0 0)) x1)
        (eqb left 0) (not text && not (prefixed (name_at q))) refl refl d
    less b q f false x1 d = absurd (let z : ◌≡◌ {A = ℕ} 0 1 = cc in omega arith)

    some : (t : List ℕ) → between text s ≡ On t → goes_on inner more left text t ≡ Not 20 → Deep s left (ContentCloses left text)
    some [] f z = absurd (let z : ◌≡◌ {A = ℕ} 0 1 = cc in omega arith)
    some (b ∷ q) f z = less b q f (opens (b ∷ q)) refl z

    start : Refused (between text s) (goes_on inner more left text) → Deep s left (ContentCloses left text)
    start (Early z) = absurd (gaps_never (length s) text s z)
    start (Late t f z) = some t f z

deep : (k : ℕ) → ElementsDeep k × ContentDeep k
unfolding ElementsDeep ContentDeep element content
deep zero = (
  (λ (left : ℕ) (s : List ℕ) h e. let y : ◌≡◌ {A = ℕ} 19 20 = cc in absurd (omega arith)),
  (λ (left : ℕ) (text : Bool) (s : List ℕ) h e. absurd (let z : ◌≡◌ {A = ℕ} 0 1 = cc in omega arith)),
)
deep (suc k) = (element_turn k (deep k).1, content_turn k (deep k).0 (deep k).1)

pub element_deep : (k left : ℕ) (s : List ℕ) → length s ≤ k → element k left s ≡ Not 20 → Deep s (suc left) (ElementCloses left)
unfolding ElementsDeep
element_deep k = (deep k).0

pub content_deep : (k left : ℕ) (text : Bool) (s : List ℕ) → length s ≤ k → content k left text s ≡ Not 20 → Deep s left (ContentCloses left text)
unfolding ContentDeep
content_deep k = (deep k).1
