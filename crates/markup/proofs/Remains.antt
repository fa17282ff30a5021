-- What remains behind what was read is the end of the text.
-- Assumes nothing.
use Prim.Native.Nat.{ℕ, zero, suc, ◌+◌, ◌-◌, ◌≤◌, ◌<◌}
use native.Mathlib.Omega.{arith}
use mathlib.Core.Path.{◌≡◌, refl, sym, ap, ◌∙◌}
use mathlib.Core.Bool.{Bool, true, false, not, ◌&&◌, cond}
use mathlib.Core.List.{List, ◌++◌}
use lib.Dec.{eqb}
use lib.ListN.{length, get_or, take, drop, length-drop, take-append-drop}
use lib.Seq.{drop-drop}
use Rattle.chars.specs.Bytes.{ascii}
use Rattle.chars.specs.Lists.{begins, first_not, index_of, lacks}
use Rattle.markup.specs.Marks.{Outcome, On, Not, either, and_then, expected, blank, after_blanks, name_first, name_at, after_name, prefixed, quote_mark, quotable, dashes, comment_mark, comment}
use Rattle.markup.specs.Tags.{Attribute, Attributed, Has, HasNot, equated, attribute_at, next_attribute, attributes_at, behind_attribute, after_attributes, distinct, Tag, Started, Begun, NoTag, begun, closing, start_tag, end_tag, opens}
use Rattle.markup.specs.Elements.{after_gap, gaps, between, held, element_of, goes_on, element, content}
use Rattle.markup.proofs.FrontTags.{has_rest}
use Rattle.markup.proofs.EndTags.{start_named}
use Rattle.markup.proofs.FrontGaps.{Both, and_on, expected_less}

pub record Remains (s t : List ℕ) : Type 0 where
  pub read : ℕ
  pub is : t ≡ drop read s

pub remains_all : (s : List ℕ) → Remains s s
remains_all s = record { read = 0; is = refl }

pub remains_drop : (n : ℕ) (s : List ℕ) → Remains s (drop n s)
remains_drop n s = record { read = n; is = refl }

pub remains_less : (s t : List ℕ) → Remains s t → length t ≤ length s
remains_less s t w = omega (arith, ap length w.is, length-drop w.read s)

pub remains_then : (s t u : List ℕ) → Remains s t → Remains t u → Remains s u
remains_then s t u w v = record { read = w.read + v.read; is = v.is ∙ ap (drop v.read) w.is ∙ drop-drop v.read w.read s }

pub remains_split : (s t : List ℕ) (w : Remains s t) → s ≡ take w.read s ++ t
remains_split s t w = sym (take-append-drop w.read s) ∙ ap (λ (l : List ℕ). take w.read s ++ l) (sym w.is)

-- MARKS
expected_remains : (t s q : List ℕ) → expected t s ≡ On q → Remains s q
expected_remains t s q e = go (begins t s) e
  where
    go : (b : Bool) → either b (On (drop (length t) s)) (Not 19) ≡ On q → Remains s q
    go true h = let d : drop (length t) s ≡ q = cc in record { read = length t; is = sym d }
    go false h = absurd (let z : ◌≡◌ {A = ℕ} 0 1 = cc in omega arith)

comment_remains : (s q : List ℕ) → comment s ≡ On q → Remains s q
unfolding comment
comment_remains s q e =
    let n : ℕ = 4 + dashes (drop 4 s) in
    remains_then s (drop n s) q (remains_drop n s) (expected_remains (ascii "-->") (drop n s) q e)

gap_remains : (text : Bool) (s : List ℕ) → Remains s (after_gap text s)
gap_remains true s = remains_drop (index_of 60 s) s
gap_remains false s = remains_drop (first_not blank s) s

pub gaps_remain : (k : ℕ) (text : Bool) (s t : List ℕ) → gaps k text s ≡ On t → Remains s t
unfolding gaps
gaps_remain zero text s t e = let d : s ≡ t = cc in record { read = 0; is = sym d }
gaps_remain (suc k) text s t e = remains_then s a t (gap_remains text s) (go (begins comment_mark a) e (λ (c : List ℕ). gaps_remain k text c t))
  where
    a : List ℕ
    a = after_gap text s

    go : (q : Bool) → either q (and_then (comment a) (λ (u : List ℕ). gaps k text u)) (On a) ≡ On t
        → ((c : List ℕ) → gaps k text c ≡ On t → Remains c t) → Remains a t
    go true f h =
        let w : Both (comment a) (λ (u : List ℕ). gaps k text u) t = and_on (comment a) (λ (u : List ℕ). gaps k text u) t f in
        remains_then a w.mid t (comment_remains a w.mid w.first) (h w.mid w.then)
    go false f h = let d : a ≡ t = cc in record { read = 0; is = sym d }

-- TAGS
pub end_remains : (n s t : List ℕ) → end_tag n s ≡ On t → Remains s t × (length t < length s)
unfolding end_tag
end_remains n s t e =
    let close : (List ℕ → Outcome) = λ (u : List ℕ). expected (ascii ">") (after_blanks u) in
    let w : Both (expected (ascii "</" ++ n) s) close t = and_on (expected (ascii "</" ++ n) s) close t e in
    let a : Remains s w.mid = expected_remains (ascii "</" ++ n) s w.mid w.first in
    let b : Remains w.mid (after_blanks w.mid) = remains_drop (first_not blank w.mid) w.mid in
    let c : Remains (after_blanks w.mid) t = expected_remains (ascii ">") (after_blanks w.mid) t w.then in (
      remains_then s w.mid t a (remains_then w.mid (after_blanks w.mid) t b c),
      omega (
        arith,
        expected_less (ascii "</" ++ n) s w.mid w.first,
        remains_less w.mid (after_blanks w.mid) b,
        remains_less (after_blanks w.mid) t c,
      ),
    )

equated_remains : (name : List ℕ) (t : Bool) (s : List ℕ) (a : Attribute) (q : List ℕ) → equated name t s ≡ Has a q → Remains s q
equated_remains name true s a q e =
    let u : List ℕ = after_blanks (drop 1 s) in
    let v : List ℕ = drop 1 u in
    let c : ℕ = get_or u 0 0 in
    let d : q ≡ drop (index_of c v + 1) v = has_rest (quote_mark c && not (lacks c v) && quotable (take (index_of c v) v)) name (take (index_of c v) v) _ a q e in
    remains_then s (drop 1 s) q (remains_drop 1 s) (remains_then (drop 1 s) u q (remains_drop (first_not blank (drop 1 s)) (drop 1 s))
    (remains_then u v q (remains_drop 1 u) (record { read = index_of c v + 1; is = d })))
equated_remains name false s a q e = absurd (let z : ◌≡◌ {A = ℕ} 0 1 = cc in omega arith)

next_remains : (p : List ℕ) (a : Attribute) (q : List ℕ) → next_attribute p ≡ Has a q → Remains p q
unfolding next_attribute attribute_at
next_remains p a q e = go (blank (get_or p 0 0)) e
  where
    go : (t : Bool) → cond t (attribute_at (after_blanks p)) HasNot ≡ Has a q → Remains p q
    go true f =
        let s : List ℕ = after_blanks p in
        let w : List ℕ = after_blanks (after_name s) in
        remains_then p s q (remains_drop (first_not blank p) p) (remains_then s (after_name s) q (remains_drop (length (name_at s)) s)
        (remains_then (after_name s) w q (remains_drop (first_not blank (after_name s)) (after_name s))
        (equated_remains (name_at s) (name_first (get_or s 0 0) && begins (ascii "=") w) w a q f)))
    go false f = absurd (let z : ◌≡◌ {A = ℕ} 0 1 = cc in omega arith)

behind_remains : (k : ℕ) (s : List ℕ) → Remains s (after_attributes k s)
unfolding after_attributes
behind_remains zero s = remains_all s
behind_remains (suc k) s = go (next_attribute s) refl (λ (t : List ℕ). behind_remains k t)
  where
    go : (x : Attributed) → next_attribute s ≡ x → ((t : List ℕ) → Remains t (after_attributes k t))
        → Remains s (behind_attribute (λ (t : List ℕ). after_attributes k t) s x)
    go (Has a t) e f = remains_then s t (after_attributes k t) (next_remains s a t e) (f t)
    go HasNot e f = remains_all s

closing_remains : (name : List ℕ) (xs : List Attribute) (s : List ℕ) (g : Tag) (q : List ℕ) → closing name xs s ≡ Begun g q → Remains s q
closing_remains name xs s g q e = go (begins (ascii "/>") s) (begins (ascii ">") s) e
  where
    go : (a b : Bool) → cond a (begun name xs true (drop 2 s)) (cond b (begun name xs false (drop 1 s)) NoTag) ≡ Begun g q → Remains s q
    go true b k = let d : drop 2 s ≡ q = cc in record { read = 2; is = sym d }
    go false true k = let d : drop 1 s ≡ q = cc in record { read = 1; is = sym d }
    go false false k = absurd (let z : ◌≡◌ {A = ℕ} 0 1 = cc in omega arith)

pub start_remains : (p : List ℕ) (g : Tag) (q : List ℕ) → start_tag p ≡ Begun g q → Remains p q
unfolding start_tag
start_remains p g q e = go (name_first (get_or p 0 0)) (distinct (attributes_at (length s) s)) e
  where
    s : List ℕ
    s = after_name p

    u : List ℕ
    u = after_attributes (length s) s

    go : (a b : Bool) → cond a (cond b (closing (name_at p) (attributes_at (length s) s) (after_blanks u)) NoTag) NoTag ≡ Begun g q → Remains p q
    go true true f =
        remains_then p s q (remains_drop (length (name_at p)) p) (remains_then s u q (behind_remains (length s) s)
        (remains_then u (after_blanks u) q (remains_drop (first_not blank u) u) (closing_remains (name_at p) (attributes_at (length s) s) (after_blanks u) g q f)))
    go true false f = absurd (let z : ◌≡◌ {A = ℕ} 0 1 = cc in omega arith)
    go false b f = absurd (let z : ◌≡◌ {A = ℕ} 0 1 = cc in omega arith)

-- ELEMENTS
abbrev Shorter : List ℕ → List ℕ → Type 0
Shorter s t = Remains s t × (length t < length s)

pub held_remains : (g : Tag) (inside : List ℕ → Outcome) (s t : List ℕ) → ((u : List ℕ) → inside s ≡ On u → Remains s u) → held g inside s ≡ On t → Remains s t
held_remains g inside s t f e = go g.empty e
  where
    go : (q : Bool) → either q (On s) (and_then (inside s) (end_tag g.name)) ≡ On t → Remains s t
    go true h = let d : s ≡ t = cc in record { read = 0; is = sym d }
    go false h =
        let w : Both (inside s) (end_tag g.name) t = and_on (inside s) (end_tag g.name) t h in
        remains_then s w.mid t (f w.mid w.first) (end_remains g.name w.mid t w.then).0

element_of_remains : (inside : List ℕ → Outcome) (s t : List ℕ) (x : Started) → start_tag s ≡ x → ((u v : List ℕ) → inside u ≡ On v → Remains u v)
    → element_of inside x ≡ On t → Shorter s t
element_of_remains inside s t (Begun g u) e f h =
    let w : Remains u t = held_remains g inside u t (f u) h in
    (remains_then s u t (start_remains s g u e) w, omega (arith, remains_less u t w, (start_named s g u e).1))
element_of_remains inside s t NoTag e f h = absurd (let z : ◌≡◌ {A = ℕ} 0 1 = cc in omega arith)

pub goes_remains : (inner more : List ℕ → Outcome) (left : ℕ) (text : Bool) (s t : List ℕ) → ((u v : List ℕ) → inner u ≡ On v → Remains u v)
    → ((u : List ℕ) → more u ≡ On t → Remains u t) → goes_on inner more left text s ≡ On t → Remains s t
goes_remains inner more left text s t f g e = go (opens s) (eqb left 0) (not text && not (prefixed (name_at (drop 1 s)))) e
  where
    go : (a b c : Bool) → either a (and_then (either b (Not 20) (either c (Not 19) (inner (drop 1 s)))) more) (On s) ≡ On t → Remains s t
    go true true c h = absurd (let z : ◌≡◌ {A = ℕ} 0 1 = cc in omega arith)
    go true false true h = absurd (let z : ◌≡◌ {A = ℕ} 0 1 = cc in omega arith)
    go true false false h =
        let w : Both (inner (drop 1 s)) more t = and_on (inner (drop 1 s)) more t h in
        remains_then s (drop 1 s) t (remains_drop 1 s) (remains_then (drop 1 s) w.mid t (f (drop 1 s) w.mid w.first) (g w.mid w.then))
    go false b c h = let d : s ≡ t = cc in record { read = 0; is = sym d }

mutual
  unfolding element content

  pub element_remains : (k left : ℕ) (s t : List ℕ) → element k left s ≡ On t → Shorter s t
  element_remains zero left s t e = absurd (let z : ◌≡◌ {A = ℕ} 0 1 = cc in omega arith)
  element_remains (suc k) left s t e =
      element_of_remains (λ (u : List ℕ). content k left true u) s t (start_tag s) refl (λ (u v : List ℕ) x. content_remains k left true u v x) e

  pub content_remains : (k left : ℕ) (text : Bool) (s t : List ℕ) → content k left text s ≡ On t → Remains s t
  content_remains zero left text s t e = let d : s ≡ t = cc in record { read = 0; is = sym d }
  content_remains (suc k) left text s t e =
      let inner : (List ℕ → Outcome) = λ (u : List ℕ). element k (left - 1) u in
      let more : (List ℕ → Outcome) = λ (u : List ℕ). content k left text u in
      let w : Both (between text s) (goes_on inner more left text) t = and_on (between text s) (goes_on inner more left text) t e in
      remains_then s w.mid t (gaps_remain (length s) text s w.mid w.first)
      (goes_remains inner more left text w.mid t (λ (u v : List ℕ) x. (element_remains k (left - 1) u v x).0)
      (λ (u : List ℕ) x. content_remains k left text u t x) w.then)
