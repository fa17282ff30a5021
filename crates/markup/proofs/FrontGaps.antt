-- Comments, and what stands between tags, in a text p before a `<`.
-- Assumes nothing.
use Prim.Native.Nat.{ℕ, zero, suc, ◌+◌, ◌≤◌, ◌<◌}
use native.Mathlib.Omega.{arith}
use mathlib.Core.Path.{◌≡◌, refl, sym, ap, ◌∙◌, subst}
use mathlib.Core.Bool.{Bool, true, false, cond}
use mathlib.Core.List.{List, [], ◌∷◌, ◌++◌}
use lib.ListN.{length, drop, length-append, length-drop}
use lib.Seq.{drop-drop, drop-append-le}
use Rattle.chars.specs.Bytes.{ascii}
use Rattle.chars.specs.Lists.{same, begins, every, first_passing}
use Rattle.markup.specs.Marks.{Outcome, On, Not, either, and_then, expected, dashes, comment_mark, comment}
use Rattle.markup.specs.Elements.{after_gap, comment_then, gaps}
use Rattle.markup.proofs.Rests.{begins_within}
use Rattle.markup.proofs.Fronts.{gap_front, length_gap, begins_front, begins_first, farther, expected_front}

-- TWO STEPS that go on went on both
pub record Both (o : Outcome) (f : List ℕ → Outcome) (t : List ℕ) : Type 0 where
  pub mid : List ℕ
  pub first : o ≡ On mid
  pub then : f mid ≡ On t

pub and_on : (o : Outcome) (f : List ℕ → Outcome) (t : List ℕ) → and_then o f ≡ On t → Both o f t
and_on (On s) f t e = record { mid = s; first = refl; then = e }
and_on (Not n) f t e = absurd (let z : ◌≡◌ {A = ℕ} 0 1 = cc in omega arith)

pub expected_less : (t s q : List ℕ) → expected t s ≡ On q → length q + length t ≤ length s
expected_less t s q e = go (begins t s) refl e
  where
    go : (b : Bool) → begins t s ≡ b → either b (On (drop (length t) s)) (Not 19) ≡ On q → length q + length t ≤ length s
    go true f h =
        let d : drop (length t) s ≡ q = cc in
        omega (arith, ap length d, length-drop (length t) s, begins_within t s f)
    go false f h = absurd (let z : ◌≡◌ {A = ℕ} 0 1 = cc in omega arith)

-- A COMMENT behind its mark
abbrev body : List ℕ → Outcome
body s = expected (ascii "-->") (drop (dashes s) s)

comment_body : (s : List ℕ) → comment s ≡ body (drop 4 s)
unfolding comment
comment_body s = ap (expected (ascii "-->")) (sym (drop-drop (dashes (drop 4 s)) 4 s))

body_step : (b : ℕ) (s : List ℕ) → body (b ∷ s) ≡ either (begins (ascii "--") (b ∷ s)) (expected (ascii "-->") (b ∷ s)) (body s)
unfolding dashes
body_step b s = go (begins (ascii "--") (b ∷ s))
  where
    go : (q : Bool) → expected (ascii "-->") (drop (cond q 0 (suc (dashes s))) (b ∷ s)) ≡ either q (expected (ascii "-->") (b ∷ s)) (body s)
    go true = refl
    go false = refl

body_less : (s t : List ℕ) → body s ≡ On t → length t < length s
body_less s t e = omega (arith, expected_less (ascii "-->") (drop (dashes s) s) t e, length-drop (dashes s) s)

dashes_front : (p r : List ℕ) → begins (ascii "--") (p ++ (60 ∷ r)) ≡ begins (ascii "--") p
unfolding every
dashes_front p r = begins_front (ascii "--") refl p r

ends_front : (p r : List ℕ) → expected (ascii "-->") (p ++ (60 ∷ r)) ≡ farther (60 ∷ r) (expected (ascii "-->") p)
unfolding every
ends_front p r = expected_front (ascii "-->") p r (begins_front (ascii "-->") refl p r)

body_cons : (b : ℕ) (p r : List ℕ) → body ((b ∷ p) ++ (60 ∷ r))
    ≡ either (begins (ascii "--") (b ∷ p)) (farther (60 ∷ r) (expected (ascii "-->") (b ∷ p))) (body (p ++ (60 ∷ r)))
body_cons b p r = body_step b (p ++ (60 ∷ r)) ∙ rw (dashes_front (b ∷ p) r, ends_front (b ∷ p) r)

-- that ends in p, ends there
body_front : (p r c : List ℕ) → body p ≡ On c → body (p ++ (60 ∷ r)) ≡ On (c ++ (60 ∷ r))
unfolding dashes begins same
body_front [] r c e = absurd (let z : ◌≡◌ {A = ℕ} 0 1 = cc in omega arith)
body_front (b ∷ p) r c e = body_cons b p r ∙ go (begins (ascii "--") (b ∷ p)) (sym (body_step b p) ∙ e) (body_front p r c)
  where
    go : (q : Bool) → either q (expected (ascii "-->") (b ∷ p)) (body p) ≡ On c → (body p ≡ On c → body (p ++ (60 ∷ r)) ≡ On (c ++ (60 ∷ r)))
        → either q (farther (60 ∷ r) (expected (ascii "-->") (b ∷ p))) (body (p ++ (60 ∷ r))) ≡ On (c ++ (60 ∷ r))
    go true f h = ap (farther (60 ∷ r)) f
    go false f h = h f

-- one that does not, takes the `<`
body_past : (p r : List ℕ) (n : ℕ) (t : List ℕ) → body p ≡ Not n → body (p ++ (60 ∷ r)) ≡ On t → length t ≤ length r
body_past [] r n t e f = omega (arith, body_less (60 ∷ r) t f)
body_past (b ∷ p) r n t e f = go (begins (ascii "--") (b ∷ p)) (sym (body_step b p) ∙ e) (sym (body_cons b p r) ∙ f) (body_past p r n t)
  where
    go : (q : Bool) → either q (expected (ascii "-->") (b ∷ p)) (body p) ≡ Not n
        → either q (farther (60 ∷ r) (expected (ascii "-->") (b ∷ p))) (body (p ++ (60 ∷ r))) ≡ On t
        → (body p ≡ Not n → body (p ++ (60 ∷ r)) ≡ On t → length t ≤ length r) → length t ≤ length r
    go true g h k =
        let w : Not n ≡ On t = ap (farther (60 ∷ r)) (sym g) ∙ h in
        absurd (let z : ◌≡◌ {A = ℕ} 0 1 = cc in omega arith)
    go false g h k = k g h

-- and an empty comment there makes it malformed
abbrev pub empty_comment : List ℕ
empty_comment = ascii "<!---->"

body_empty : (p e : List ℕ) (n : ℕ) → body p ≡ Not n → body (p ++ (empty_comment ++ e)) ≡ Not 19
unfolding dashes begins same
body_empty [] e n f = refl
body_empty (b ∷ p) e n f = body_cons b p (drop 1 (empty_comment ++ e)) ∙ go (begins (ascii "--") (b ∷ p)) (sym (body_step b p) ∙ f) (body_empty p e n)
  where
    nineteen : (q : Bool) → either q (On (drop 3 (b ∷ p))) (Not 19) ≡ Not n → 19 ≡ n
    nineteen true g = absurd (let z : ◌≡◌ {A = ℕ} 0 1 = cc in omega arith)
    nineteen false g = cc

    go : (q : Bool) → either q (expected (ascii "-->") (b ∷ p)) (body p) ≡ Not n → (body p ≡ Not n → body (p ++ (empty_comment ++ e)) ≡ Not 19)
        → either q (farther (empty_comment ++ e) (expected (ascii "-->") (b ∷ p))) (body (p ++ (empty_comment ++ e))) ≡ Not 19
    go true g h = ap (farther (empty_comment ++ e)) g ∙ ap Not (sym (nineteen (begins (ascii "-->") (b ∷ p)) g))
    go false g h = h g

-- COMMENTS: s begins with the mark
module _ (s : List ℕ) (m : begins comment_mark s ≡ true) where
  comment_mark_lem : (z : List ℕ) → comment (s ++ z) ≡ body (drop 4 s ++ z)
  comment_mark_lem z = comment_body (s ++ z) ∙ ap body (drop-append-le 4 s z (begins_within comment_mark s m))

  comment_front : (r c : List ℕ) → comment s ≡ On c → comment (s ++ (60 ∷ r)) ≡ On (c ++ (60 ∷ r))
  comment_front r c e = comment_mark_lem (60 ∷ r) ∙ body_front (drop 4 s) r c (sym (comment_body s) ∙ e)

  comment_past : (r : List ℕ) (n : ℕ) (t : List ℕ) → comment s ≡ Not n → comment (s ++ (60 ∷ r)) ≡ On t → length t ≤ length r
  comment_past r n t e f = body_past (drop 4 s) r n t (sym (comment_body s) ∙ e) (sym (comment_mark_lem (60 ∷ r)) ∙ f)

  comment_empty : (e : List ℕ) (n : ℕ) → comment s ≡ Not n → comment (s ++ (empty_comment ++ e)) ≡ Not 19
  comment_empty e n f = comment_mark_lem (empty_comment ++ e) ∙ body_empty (drop 4 s) e n (sym (comment_body s) ∙ f)

comment_less : (s c : List ℕ) → comment s ≡ On c → length c < length s
comment_less s c e = omega (arith, body_less (drop 4 s) c (sym (comment_body s) ∙ e), length-drop 4 s)

-- BETWEEN TAGS
pub gap_step : (k : ℕ) (text : Bool) (s : List ℕ) → gaps (suc k) text s ≡ comment_then (λ (t : List ℕ). gaps k text t) (after_gap text s)
unfolding gaps
gap_step k text s = refl

gap_nil : (text : Bool) → after_gap text [] ≡ []
unfolding first_passing
gap_nil true = refl
gap_nil false = refl

pub gaps_nil : (k : ℕ) (text : Bool) → gaps k text [] ≡ On []
unfolding gaps begins same
gaps_nil zero text = refl
gaps_nil (suc k) text = rw (gap_nil text)

pub gaps_less : (k : ℕ) (text : Bool) (s t : List ℕ) → gaps k text s ≡ On t → length t ≤ length s
unfolding gaps
gaps_less zero text s t e = let d : s ≡ t = cc in omega (arith, ap length d)
gaps_less (suc k) text s t e = go (begins comment_mark a) e (λ (c : List ℕ). gaps_less k text c t)
  where
    a : List ℕ
    a = after_gap text s

    go : (q : Bool) → either q (and_then (comment a) (λ (u : List ℕ). gaps k text u)) (On a) ≡ On t
        → ((c : List ℕ) → gaps k text c ≡ On t → length t ≤ length c) → length t ≤ length s
    go true f h =
        let w : Both (comment a) (λ (u : List ℕ). gaps k text u) t = and_on (comment a) (λ (u : List ℕ). gaps k text u) t f in
        omega (arith, h w.mid w.then, comment_less a w.mid w.first, length_gap text s)
    go false f h = let d : a ≡ t = cc in omega (arith, ap length d, length_gap text s)

-- whatever bounds the comments, if it is as much as the bytes
pub gaps_enough : (k i : ℕ) (text : Bool) (s : List ℕ) → length s ≤ k → length s ≤ i → gaps k text s ≡ gaps i text s
gaps_enough zero i text [] h g = gaps_nil 0 text ∙ sym (gaps_nil i text)
gaps_enough zero i text (b ∷ s) h g = absurd (omega arith)
gaps_enough (suc k) zero text [] h g = gaps_nil (suc k) text ∙ sym (gaps_nil 0 text)
gaps_enough (suc k) zero text (b ∷ s) h g = absurd (omega arith)
gaps_enough (suc k) (suc i) text s h g =
    gap_step k text s ∙ go (comment a) refl (λ (c : List ℕ). gaps_enough k i text c) ∙ sym (gap_step i text s)
  where
    a : List ℕ
    a = after_gap text s

    go : (o : Outcome) → comment a ≡ o → ((c : List ℕ) → length c ≤ k → length c ≤ i → gaps k text c ≡ gaps i text c)
        → comment_then (λ (t : List ℕ). gaps k text t) a ≡ comment_then (λ (t : List ℕ). gaps i text t) a
    go (On c) e f =
        let l : length c < length a = comment_less a c e in
        let l2 : length a ≤ length s = length_gap text s in
        rw e (ap (λ (o : Outcome). either (begins comment_mark a) o (On a)) (f c (omega arith) (omega arith)))
    go (Not n) e f = rw e

-- what follows p, if nothing of it remains, is read too
abbrev pub gap_then : ℕ → Bool → List ℕ → List ℕ → Outcome
gap_then i text z [] = gaps i text z
gap_then i text z (b ∷ q) = On ((b ∷ q) ++ z)

pub gap_less : (text : Bool) (r : List ℕ) → after_gap text (60 ∷ r) ≡ 60 ∷ r
gap_less text r = gap_front text [] r ∙ ap (λ (l : List ℕ). l ++ (60 ∷ r)) (gap_nil text)

step_front : (k : ℕ) (text : Bool) (p r : List ℕ) → gaps (suc k) text (p ++ (60 ∷ r))
    ≡ comment_then (λ (t : List ℕ). gaps k text t) (after_gap text p ++ (60 ∷ r))
step_front k text p r = gap_step k text (p ++ (60 ∷ r)) ∙ ap (comment_then (λ (t : List ℕ). gaps k text t)) (gap_front text p r)

mark_front : (b : ℕ) (p r : List ℕ) → begins comment_mark ((b ∷ p) ++ (60 ∷ r)) ≡ begins comment_mark (b ∷ p)
unfolding every
mark_front b p r = begins_first (ascii "!--") refl b p r

-- one comment more, or none
turn_front : (j k i : ℕ) (text : Bool) (r q : List ℕ)
    → ((c : List ℕ) → length c ≤ j → length (c ++ (60 ∷ r)) ≤ k → gaps j text c ≡ On q → gaps k text (c ++ (60 ∷ r)) ≡ gap_then i text (60 ∷ r) q)
    → length (60 ∷ r) ≤ suc k → length (60 ∷ r) ≤ i
    → (a : List ℕ) → length a ≤ suc j → length (a ++ (60 ∷ r)) ≤ suc k → comment_then (λ (t : List ℕ). gaps j text t) a ≡ On q
    → comment_then (λ (t : List ℕ). gaps k text t) (a ++ (60 ∷ r)) ≡ gap_then i text (60 ∷ r) q
unfolding begins same
turn_front j k i text r q f n m [] h g e =
    let d : [] ≡ q = cc in
    subst (λ (l : List ℕ). comment_then (λ (t : List ℕ). gaps k text t) (60 ∷ r) ≡ gap_then i text (60 ∷ r) l) d
    (sym (gap_step k text (60 ∷ r) ∙ ap (comment_then (λ (t : List ℕ). gaps k text t)) (gap_less text r)) ∙ gaps_enough (suc k) i text (60 ∷ r) n m)
turn_front j k i text r q f n m (b ∷ a) h g e = rw (mark_front b a r) (go (begins comment_mark (b ∷ a)) refl e)
  where
    go : (x : Bool) → begins comment_mark (b ∷ a) ≡ x → either x (and_then (comment (b ∷ a)) (λ (t : List ℕ). gaps j text t)) (On (b ∷ a)) ≡ On q
        → either x (and_then (comment ((b ∷ a) ++ (60 ∷ r))) (λ (t : List ℕ). gaps k text t)) (On ((b ∷ a) ++ (60 ∷ r))) ≡ gap_then i text (60 ∷ r) q
    go true y z =
        let w : Both (comment (b ∷ a)) (λ (t : List ℕ). gaps j text t) q = and_on (comment (b ∷ a)) (λ (t : List ℕ). gaps j text t) q z in
        let l : length w.mid < length (b ∷ a) = comment_less (b ∷ a) w.mid w.first in
        rw (comment_front (b ∷ a) y r w.mid w.first)
        (f w.mid (omega arith) (omega (arith, length-append w.mid (60 ∷ r), length-append (b ∷ a) (60 ∷ r))) w.then)
    go false y z =
        let d : b ∷ a ≡ q = cc in
        subst (λ (l : List ℕ). On ((b ∷ a) ++ (60 ∷ r)) ≡ gap_then i text (60 ∷ r) l) d refl

pub gaps_front : (j k i : ℕ) (text : Bool) (p r q : List ℕ) → length p ≤ j → length (p ++ (60 ∷ r)) ≤ k → length (60 ∷ r) ≤ i → gaps j text p ≡ On q
    → gaps k text (p ++ (60 ∷ r)) ≡ gap_then i text (60 ∷ r) q
unfolding gaps
gaps_front zero k i text [] r q h g m e =
    let d : [] ≡ q = cc in
    subst (λ (l : List ℕ). gaps k text (60 ∷ r) ≡ gap_then i text (60 ∷ r) l) d (gaps_enough k i text (60 ∷ r) g m)
gaps_front zero k i text (b ∷ p) r q h g m e = absurd (omega arith)
gaps_front (suc j) zero i text p r q h g m e = absurd (omega (arith, length-append p (60 ∷ r)))
gaps_front (suc j) (suc k) i text p r q h g m e =
    let l : length (after_gap text p) ≤ length p = length_gap text p in
    let n : length (p ++ (60 ∷ r)) ≡ length p + length (60 ∷ r) = length-append p (60 ∷ r) in
    let o : length (after_gap text p ++ (60 ∷ r)) ≡ length (after_gap text p) + length (60 ∷ r) = length-append (after_gap text p) (60 ∷ r) in
    step_front k text p r
    ∙ turn_front j k i text r q (λ (c : List ℕ) x y z. gaps_front j k i text c r q x y m z) (omega arith) m (after_gap text p) (omega arith) (omega arith) e

-- a comment that begins at c does not end in p
record Unended (text : Bool) (k : ℕ) (p r : List ℕ) : Type 0 where
  c : List ℕ
  marked : begins comment_mark c ≡ true
  number : ℕ
  off : comment c ≡ Not number
  calls : ℕ
  is : gaps k text (p ++ (60 ∷ r)) ≡ and_then (comment (c ++ (60 ∷ r))) (λ (t : List ℕ). gaps calls text t)

turn_not : (j k : ℕ) (text : Bool) (p r : List ℕ) (n : ℕ) → ((c : List ℕ) → length (c ++ (60 ∷ r)) ≤ k → gaps j text c ≡ Not n → Unended text k c r)
    → (a : List ℕ) → length (a ++ (60 ∷ r)) ≤ suc k → gaps (suc k) text (p ++ (60 ∷ r)) ≡ comment_then (λ (t : List ℕ). gaps k text t) (a ++ (60 ∷ r))
    → comment_then (λ (t : List ℕ). gaps j text t) a ≡ Not n → Unended text (suc k) p r
unfolding begins same
turn_not j k text p r n f [] g s e = absurd (let z : ◌≡◌ {A = ℕ} 0 1 = cc in omega arith)
turn_not j k text p r n f (b ∷ a) g s e = go (begins comment_mark (b ∷ a)) refl e (s ∙ rw (mark_front b a r))
  where
    more : List ℕ → Outcome
    more t = gaps k text t

    inner : begins comment_mark (b ∷ a) ≡ true → (o : Outcome) → comment (b ∷ a) ≡ o → and_then o (λ (t : List ℕ). gaps j text t) ≡ Not n
        → gaps (suc k) text (p ++ (60 ∷ r)) ≡ and_then (comment ((b ∷ a) ++ (60 ∷ r))) (λ (t : List ℕ). gaps k text t) → Unended text (suc k) p r
    inner y (On c) x z w =
        let l : length c < length (b ∷ a) = comment_less (b ∷ a) c x in
        let u : Unended text k c r = f c (omega (arith, length-append c (60 ∷ r), length-append (b ∷ a) (60 ∷ r))) z in
        record { c = u.c; marked = u.marked; number = u.number; off = u.off; calls = u.calls; is = w ∙ rw (comment_front (b ∷ a) y r c x) u.is }
    inner y (Not m) x z w = record { c = b ∷ a; marked = y; number = m; off = x; calls = k; is = w }

    go : (x : Bool) → begins comment_mark (b ∷ a) ≡ x → either x (and_then (comment (b ∷ a)) (λ (t : List ℕ). gaps j text t)) (On (b ∷ a)) ≡ Not n
        → gaps (suc k) text (p ++ (60 ∷ r))
        ≡ either x (and_then (comment ((b ∷ a) ++ (60 ∷ r))) (λ (t : List ℕ). gaps k text t)) (On ((b ∷ a) ++ (60 ∷ r))) → Unended text (suc k) p r
    go true y z w = inner y (comment (b ∷ a)) refl z w
    go false y z w = absurd (let z : ◌≡◌ {A = ℕ} 0 1 = cc in omega arith)

gaps_not : (j k : ℕ) (text : Bool) (p r : List ℕ) (n : ℕ) → length (p ++ (60 ∷ r)) ≤ k → gaps j text p ≡ Not n → Unended text k p r
unfolding gaps
gaps_not zero k text p r n g e = absurd (let z : ◌≡◌ {A = ℕ} 0 1 = cc in omega arith)
gaps_not (suc j) zero text p r n g e = absurd (omega (arith, length-append p (60 ∷ r)))
gaps_not (suc j) (suc k) text p r n g e =
    let l : length (after_gap text p) ≤ length p = length_gap text p in
    turn_not j k text p r n (λ (c : List ℕ). gaps_not j k text c r n) (after_gap text p)
    (omega (arith, length-append p (60 ∷ r), length-append (after_gap text p) (60 ∷ r))) (step_front k text p r) e

-- what follows is then read as part of the comment, which an empty comment spoils
pub gaps_past : (j k : ℕ) (text : Bool) (p r : List ℕ) (n : ℕ) (t : List ℕ) → length (p ++ (60 ∷ r)) ≤ k → gaps j text p ≡ Not n
    → gaps k text (p ++ (60 ∷ r)) ≡ On t → length t ≤ length r
gaps_past j k text p r n t g e f =
    let u : Unended text k p r = gaps_not j k text p r n g e in
    let more : (List ℕ → Outcome) = λ (t : List ℕ). gaps u.calls text t in
    let w : Both (comment (u.c ++ (60 ∷ r))) more t = and_on (comment (u.c ++ (60 ∷ r))) more t (sym u.is ∙ f) in
    omega (arith, comment_past u.c u.marked r u.number w.mid u.off w.first, gaps_less u.calls text w.mid t w.then)

pub gaps_empty : (j k : ℕ) (text : Bool) (p e : List ℕ) (n : ℕ) → length (p ++ (empty_comment ++ e)) ≤ k → gaps j text p ≡ Not n
    → gaps k text (p ++ (empty_comment ++ e)) ≡ Not 19
gaps_empty j k text p e n g f =
    let u : Unended text k p (drop 1 (empty_comment ++ e)) = gaps_not j k text p (drop 1 (empty_comment ++ e)) n g f in
    u.is ∙ ap (λ (o : Outcome). and_then o (λ (t : List ℕ). gaps u.calls text t)) (comment_empty u.c u.marked e u.number u.off)
