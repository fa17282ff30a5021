-- Where a stream gives 20: all before the start tag that is too deep begins an accepted stream.
-- Assumes nothing.
use Prim.Native.Nat.{ℕ, zero, suc, ◌≤◌}
use native.Mathlib.Omega.{arith}
use mathlib.Core.Path.{◌≡◌, refl, sym, ap, ◌∙◌, subst}
use mathlib.Core.Bool.{Bool, true, false}
use mathlib.Core.List.{List, [], ◌∷◌, ◌++◌, append_assoc}
use mathlib.Core.Option.{Option, none, some}
use lib.Dec.{eqb}
use lib.ListN.{length, get_or, take, drop, length-append}
use borrow.Author.Tests.{eqb-true}
use Rattle.base.proofs.Bools.{and_left, and_right}
use Rattle.chars.specs.Bytes.{letter}
use Rattle.markup.specs.Marks.{Outcome, On, Not, either, and_then, name_first, name_at, prefixed}
use Rattle.markup.specs.Tags.{Tag, Started, Begun, NoTag, start_tag, end_tag, opens}
use Rattle.markup.specs.Elements.{between}
use Rattle.markup.specs.Entries.{Entry, entry_of}
use Rattle.markup.specs.Streams.{passed, entry_held, entries_in}
use Rattle.markup.specs.declared.entries.Kind.{Kind}
use Rattle.markup.proofs.Fronts.{name_front}
use Rattle.markup.proofs.EndTags.{end_own, start_named}
use Rattle.markup.proofs.FrontGaps.{gaps_less}
use Rattle.markup.proofs.Remains.{Remains, remains_split}
use Rattle.markup.proofs.Contents.{Cut, opens_front, gap_on, held_empty, held_full}
use Rattle.markup.proofs.Openings.{same_front, gap_stops}
use Rattle.markup.proofs.Refusals.{gaps_never, end_never, Refused, Early, Late, and_not}
use Rattle.markup.proofs.DepthTwenty.{Deep, closed, ElementCloses, ContentCloses, cut_first, closed_last, deep_tag, before, whole, gap_is, opens_is, element_deep, content_deep}
use Rattle.markup.proofs.PiecesTwenty.{entered, entry_end, piece_end, entries_end, pieces_on, entries_step, in_entry, piece_remains, KeptPiece, piece_kept, passed_front, entry_front}

-- A PIECE
abbrev PieceCloses : Kind → List ℕ → List (List ℕ) → Type 0
PieceCloses K p names = (e : List ℕ) → piece_end K (p ++ closed names e) ≡ On e

-- a tag with its name tells whether it has a prefix
same_prefix : (p q r s : List ℕ) (g : Tag) → start_tag p ≡ Begun g q → start_tag r ≡ Begun g s → prefixed (name_at p) ≡ prefixed (name_at r)
same_prefix p q r s g e f = ap prefixed (sym (start_named p g q e).0 ∙ (start_named r g s f).0)

entry_closes : (K : Kind) (p : List ℕ) (g : Tag) (q : List ℕ) → start_tag p ≡ Begun g q → prefixed (name_at p) ≡ false → (x : Entry) → entry_of K g ≡ some x
    → g.empty ≡ false → (names : List (List ℕ)) → ContentCloses 14 false q names → PieceCloses K p (names ++ (g.name ∷ []))
entry_closes K p g q f b x y m names w e =
    let z : List ℕ = closed names (60 ∷ 47 ∷ (g.name ++ (62 ∷ e))) in
    ap (λ (l : List ℕ). piece_end K (p ++ l)) (closed_last names g.name e) ∙ entry_front K p b g q f (drop 1 z)
    ∙ ap (λ (o : Option Entry). entered o (entry_held g (q ++ z))) y ∙ held_full g in_entry (q ++ z) m
    ∙ ap (λ (o : Outcome). and_then o (end_tag g.name)) (w (length (q ++ z)) (g.name ++ (62 ∷ e)) (omega arith)) ∙ end_own g.name e

piece_deep : (K : Kind) (s : List ℕ) → piece_end K s ≡ Not 20 → Deep s 15 (PieceCloses K)
piece_deep K s e = go (prefixed (name_at s)) refl e
  where
    held_in : prefixed (name_at s) ≡ false → (g : Tag) (t : List ℕ) → start_tag s ≡ Begun g t → (x : Entry) → entry_of K g ≡ some x → g.empty ≡ false
        → Refused (in_entry t) (end_tag g.name) → Deep s 15 (PieceCloses K)
    held_in b g t f x y m (Early z) =
        deep_tag (ContentCloses 14 false) (PieceCloses K) 14 s g t f
        (λ (p q : List ℕ) (names : List (List ℕ)) h c. entry_closes K p g q h (same_prefix p q s t g h f ∙ b) x y m names c)
        (content_deep (length t) 14 false t (omega arith) z)
    held_in b g t f x y m (Late u v z) = absurd (end_never g.name u z)

    full : prefixed (name_at s) ≡ false → (g : Tag) (t : List ℕ) → start_tag s ≡ Begun g t → (x : Entry) → entry_of K g ≡ some x → (v : Bool) → g.empty ≡ v
        → entry_held g t ≡ Not 20 → Deep s 15 (PieceCloses K)
    full b g t f x y true m z = let u : On t ≡ Not 20 = sym (held_empty g in_entry t m) ∙ z in absurd (let z : ◌≡◌ {A = ℕ} 0 1 = cc in omega arith)
    full b g t f x y false m z = held_in b g t f x y m (and_not (in_entry t) (end_tag g.name) (sym (held_full g in_entry t m) ∙ z))

    known : prefixed (name_at s) ≡ false → (g : Tag) (t : List ℕ) → start_tag s ≡ Begun g t → (x : Option Entry) → entry_of K g ≡ x
        → entered x (entry_held g t) ≡ Not 20 → Deep s 15 (PieceCloses K)
    known b g t f none y z = let u : ◌≡◌ {A = ℕ} 19 20 = cc in absurd (omega arith)
    known b g t f (some x) y z = full b g t f x y g.empty refl z

    entry : prefixed (name_at s) ≡ false → (x : Started) → start_tag s ≡ x → entry_end K x ≡ Not 20 → Deep s 15 (PieceCloses K)
    entry b (Begun g t) f z = known b g t f (entry_of K g) refl z
    entry b NoTag f z = let u : ◌≡◌ {A = ℕ} 19 20 = cc in absurd (omega arith)

    over : prefixed (name_at s) ≡ true → Deep s 15 (ElementCloses 14) → Deep s 15 (PieceCloses K)
    over b d =
        let p : prefixed (name_at d.front) ≡ true = ap prefixed (sym (name_front d.front d.tag) ∙ ap name_at (sym d.is)) ∙ b in
        record {
          front = d.front;
          tag = d.tag;
          is = d.is;
          first = d.first;
          names = d.names;
          named = d.named;
          count = d.count;
          closes = λ (e : List ℕ). passed_front K d.front p (drop 1 (closed d.names e))
              ∙ d.closes (length (d.front ++ closed d.names e)) e (omega arith);
        }

    go : (b : Bool) → prefixed (name_at s) ≡ b → either b (passed s) (entry_end K (start_tag s)) ≡ Not 20 → Deep s 15 (PieceCloses K)
    go true b z = over b (element_deep (length s) 14 s (omega arith) z)
    go false b z = entry b (start_tag s) refl z

-- ALL PIECES
abbrev pub EntriesClose : Kind → List ℕ → List (List ℕ) → Type 0
EntriesClose K p names = (k : ℕ) (e : List ℕ) → length (p ++ closed names (60 ∷ 47 ∷ e)) ≤ k
    → entries_end K k (p ++ closed names (60 ∷ 47 ∷ e)) ≡ On (60 ∷ 47 ∷ e)

pub entries_stop : (K : Kind) (k : ℕ) (e : List ℕ) → entries_end K k (60 ∷ 47 ∷ e) ≡ On (60 ∷ 47 ∷ e)
unfolding entries_in letter
entries_stop K zero e = refl
entries_stop K (suc k) e = entries_step K k (60 ∷ 47 ∷ e) ∙ rw (gap_stops (suc (suc (length e))) false (47 ∷ e) refl)

pub entries_front : (K : Kind) (k : ℕ) (p q r : List ℕ) → between false p ≡ On (60 ∷ q) → opens (60 ∷ q) ≡ true
    → entries_end K (suc k) (p ++ (60 ∷ r)) ≡ and_then (piece_end K (q ++ (60 ∷ r))) (λ (u : List ℕ). entries_end K k u)
entries_front K k p q r f o = entries_step K k (p ++ (60 ∷ r)) ∙ rw (gap_on false p 60 q f r, opens_front 60 q r, o)

module _ (K : Kind) (p q : List ℕ) (gap : between false p ≡ On (60 ∷ q)) (o : opens (60 ∷ q) ≡ true) (names : List (List ℕ)) where
  entries_into : PieceCloses K q names → EntriesClose K p names
  entries_into w zero e h = absurd (omega (arith, length-append p (closed names (60 ∷ 47 ∷ e))))
  entries_into w (suc k) e h =
      let x : List ℕ = closed names (60 ∷ 47 ∷ e) in
      entries_front K k p q (drop 1 x) gap o ∙ ap (λ (o : Outcome). and_then o (λ (u : List ℕ). entries_end K k u)) (w (60 ∷ 47 ∷ e)) ∙ entries_stop K k e

  entries_over : (t : List ℕ) → ((r : List ℕ) → Cut r → piece_end K (q ++ (60 ∷ r)) ≡ On (t ++ (60 ∷ r))) → length t ≤ length q
      → EntriesClose K t names → EntriesClose K p names
  entries_over t w l v zero e h = absurd (omega (arith, length-append p (closed names (60 ∷ 47 ∷ e))))
  entries_over t w l v (suc k) e h =
      let x : List ℕ = closed names (60 ∷ 47 ∷ e) in
      let a : length (60 ∷ q) ≤ length p = gaps_less (length p) false p (60 ∷ q) gap in
      let c : length (t ++ x) ≤ k = omega (arith, length-append p x, length-append t x) in
      entries_front K k p q (drop 1 x) gap o ∙ ap (λ (o : Outcome). and_then o (λ (u : List ℕ). entries_end K k u)) (w (drop 1 x) refl) ∙ v k e c

EntriesDeep : Kind → ℕ → Type 0
EntriesDeep K k = (s : List ℕ) → length s ≤ k → entries_end K k s ≡ Not 20 → Deep s 15 (EntriesClose K)

-- q stands behind the `<` that the pieces come to
module _ (K : Kind) (s q : List ℕ) (f : between false s ≡ On (60 ∷ q)) (first : name_first (get_or q 0 0) ≡ true) where
  deep_into : Deep q 15 (PieceCloses K) → Deep s 15 (EntriesClose K)
  deep_into d =
      let p : List ℕ = before 15 false s q f first ++ (60 ∷ d.front) in
      record {
        front = p;
        tag = d.tag;
        is = whole 15 false s q f first d.front d.tag d.is;
        first = d.first;
        names = d.names;
        named = d.named;
        count = d.count;
        closes = entries_into K p d.front (gap_is 15 false s q f first d.front d.tag d.is)
            (opens_is 15 false s q f first d.front d.tag d.is)
            d.names d.closes;
      }

  deep_over : (m : List ℕ) → piece_end K q ≡ On m → Deep m 15 (EntriesClose K) → Deep s 15 (EntriesClose K)
  deep_over m e d =
      let w : Remains q m = (piece_remains K q m e).0 in
      let v : List ℕ = take w.read q in
      let y : List ℕ = 60 ∷ d.tag in
      let p : List ℕ = v ++ d.front in
      let i : q ≡ p ++ y = remains_split q m w ∙ ap (λ (l : List ℕ). v ++ l) d.is ∙ sym (append_assoc v d.front y) in
      let l : length y ≤ length m = omega (arith, ap length d.is, length-append d.front y) in
      let kp : KeptPiece K p m y = piece_kept K p d.tag m (cut_first d.tag d.first) (ap (piece_end K) (sym i) ∙ e) l in
      let j : kp.rest ≡ d.front = same_front kp.rest d.front y (sym kp.is ∙ d.is) in
      let c : EntriesClose K kp.rest d.names = subst (λ (l : List ℕ). EntriesClose K l d.names) (sym j) d.closes in
      let b : List ℕ = before 15 false s q f first ++ (60 ∷ p) in
      record {
        front = b;
        tag = d.tag;
        is = whole 15 false s q f first p d.tag i;
        first = d.first;
        names = d.names;
        named = d.named;
        count = d.count;
        closes = entries_over K b p (gap_is 15 false s q f first p d.tag i) (opens_is 15 false s q f first p d.tag i) d.names
            kp.rest kp.also (omega (arith, ap length j, length-append v d.front)) c;
      }

-- a start tag, by its bytes
pub record Opening (t : List ℕ) : Type 0 where
  pub rest : List ℕ
  pub is : t ≡ 60 ∷ rest
  pub first : name_first (get_or rest 0 0) ≡ true

pub opening : (t : List ℕ) → opens t ≡ true → Opening t
opening [] e = absurd (let z : ◌≡◌ {A = ℕ} 0 1 = cc in omega arith)
opening (b ∷ q) e =
    let i : b ≡ 60 = eqb-true b 60 (and_left (eqb b 60) (name_first (get_or q 0 0)) e) in
    record { rest = q; is = ap (λ (c : ℕ). c ∷ q) i; first = and_right (eqb b 60) (name_first (get_or q 0 0)) e }

entries_turn : (K : Kind) (k : ℕ) → EntriesDeep K k → EntriesDeep K (suc k)
unfolding EntriesDeep
entries_turn K k IH s h e = start (and_not (between false s) (pieces_on K k) (sym (entries_step K k s) ∙ e))
  where
    more : List ℕ → Outcome
    more u = entries_end K k u

    second : (q : List ℕ) → between false s ≡ On (60 ∷ q) → name_first (get_or q 0 0) ≡ true → Refused (piece_end K q) more → Deep s 15 (EntriesClose K)
    second q f a (Early z) = deep_into K s q f a (piece_deep K q z)
    second q f a (Late m y z) =
        let l : length (60 ∷ q) ≤ length s = gaps_less (length s) false s (60 ∷ q) f in
        deep_over K s q f a m y (IH m (omega (arith, piece_remains K q m y)) z)

    some_piece : (t : List ℕ) → between false s ≡ On t → (x : Bool) → opens t ≡ x → either x (and_then (piece_end K (drop 1 t)) more) (On t) ≡ Not 20
        → Deep s 15 (EntriesClose K)
    some_piece t f true o z =
        let w : Opening t = opening t o in
        second w.rest (f ∙ ap On w.is) w.first
        (and_not (piece_end K w.rest) more (ap (λ (l : List ℕ). and_then (piece_end K (drop 1 l)) more) (sym w.is) ∙ z))
    some_piece t f false o z = absurd (let z : ◌≡◌ {A = ℕ} 0 1 = cc in omega arith)

    start : Refused (between false s) (pieces_on K k) → Deep s 15 (EntriesClose K)
    start (Early z) = absurd (gaps_never (length s) false s z)
    start (Late t f z) = some_piece t f (opens t) refl z

pub entries_deep : (K : Kind) (k : ℕ) → (s : List ℕ) → length s ≤ k → entries_end K k s ≡ Not 20 → Deep s 15 (EntriesClose K)
unfolding EntriesDeep entries_in
entries_deep K zero s h e = absurd (let z : ◌≡◌ {A = ℕ} 0 1 = cc in omega arith)
entries_deep K (suc k) s h e = entries_turn K k (λ (t : List ℕ) g f. entries_deep K k t g f) s h e
