-- Values, attributes and tags in a text p before a `<`: none holds it, so they are the same whatever follows.
-- Assumes nothing.
use Prim.Native.Nat.{ℕ, zero, suc, pred, ◌+◌, ◌-◌, ◌≤◌, ◌<◌}
use native.Mathlib.Omega.{arith}
use mathlib.Core.Path.{◌≡◌, refl, sym, ap, ◌∙◌}
use mathlib.Core.Bool.{Bool, true, false, not, ◌&&◌, cond, false≢true}
use mathlib.Core.List.{List, [], ◌∷◌, ◌++◌}
use lib.Dec.{eqb, leb, eqb-suc-zero}
use lib.ListN.{length, get_or, take, drop, length-append, length-drop}
use lib.Seq.{take-append-le, drop-append-le, take-append-add}
use borrow.Author.Tests.{eq-eqb, ne_eqb, leb-true, leb-false}
use Rattle.base.proofs.Bools.{and_false}
use Rattle.chars.specs.Bytes.{ascii}
use Rattle.chars.specs.Lists.{same, begins, every, first_passing, index_of, lacks, tiled}
use Rattle.chars.proofs.Searches.{first_le}
use Rattle.markup.specs.Marks.{blank, after_blanks, name_first, name_at, after_name, Entity, entities, entity_of, value_unit, quotable, quote_mark}
use Rattle.markup.specs.Tags.{Attribute, Attributed, Has, HasNot, has, valued, equated, attribute_at, next_attribute, attributes_at, after_attributes, distinct, Started, Begun, NoTag, begun, closing, start_after, start_tag}
use Rattle.markup.proofs.Rests.{begins_within}
use Rattle.markup.proofs.AttributeLists.{attributes_first, attributes_none, behind_first, behind_none}
use Rattle.markup.proofs.Fronts.{head_front, blanks_front, length_after, begins_front, first_name_front, name_front, after_name_front}

-- VALUES: what may stand in one does not reach a `<`
entity_within : (es : List Entity) (s : List ℕ) → length (entity_of es s).text ≤ length s
entity_within [] s = omega arith
entity_within (e ∷ es) s = go (begins e.text s) refl (entity_within es s)
  where
    go : (q : Bool) → begins e.text s ≡ q → length (entity_of es s).text ≤ length s → length (cond q e (entity_of es s)).text ≤ length s
    go true f h = begins_within e.text s f
    go false f h = h

entity_front : (p r : List ℕ) → entity_of entities (p ++ (60 ∷ r)) ≡ entity_of entities p
unfolding every
entity_front p r =
    rw (
      begins_front (ascii "&lt;") refl p r,
      begins_front (ascii "&gt;") refl p r,
      begins_front (ascii "&amp;") refl p r,
      begins_front (ascii "&apos;") refl p r,
      begins_front (ascii "&quot;") refl p r,
    )

unit_front : (b : ℕ) (p r : List ℕ) → value_unit ((b ∷ p) ++ (60 ∷ r)) ≤ suc (length p)
unfolding value_unit
unit_front b p r = go (eqb b 60) (eqb b 38)
  where
    within : length (entity_of entities ((b ∷ p) ++ (60 ∷ r))).text ≤ suc (length p)
    within = omega (arith, entity_within entities (b ∷ p), ap (λ (e : Entity). length e.text) (entity_front (b ∷ p) r))

    go : (x y : Bool) → cond x 0 (cond y (length (entity_of entities ((b ∷ p) ++ (60 ∷ r))).text) 1) ≤ suc (length p)
    go true y = omega arith
    go false true = within
    go false false = omega arith

unit_less : (r : List ℕ) → value_unit (60 ∷ r) ≡ 0
unfolding value_unit
unit_less r = refl

untiled : (k : ℕ) (p r : List ℕ) → k ≤ length p → tiled value_unit k (p ++ (60 ∷ r)) ≡ false
unfolding tiled
untiled zero [] r h = rw (unit_less r)
untiled (suc k) [] r h = absurd (omega arith)
untiled (suc k) (b ∷ p) r h = untiled k p r (omega arith)
untiled zero (b ∷ p) r h = go (value_unit (b ∷ (p ++ (60 ∷ r)))) (unit_front b p r) (λ (k : ℕ). untiled k p r)
  where
    go : (u : ℕ) → u ≤ suc (length p) → ((k : ℕ) → k ≤ length p → tiled value_unit k (p ++ (60 ∷ r)) ≡ false)
        → (not (eqb u 0) && tiled value_unit (pred u) (p ++ (60 ∷ r))) ≡ false
    go zero g f = refl
    go (suc u) g f = rw (eqb-suc-zero u) (f u (omega arith))

-- where a byte first stands, in p or behind it
first_in : (f : ℕ → Bool) (p z : List ℕ) → first_passing f p < length p → first_passing f (p ++ z) ≡ first_passing f p
unfolding first_passing
first_in f [] z h = absurd (omega arith)
first_in f (b ∷ p) z h = go (f b) h (first_in f p z)
  where
    go : (q : Bool) → cond q 0 (suc (first_passing f p)) < suc (length p) → (first_passing f p < length p → first_passing f (p ++ z) ≡ first_passing f p)
        → cond q 0 (suc (first_passing f (p ++ z))) ≡ cond q 0 (suc (first_passing f p))
    go true g k = refl
    go false g k = ap suc (k (omega arith))

first_past : (f : ℕ → Bool) → f 60 ≡ false → (p r : List ℕ) → first_passing f p ≡ length p → first_passing f (p ++ (60 ∷ r)) ≡ length p + suc (first_passing f r)
unfolding first_passing
first_past f e [] r h = rw e (omega arith)
first_past f e (b ∷ p) r h = go (f b) h (first_past f e p r)
  where
    go : (q : Bool) → cond q 0 (suc (first_passing f p)) ≡ suc (length p) → (first_passing f p ≡ length p → first_passing f (p ++ (60 ∷ r)) ≡ length p + suc (first_passing f r))
        → cond q 0 (suc (first_passing f (p ++ (60 ∷ r)))) ≡ suc (length p) + suc (first_passing f r)
    go true g k = absurd (omega arith)
    go false g k = omega (arith, k (omega arith))

-- ATTRIBUTES, with z behind what remains
abbrev pub further : List ℕ → Attributed → Attributed
further z (Has a s) = Has a (s ++ z)
further z HasNot = HasNot

has_front : (t : Bool) (name raw rest z : List ℕ) → has t name raw (rest ++ z) ≡ further z (has t name raw rest)
has_front true name raw rest z = refl
has_front false name raw rest z = refl

has_none : (t : Bool) → t ≡ false → (name raw rest : List ℕ) → has t name raw rest ≡ HasNot
has_none t e name raw rest = rw e

module _ (name : List ℕ) (q : ℕ) (p r : List ℕ) where
  -- the value ends in p
  value_in_lem : index_of q p < length p → valued name q (p ++ (60 ∷ r)) ≡ further (60 ∷ r) (valued name q p)
  unfolding lacks
  value_in_lem h =
      let i : index_of q (p ++ (60 ∷ r)) ≡ index_of q p = first_in (λ (x : ℕ). eqb x q) p (60 ∷ r) h in
      let n : length (p ++ (60 ∷ r)) ≡ length p + suc (length r) = length-append p (60 ∷ r) in
      let a : eqb (index_of q p) (length (p ++ (60 ∷ r))) ≡ false = ne_eqb (index_of q p) (length (p ++ (60 ∷ r))) (λ z. omega arith) in
      let b : eqb (index_of q p) (length p) ≡ false = ne_eqb (index_of q p) (length p) (λ z. omega arith) in
      let c : index_of q p + 1 ≤ length p = omega arith in
      let d : index_of q p ≤ length p = omega arith in
      rw (i, a, b, take-append-le (index_of q p) p (60 ∷ r) d, drop-append-le (index_of q p + 1) p (60 ∷ r) c)
      (has_front (quote_mark q && true && quotable (take (index_of q p) p)) name (take (index_of q p) p) (drop (index_of q p + 1) p) (60 ∷ r))

  -- or there is none
  abbrev test : List ℕ → Bool
  test s = quote_mark q && not (lacks q s) && quotable (take (index_of q s) s)

  none_here : index_of q p ≡ length p → test p ≡ false
  unfolding lacks
  none_here h = rw (eq-eqb (index_of q p) (length p) h, and_false (quote_mark q))

  none_past : index_of q p ≡ length p → test (p ++ (60 ∷ r)) ≡ false
  none_past h = go (quote_mark q) refl
    where
      n : (m : Bool) → quote_mark q ≡ m → m ≡ true → eqb 60 q ≡ false
      n m e f = ne_eqb 60 q (λ z. false≢true (ap quote_mark z ∙ e ∙ f))

      raw : eqb 60 q ≡ false → quotable (take (index_of q (p ++ (60 ∷ r))) (p ++ (60 ∷ r))) ≡ false
      raw e =
          ap (λ (i : ℕ). quotable (take i (p ++ (60 ∷ r)))) (first_past (λ (x : ℕ). eqb x q) e p r h)
          ∙ ap quotable (take-append-add p (60 ∷ r) (suc (index_of q r))) ∙ untiled 0 p (take (index_of q r) r) (omega arith)

      go : (m : Bool) → quote_mark q ≡ m → test (p ++ (60 ∷ r)) ≡ false
      go true e = rw (raw (n true e refl)) (and_false (quote_mark q && not (lacks q (p ++ (60 ∷ r)))))
      go false e = rw e

  valued_front : valued name q (p ++ (60 ∷ r)) ≡ further (60 ∷ r) (valued name q p)
  valued_front = go (leb (length p) (index_of q p)) refl
    where
      go : (m : Bool) → leb (length p) (index_of q p) ≡ m → valued name q (p ++ (60 ∷ r)) ≡ further (60 ∷ r) (valued name q p)
      go true e =
          let h : index_of q p ≡ length p = omega (arith, leb-true (length p) (index_of q p) e, first_le (λ (x : ℕ). eqb x q) p) in
          has_none (test (p ++ (60 ∷ r))) (none_past h) name _ _ ∙ sym (ap (further (60 ∷ r)) (has_none (test p) (none_here h) name _ _))
      go false e = value_in_lem (leb-false (length p) (index_of q p) e)

equated_front : (name : List ℕ) (t : Bool) (p r : List ℕ)
    → equated name (t && begins (ascii "=") (p ++ (60 ∷ r))) (p ++ (60 ∷ r)) ≡ further (60 ∷ r) (equated name (t && begins (ascii "=") p) p)
unfolding begins same every
equated_front name t [] r = rw (and_false t)
equated_front name t (b ∷ p) r = go (t && (eqb b 61 && true))
  where
    inner : (s : List ℕ) → valued name (get_or (s ++ (60 ∷ r)) 0 0) (drop 1 (s ++ (60 ∷ r))) ≡ further (60 ∷ r) (valued name (get_or s 0 0) (drop 1 s))
    inner [] = refl
    inner (c ∷ s) = valued_front name c s r

    go : (q : Bool) → equated name q ((b ∷ p) ++ (60 ∷ r)) ≡ further (60 ∷ r) (equated name q (b ∷ p))
    go true = ap (λ (s : List ℕ). valued name (get_or s 0 0) (drop 1 s)) (blanks_front p r) ∙ inner (after_blanks p)
    go false = refl

attribute_front : (p r : List ℕ) → attribute_at (p ++ (60 ∷ r)) ≡ further (60 ∷ r) (attribute_at p)
unfolding attribute_at
attribute_front p r =
    rw (after_name_front p r, blanks_front (after_name p) r, name_front p r, first_name_front p r)
    (equated_front (name_at p) (name_first (get_or p 0 0)) (after_blanks (after_name p)) r)

next_front : (p r : List ℕ) → next_attribute (p ++ (60 ∷ r)) ≡ further (60 ∷ r) (next_attribute p)
unfolding next_attribute
next_front p r = rw (head_front blank refl p r, blanks_front p r) (go (blank (get_or p 0 0)))
  where
    go : (q : Bool) → cond q (attribute_at (after_blanks p ++ (60 ∷ r))) HasNot ≡ further (60 ∷ r) (cond q (attribute_at (after_blanks p)) HasNot)
    go true = attribute_front (after_blanks p) r
    go false = refl

-- an attribute takes bytes
pub has_rest : (t : Bool) (name raw rest : List ℕ) (a : Attribute) (q : List ℕ) → has t name raw rest ≡ Has a q → q ≡ rest
has_rest true name raw rest a q e = cc
has_rest false name raw rest a q e = absurd (let z : ◌≡◌ {A = ℕ} 0 1 = cc in omega arith)

equated_less : (name : List ℕ) (t : Bool) (s : List ℕ) (a : Attribute) (q : List ℕ) → equated name t s ≡ Has a q → length q ≤ length s - 1
equated_less name true s a q e =
    let v : List ℕ = drop 1 (after_blanks (drop 1 s)) in
    let c : ℕ = get_or (after_blanks (drop 1 s)) 0 0 in
    let d : q ≡ drop (index_of c v + 1) v = has_rest (quote_mark c && not (lacks c v) && quotable (take (index_of c v) v)) name (take (index_of c v) v) _ a q e in
    omega (
      arith,
      ap length d,
      length-drop (index_of c v + 1) v,
      length-drop 1 (after_blanks (drop 1 s)),
      length_after (λ (x : ℕ). not (blank x)) (drop 1 s),
      length-drop 1 s,
    )
equated_less name false s a q e = absurd (let z : ◌≡◌ {A = ℕ} 0 1 = cc in omega arith)

pub next_less : (p : List ℕ) (a : Attribute) (q : List ℕ) → next_attribute p ≡ Has a q → length q < length p
unfolding next_attribute attribute_at
next_less [] a q e = absurd (let z : ◌≡◌ {A = ℕ} 0 1 = cc in omega arith)
next_less (b ∷ p) a q e = go (blank b) e
  where
    go : (t : Bool) → cond t (attribute_at (after_blanks (b ∷ p))) HasNot ≡ Has a q → length q < suc (length p)
    go true f =
        let s : List ℕ = after_blanks (b ∷ p) in
        let w : List ℕ = after_blanks (after_name s) in
        let l : length q ≤ length w - 1 = equated_less (name_at s) (name_first (get_or s 0 0) && begins (ascii "=") w) w a q f in
        omega (arith, length_after (λ (x : ℕ). not (blank x)) (after_name s), length-drop (length (name_at s)) s, length_after (λ (x : ℕ). not (blank x)) (b ∷ p))
    go false f = absurd (let z : ◌≡◌ {A = ℕ} 0 1 = cc in omega arith)

-- all of them
next_none : (r : List ℕ) → next_attribute (60 ∷ r) ≡ HasNot
unfolding next_attribute
next_none r = refl

abbrev Alike : ℕ → ℕ → List ℕ → List ℕ → Type 0
Alike k j p r = (attributes_at k (p ++ (60 ∷ r)) ≡ attributes_at j p) × (after_attributes k (p ++ (60 ∷ r)) ≡ after_attributes j p ++ (60 ∷ r))

all_front : (j k : ℕ) (p r : List ℕ) → length p ≤ j → length (p ++ (60 ∷ r)) ≤ k → Alike k j p r
unfolding attributes_at after_attributes
all_front zero k [] r h g = (attributes_none k (60 ∷ r) (next_none r), behind_none k (60 ∷ r) (next_none r))
all_front zero k (b ∷ p) r h g = absurd (omega arith)
all_front (suc j) zero p r h g = absurd (omega (arith, length-append p (60 ∷ r)))
all_front (suc j) (suc k) p r h g = go (next_attribute p) refl (λ (q : List ℕ). all_front j k q r)
  where
    more : next_attribute (p ++ (60 ∷ r)) ≡ further (60 ∷ r) (next_attribute p)
    more = next_front p r

    go : (x : Attributed) → next_attribute p ≡ x → ((q : List ℕ) → length q ≤ j → length (q ++ (60 ∷ r)) ≤ k → Alike k j q r) → Alike (suc k) (suc j) p r
    go (Has a q) e f =
        let l : length q < length p = next_less p a q e in
        let n : next_attribute (p ++ (60 ∷ r)) ≡ Has a (q ++ (60 ∷ r)) = more ∙ ap (further (60 ∷ r)) e in
        let w : Alike k j q r = f q (omega arith) (omega (arith, length-append p (60 ∷ r), length-append q (60 ∷ r))) in (
          attributes_first k (p ++ (60 ∷ r)) a (q ++ (60 ∷ r)) n ∙ ap (λ (l : List Attribute). a ∷ l) w.0 ∙ sym (attributes_first j p a q e),
          behind_first k (p ++ (60 ∷ r)) a (q ++ (60 ∷ r)) n ∙ w.1 ∙ ap (λ (l : List ℕ). l ++ (60 ∷ r)) (sym (behind_first j p a q e)),
        )
    go HasNot e f =
        let n : next_attribute (p ++ (60 ∷ r)) ≡ HasNot = more ∙ ap (further (60 ∷ r)) e in (
          attributes_none (suc k) (p ++ (60 ∷ r)) n ∙ sym (attributes_none (suc j) p e),
          behind_none (suc k) (p ++ (60 ∷ r)) n ∙ ap (λ (l : List ℕ). l ++ (60 ∷ r)) (sym (behind_none (suc j) p e)),
        )

-- START TAGS, with z behind what remains
abbrev pub onward : List ℕ → Started → Started
onward z (Begun t s) = Begun t (s ++ z)
onward z NoTag = NoTag

closing_front : (name : List ℕ) (xs : List Attribute) (p r : List ℕ) → closing name xs (p ++ (60 ∷ r)) ≡ onward (60 ∷ r) (closing name xs p)
unfolding every
closing_front name xs p r =
    rw (begins_front (ascii "/>") refl p r, begins_front (ascii ">") refl p r) (go (begins (ascii "/>") p) (begins (ascii ">") p) refl refl)
  where
    go : (a b : Bool) → begins (ascii "/>") p ≡ a → begins (ascii ">") p ≡ b
        → cond a (begun name xs true (drop 2 (p ++ (60 ∷ r)))) (cond b (begun name xs false (drop 1 (p ++ (60 ∷ r)))) NoTag)
        ≡ onward (60 ∷ r) (cond a (begun name xs true (drop 2 p)) (cond b (begun name xs false (drop 1 p)) NoTag))
    go true b e f = ap (begun name xs true) (drop-append-le 2 p (60 ∷ r) (begins_within (ascii "/>") p e))
    go false true e f = ap (begun name xs false) (drop-append-le 1 p (60 ∷ r) (begins_within (ascii ">") p f))
    go false false e f = refl

pub start_front : (p r : List ℕ) → start_tag (p ++ (60 ∷ r)) ≡ onward (60 ∷ r) (start_tag p)
unfolding start_tag
start_front p r = rw (first_name_front p r, after_name_front p r, name_front p r) (go (name_first (get_or p 0 0)))
  where
    s : List ℕ
    s = after_name p

    w : Alike (length (s ++ (60 ∷ r))) (length s) s r
    w = all_front (length s) (length (s ++ (60 ∷ r))) s r (omega arith) (omega arith)

    behind : (t : Bool) → cond t (closing (name_at p) (attributes_at (length s) s) (after_blanks (after_attributes (length s) s) ++ (60 ∷ r))) NoTag
        ≡ onward (60 ∷ r) (cond t (closing (name_at p) (attributes_at (length s) s) (after_blanks (after_attributes (length s) s))) NoTag)
    behind true = closing_front (name_at p) (attributes_at (length s) s) (after_blanks (after_attributes (length s) s)) r
    behind false = refl

    after : start_after (name_at p) (s ++ (60 ∷ r)) ≡ onward (60 ∷ r) (start_after (name_at p) s)
    after = rw (w.0, w.1, blanks_front (after_attributes (length s) s) r) (behind (distinct (attributes_at (length s) s)))

    go : (q : Bool) → cond q (start_after (name_at p) (s ++ (60 ∷ r))) NoTag ≡ onward (60 ∷ r) (cond q (start_after (name_at p) s) NoTag)
    go true = after
    go false = refl
