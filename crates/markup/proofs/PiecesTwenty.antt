-- The pieces of a root's content, an element that is passed over or an entry: what remains behind them, without what they say.
-- Assumes nothing.
use Prim.Native.Nat.{ℕ, suc, ◌≤◌, ◌<◌}
use native.Mathlib.Omega.{arith}
use mathlib.Core.Path.{◌≡◌, refl, sym, ap, ◌∙◌}
use mathlib.Core.Bool.{Bool, true, false}
use mathlib.Core.List.{List, [], ◌∷◌, ◌++◌}
use mathlib.Core.Option.{Option, none, some}
use lib.ListN.{length, drop}
use Rattle.markup.specs.Marks.{Outcome, On, Not, either, and_then, name_at, prefixed}
use Rattle.markup.specs.Tags.{Tag, Started, Begun, NoTag, start_tag, end_tag, opens}
use Rattle.markup.specs.Elements.{between, content}
use Rattle.markup.specs.Entries.{Entry, entry_of}
use Rattle.markup.specs.Streams.{Said, Says, Unread, where_on, choose, with_entry, passed, entry_held, judged, entry_then, piece_then, entries_in}
use Rattle.markup.specs.declared.entries.Kind.{Kind}
use Rattle.markup.proofs.Fronts.{farther, name_front}
use Rattle.markup.proofs.FrontTags.{start_front}
use Rattle.markup.proofs.EndTags.{start_named}
use Rattle.markup.proofs.FrontGaps.{Both, and_on}
use Rattle.markup.proofs.Remains.{Remains, remains_less, remains_then, start_remains, end_remains, held_remains, element_remains, content_remains}
use Rattle.markup.proofs.Contents.{Cut, Farther, farther_on, tag_end_front, held_empty, held_full, KeptElement, element_kept, KeptContent, content_kept}

-- WHAT REMAINS of what is said
abbrev pub outcome_of : Said → Outcome
outcome_of (Says es s) = On s
outcome_of (Unread n) = Not n

pub where_outcome : (o : Outcome) (f : List ℕ → Said) → outcome_of (where_on o f) ≡ and_then o (λ (u : List ℕ). outcome_of (f u))
where_outcome (On s) f = refl
where_outcome (Not n) f = refl

with_outcome : (e : Entry) (x : Said) → outcome_of (with_entry e x) ≡ outcome_of x
with_outcome e (Says es s) = refl
with_outcome e (Unread n) = refl

pub choose_outcome : (b : Bool) (x y : Said) → outcome_of (choose b x y) ≡ either b (outcome_of x) (outcome_of y)
choose_outcome true x y = refl
choose_outcome false x y = refl

-- OF A PIECE
abbrev pub entered : Option Entry → Outcome → Outcome
entered none o = Not 19
entered (some e) o = o

abbrev pub entry_end : Kind → Started → Outcome
entry_end K (Begun g s) = entered (entry_of K g) (entry_held g s)
entry_end K NoTag = Not 19

abbrev pub piece_end : Kind → List ℕ → Outcome
piece_end K s = either (prefixed (name_at s)) (passed s) (entry_end K (start_tag s))

judged_outcome : (f : List ℕ → Said) (g : Tag) (s : List ℕ) (e : Option Entry)
    → outcome_of (judged f g s e) ≡ and_then (entered e (entry_held g s)) (λ (u : List ℕ). outcome_of (f u))
judged_outcome f g s none = refl
judged_outcome f g s (some e) = with_outcome e (where_on (entry_held g s) f) ∙ where_outcome (entry_held g s) f

entry_outcome : (K : Kind) (f : List ℕ → Said) (x : Started) → outcome_of (entry_then K f x) ≡ and_then (entry_end K x) (λ (u : List ℕ). outcome_of (f u))
entry_outcome K f (Begun g s) = judged_outcome f g s (entry_of K g)
entry_outcome K f NoTag = refl

piece_outcome : (K : Kind) (f : List ℕ → Said) (s : List ℕ) → outcome_of (piece_then K f s) ≡ and_then (piece_end K s) (λ (u : List ℕ). outcome_of (f u))
piece_outcome K f s = choose_outcome (prefixed (name_at s)) _ _ ∙ go (prefixed (name_at s))
  where
    go : (b : Bool) → either b (outcome_of (where_on (passed s) f)) (outcome_of (entry_then K f (start_tag s)))
        ≡ and_then (either b (passed s) (entry_end K (start_tag s))) (λ (u : List ℕ). outcome_of (f u))
    go true = where_outcome (passed s) f
    go false = entry_outcome K f (start_tag s)

-- OF THE ENTRIES
abbrev pub entries_end : Kind → ℕ → List ℕ → Outcome
entries_end K k s = outcome_of (entries_in K k s)

abbrev pub pieces_on : Kind → ℕ → List ℕ → Outcome
pieces_on K k t = either (opens t) (and_then (piece_end K (drop 1 t)) (λ (u : List ℕ). entries_end K k u)) (On t)

pub entries_step : (K : Kind) (k : ℕ) (s : List ℕ) → entries_end K (suc k) s ≡ and_then (between false s) (pieces_on K k)
unfolding entries_in
entries_step K k s = where_outcome (between false s) _ ∙ go (between false s)
  where
    on : (t : List ℕ) → outcome_of (choose (opens t) (piece_then K (λ (u : List ℕ). entries_in K k u) (drop 1 t)) (Says [] t)) ≡ pieces_on K k t
    on t = choose_outcome (opens t) _ (Says [] t)
        ∙ ap (λ (o : Outcome). either (opens t) o (On t)) (piece_outcome K (λ (u : List ℕ). entries_in K k u) (drop 1 t))

    go : (o : Outcome) → and_then o (λ (t : List ℕ). outcome_of (choose (opens t) (piece_then K (λ (u : List ℕ). entries_in K k u) (drop 1 t)) (Says [] t)))
        ≡ and_then o (pieces_on K k)
    go (On t) = on t
    go (Not n) = refl

-- WHAT REMAINS IS THE END
entered_on : (e : Option Entry) (o : Outcome) (t : List ℕ) → entered e o ≡ On t → o ≡ On t
entered_on none o t e = absurd (let z : ◌≡◌ {A = ℕ} 0 1 = cc in omega arith)
entered_on (some x) o t e = e

abbrev pub in_entry : List ℕ → Outcome
in_entry u = content (length u) 14 false u

pub piece_remains : (K : Kind) (s t : List ℕ) → piece_end K s ≡ On t → Remains s t × (length t < length s)
piece_remains K s t e = go (prefixed (name_at s)) e
  where
    entry : (x : Started) → start_tag s ≡ x → entry_end K x ≡ On t → Remains s t × (length t < length s)
    entry (Begun g u) f h =
        let w : Remains u t =
        held_remains g in_entry u t (λ (v : List ℕ) x. content_remains (length u) 14 false u v x) (entered_on (entry_of K g) (entry_held g u) t h) in
        (remains_then s u t (start_remains s g u f) w, omega (arith, remains_less u t w, (start_named s g u f).1))
    entry NoTag f h = absurd (let z : ◌≡◌ {A = ℕ} 0 1 = cc in omega arith)

    go : (b : Bool) → either b (passed s) (entry_end K (start_tag s)) ≡ On t → Remains s t × (length t < length s)
    go true h = element_remains (length s) 14 s t h
    go false h = entry (start_tag s) refl h

-- WHAT ENDS IN p before a `<` ends there whatever follows
pub record KeptPiece (K : Kind) (p t z : List ℕ) : Type 0 where
  pub rest : List ℕ
  pub is : t ≡ rest ++ z
  pub also : (r : List ℕ) → Cut r → piece_end K (p ++ (60 ∷ r)) ≡ On (rest ++ (60 ∷ r))

pub passed_front : (K : Kind) (p : List ℕ) → prefixed (name_at p) ≡ true → (r : List ℕ) → piece_end K (p ++ (60 ∷ r)) ≡ passed (p ++ (60 ∷ r))
passed_front K p b r = rw (name_front p r, b)

pub entry_front : (K : Kind) (p : List ℕ) → prefixed (name_at p) ≡ false → (g : Tag) (s : List ℕ) → start_tag p ≡ Begun g s
    → (r : List ℕ) → piece_end K (p ++ (60 ∷ r)) ≡ entered (entry_of K g) (entry_held g (s ++ (60 ∷ r)))
entry_front K p b g s f r = rw (name_front p r, b, start_front p r, f)

pub tagless_front : (K : Kind) (p : List ℕ) → prefixed (name_at p) ≡ false → start_tag p ≡ NoTag → (r : List ℕ) → piece_end K (p ++ (60 ∷ r)) ≡ Not 19
tagless_front K p b f r = rw (name_front p r, b, start_front p r, f)

record KeptHeld (g : Tag) (p t z : List ℕ) : Type 0 where
  rest : List ℕ
  is : t ≡ rest ++ z
  also : (r : List ℕ) → Cut r → entry_held g (p ++ (60 ∷ r)) ≡ On (rest ++ (60 ∷ r))

held_kept : (q : List ℕ) (g : Tag) (p : List ℕ) → start_tag q ≡ Begun g p → (r t : List ℕ) → Cut r → entry_held g (p ++ (60 ∷ r)) ≡ On t
    → length (60 ∷ r) ≤ length t → KeptHeld g p t (60 ∷ r)
held_kept q g p f r t c e l = go g.empty refl
  where
    go : (x : Bool) → g.empty ≡ x → KeptHeld g p t (60 ∷ r)
    go true m =
        let d : On (p ++ (60 ∷ r)) ≡ On t = sym (held_empty g in_entry (p ++ (60 ∷ r)) m) ∙ e in
        let i : p ++ (60 ∷ r) ≡ t = cc in
        record { rest = p; is = sym i; also = λ (v : List ℕ) x. held_empty g in_entry (p ++ (60 ∷ v)) m }
    go false m =
        let w : Both (in_entry (p ++ (60 ∷ r))) (end_tag g.name) t =
        and_on (in_entry (p ++ (60 ∷ r))) (end_tag g.name) t (sym (held_full g in_entry (p ++ (60 ∷ r)) m) ∙ e) in
        let lt : length t < length w.mid = (end_remains g.name w.mid t w.then).1 in
        let kept : KeptContent 14 false p w.mid (60 ∷ r) =
        content_kept (length (p ++ (60 ∷ r))) 14 false p r w.mid c (omega arith) w.first (omega arith) in
        let u : Farther (end_tag g.name kept.rest) (60 ∷ r) t =
        farther_on (end_tag g.name kept.rest) (60 ∷ r) t
        (sym (tag_end_front q g p f kept.rest r c) ∙ ap (end_tag g.name) (sym kept.is) ∙ w.then) in
        record {
          rest = u.mid;
          is = u.is;
          also = λ (v : List ℕ) x. held_full g in_entry (p ++ (60 ∷ v)) m
              ∙ ap (λ (o : Outcome). and_then o (end_tag g.name)) (kept.also (length (p ++ (60 ∷ v))) v x (omega arith))
              ∙ tag_end_front q g p f kept.rest v x ∙ ap (farther (60 ∷ v)) u.first;
        }

pub piece_kept : (K : Kind) (p r t : List ℕ) → Cut r → piece_end K (p ++ (60 ∷ r)) ≡ On t → length (60 ∷ r) ≤ length t → KeptPiece K p t (60 ∷ r)
piece_kept K p r t c e l = go (prefixed (name_at p)) refl
  where
    known : (b : prefixed (name_at p) ≡ false) (g : Tag) (s : List ℕ) → start_tag p ≡ Begun g s → (x : Option Entry) → entry_of K g ≡ x
        → entered x (entry_held g (s ++ (60 ∷ r))) ≡ On t → KeptPiece K p t (60 ∷ r)
    known b g s f none y d = absurd (let z : ◌≡◌ {A = ℕ} 0 1 = cc in omega arith)
    known b g s f (some x) y d =
        let w : KeptHeld g s t (60 ∷ r) = held_kept p g s f r t c d l in
        record { rest = w.rest; is = w.is; also = λ (v : List ℕ) z. entry_front K p b g s f v ∙ rw y (w.also v z) }

    entry : prefixed (name_at p) ≡ false → (x : Started) → start_tag p ≡ x → KeptPiece K p t (60 ∷ r)
    entry b (Begun g s) f = known b g s f (entry_of K g) refl (sym (entry_front K p b g s f r) ∙ e)
    entry b NoTag f = let d : Not 19 ≡ On t = sym (tagless_front K p b f r) ∙ e in absurd (let z : ◌≡◌ {A = ℕ} 0 1 = cc in omega arith)

    go : (b : Bool) → prefixed (name_at p) ≡ b → KeptPiece K p t (60 ∷ r)
    go true b =
        let w : KeptElement 14 p t (60 ∷ r) = element_kept (length (p ++ (60 ∷ r))) 14 p r t c (omega arith) (sym (passed_front K p b r) ∙ e) l in
        record { rest = w.rest; is = w.is; also = λ (v : List ℕ) z. passed_front K p b v ∙ w.also (length (p ++ (60 ∷ v))) v z (omega arith) }
    go false b = entry b (start_tag p) refl
