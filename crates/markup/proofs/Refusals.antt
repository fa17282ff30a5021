-- The numbers that reading gives where a stream is not accepted: 19, and 20 for a start tag that is too deep.
-- Assumes nothing.
use Prim.Native.Nat.{ℕ, zero, suc, ◌+◌, ◌-◌}
use native.Mathlib.Omega.{arith}
use mathlib.Core.Path.{◌≡◌, refl, subst}
use mathlib.Core.Bool.{Bool, true, false, not, ◌&&◌}
use mathlib.Core.List.{List, [], ◌∷◌, ◌++◌}
use mathlib.Core.Logic.{◌⊎◌, inl, inr}
use mathlib.Core.Option.{Option, none, some}
use lib.Dec.{eqb}
use lib.ListN.{length, drop}
use Rattle.chars.specs.Bytes.{ascii}
use Rattle.chars.specs.Lists.{begins}
use Rattle.markup.specs.Marks.{Outcome, On, Not, either, and_then, expected, after_blanks, name_at, prefixed, comment_mark, comment, dashes}
use Rattle.markup.specs.Tags.{Tag, Started, Begun, NoTag, start_tag, end_tag, opens}
use Rattle.markup.specs.Elements.{after_gap, gaps, between, held, element_of, nested, goes_on, element, content}
use Rattle.markup.specs.Entries.{Entry, entry_of}
use Rattle.markup.specs.Streams.{Said, Says, Unread, where_on, choose, with_entry, entry_held, judged, entry_then, entries_in, is_root, ended, closed_root, root_of, root_at, after_declaration, said, form_of}
use Rattle.markup.specs.Depth.{ElseNineteen}
use Rattle.markup.specs.declared.entries.Kind.{Kind}

-- the number, if one is given, passes P
abbrev pub Gives : (ℕ → Type 0) → Outcome → Type 0
Gives P (On s) = Unit {0}
Gives P (Not n) = P n

module _ (P : ℕ → Type 0) (nineteen : P 19) where
  pub gives_then : (o : Outcome) (f : List ℕ → Outcome) → Gives P o → ((t : List ℕ) → Gives P (f t)) → Gives P (and_then o f)
  gives_then (On s) f g h = h s
  gives_then (Not n) f g h = g

  gives_either : (b : Bool) (x y : Outcome) → Gives P x → Gives P y → Gives P (either b x y)
  gives_either true x y g h = g
  gives_either false x y g h = h

  expected_gives : (t s : List ℕ) → Gives P (expected t s)
  expected_gives t s = gives_either (begins t s) (On (drop (length t) s)) (Not 19) tt nineteen

  comment_gives : (s : List ℕ) → Gives P (comment s)
  unfolding comment
  comment_gives s = expected_gives (ascii "-->") (drop (4 + dashes (drop 4 s)) s)

  pub gaps_gives : (k : ℕ) (text : Bool) (s : List ℕ) → Gives P (gaps k text s)
  unfolding gaps
  gaps_gives zero text s = tt
  gaps_gives (suc k) text s =
      let a : List ℕ = after_gap text s in
      gives_either (begins comment_mark a) _ (On a) (gives_then (comment a) _ (comment_gives a) (λ (t : List ℕ). gaps_gives k text t)) tt

  pub end_gives : (n s : List ℕ) → Gives P (end_tag n s)
  unfolding end_tag
  end_gives n s =
      gives_then (expected (ascii "</" ++ n) s) _ (expected_gives (ascii "</" ++ n) s) (λ (t : List ℕ). expected_gives (ascii ">") (after_blanks t))

  -- ELEMENTS
  module _ (twenty : P 20) where
    held_gives : (t : Tag) (inside : List ℕ → Outcome) (s : List ℕ) → Gives P (inside s) → Gives P (held t inside s)
    held_gives t inside s g =
        gives_either t.empty (On s) _ tt (gives_then (inside s) (end_tag t.name) g (λ (u : List ℕ). end_gives t.name u))

    element_of_gives : (inside : List ℕ → Outcome) (x : Started) → ((s : List ℕ) → Gives P (inside s)) → Gives P (element_of inside x)
    element_of_gives inside (Begun t s) g = held_gives t inside s (g s)
    element_of_gives inside NoTag g = nineteen

    goes_gives : (inner more : List ℕ → Outcome) (left : ℕ) (text : Bool) (s : List ℕ) → ((t : List ℕ) → Gives P (inner t)) → ((t : List ℕ) → Gives P (more t))
        → Gives P (goes_on inner more left text s)
    goes_gives inner more left text s g h =
        gives_either (opens s) _ (On s)
        (gives_then (nested inner left text (drop 1 s)) more
        (gives_either (eqb left 0) (Not 20) _ twenty
        (gives_either (not text && not (prefixed (name_at (drop 1 s)))) (Not 19) (inner (drop 1 s)) nineteen (g (drop 1 s)))) h) tt

    mutual
      unfolding element content

      pub element_gives : (k left : ℕ) (s : List ℕ) → Gives P (element k left s)
      element_gives zero left s = nineteen
      element_gives (suc k) left s = element_of_gives (λ (t : List ℕ). content k left true t) (start_tag s) (λ (t : List ℕ). content_gives k left true t)

      pub content_gives : (k left : ℕ) (text : Bool) (s : List ℕ) → Gives P (content k left text s)
      content_gives zero left text s = tt
      content_gives (suc k) left text s =
          gives_then (between text s) _ (gaps_gives (length s) text s)
          (λ (u : List ℕ). goes_gives (λ (t : List ℕ). element k (left - 1) t) (λ (t : List ℕ). content k left text t) left text u
          (λ (t : List ℕ). element_gives k (left - 1) t) (λ (t : List ℕ). content_gives k left text t))

    -- STREAMS
    abbrev pub GivesSaid : Said → Type 0
    GivesSaid (Says es s) = Unit {0}
    GivesSaid (Unread n) = P n

    where_gives : (o : Outcome) (f : List ℕ → Said) → Gives P o → ((t : List ℕ) → GivesSaid (f t)) → GivesSaid (where_on o f)
    where_gives (On s) f g h = h s
    where_gives (Not n) f g h = g

    choose_gives : (b : Bool) (x y : Said) → GivesSaid x → GivesSaid y → GivesSaid (choose b x y)
    choose_gives true x y g h = g
    choose_gives false x y g h = h

    with_gives : (e : Entry) (x : Said) → GivesSaid x → GivesSaid (with_entry e x)
    with_gives e (Says es s) g = tt
    with_gives e (Unread n) g = g

    judged_gives : (f : List ℕ → Said) (t : Tag) (s : List ℕ) (e : Option Entry) → ((u : List ℕ) → GivesSaid (f u)) → GivesSaid (judged f t s e)
    judged_gives f t s none g = nineteen
    judged_gives f t s (some e) g =
        with_gives e (where_on (entry_held t s) f)
        (where_gives (entry_held t s) f (held_gives t (λ (u : List ℕ). content (length u) 14 false u) s (content_gives (length s) 14 false s)) g)

    entry_gives : (K : Kind) (f : List ℕ → Said) (x : Started) → ((u : List ℕ) → GivesSaid (f u)) → GivesSaid (entry_then K f x)
    entry_gives K f (Begun t s) g = judged_gives f t s (entry_of K t) g
    entry_gives K f NoTag g = nineteen

    entries_give : (K : Kind) (k : ℕ) (s : List ℕ) → GivesSaid (entries_in K k s)
    unfolding entries_in
    entries_give K zero s = tt
    entries_give K (suc k) s =
        where_gives (between false s) _ (gaps_gives (length s) false s)
        (λ (t : List ℕ). choose_gives (opens t) _ (Says [] t)
        (choose_gives (prefixed (name_at (drop 1 t))) _ _
        (where_gives (element (length (drop 1 t)) 14 (drop 1 t)) _ (element_gives (length (drop 1 t)) 14 (drop 1 t)) (λ (u : List ℕ). entries_give K k u))
        (entry_gives K (λ (u : List ℕ). entries_in K k u) (start_tag (drop 1 t)) (λ (u : List ℕ). entries_give K k u))) tt)

    ended_gives : (es : List Entry) (o : Outcome) → Gives P o → GivesSaid (ended es o)
    ended_gives es (On []) g = tt
    ended_gives es (On (b ∷ s)) g = nineteen
    ended_gives es (Not n) g = g

    closed_gives : (name : List ℕ) (x : Said) → GivesSaid x → GivesSaid (closed_root name x)
    closed_gives name (Says es s) g =
        ended_gives es (and_then (end_tag name s) (between false))
        (gives_then (end_tag name s) (between false) (end_gives name s) (λ (u : List ℕ). gaps_gives (length u) false u))
    closed_gives name (Unread n) g = g

    root_gives : (K : Kind) (x : Started) → GivesSaid (root_of K x)
    root_gives K (Begun t s) =
        choose_gives (is_root K t) _ (Unread 19)
        (choose_gives t.empty _ _ (ended_gives [] (between false s) (gaps_gives (length s) false s))
        (closed_gives t.name (entries_in K (length s) s) (entries_give K (length s) s))) nineteen
    root_gives K NoTag = nineteen

    pub said_gives : (K : Kind) (s : List ℕ) → GivesSaid (said K s)
    unfolding said
    said_gives K s =
        where_gives (between false (after_declaration s)) (root_at K) (gaps_gives (length (after_declaration s)) false (after_declaration s))
        (λ (t : List ℕ). choose_gives (opens t) (root_of K (start_tag (drop 1 t))) (Unread 19) (root_gives K (start_tag (drop 1 t))) nineteen)

    -- the stream's own refusal is none, or one of these
    pub form_gives : (K : Kind) (s : List ℕ) → P 0 → P (form_of (said K s))
    form_gives K s z = go (said K s) (said_gives K s)
      where
        go : (x : Said) → GivesSaid x → P (form_of x)
        go (Says es t) g = z
        go (Unread n) g = g

-- a number that refuses a stream is not 0
pub unread_some : (K : Kind) (s : List ℕ) (n : ℕ) → said K s ≡ Unread n → n ≡ 0 → ⊥
unread_some K s n e =
    let P : ℕ → Type 0 = λ (k : ℕ). k ≡ 0 → ⊥ in
    subst (GivesSaid P (λ z. omega arith) (λ z. omega arith)) e (said_gives P (λ z. omega arith) (λ z. omega arith) K s)

-- THE NUMBER 20 comes from an element or content
never : (o : Outcome) → Gives (λ (n : ℕ). n ≡ 19) o → o ≡ Not 20 → ⊥
never (On s) g e = let z : ◌≡◌ {A = ℕ} 0 1 = cc in omega arith
never (Not n) g e = let z : n ≡ 20 = cc in omega arith

pub gaps_never : (k : ℕ) (text : Bool) (s : List ℕ) → gaps k text s ≡ Not 20 → ⊥
gaps_never k text s e = never (gaps k text s) (gaps_gives (λ (n : ℕ). n ≡ 19) refl k text s) e

pub end_never : (n s : List ℕ) → end_tag n s ≡ Not 20 → ⊥
end_never n s e = never (end_tag n s) (end_gives (λ (n : ℕ). n ≡ 19) refl n s) e

-- of two steps the first gives it, or the second
pub data Refused (o : Outcome) (f : List ℕ → Outcome) : Type 0 where
  Early : o ≡ Not 20 → Refused o f
  Late : (s : List ℕ) → o ≡ On s → f s ≡ Not 20 → Refused o f

pub and_not : (o : Outcome) (f : List ℕ → Outcome) → and_then o f ≡ Not 20 → Refused o f
and_not (On s) f e = Late s refl e
and_not (Not n) f e = Early e

-- "else 19 where it isn't accepted"
abbrev pub EitherNumber : ℕ → Type 0
EitherNumber n = (n ≡ 19) ⊎ (n ≡ 20)

pub else_nineteen : ElseNineteen
else_nineteen K s f g = go (said K s) (said_gives EitherNumber (inl refl) (inr refl) K s) f g
  where
    of_two_lem : (n : ℕ) → EitherNumber n → (n ≡ 20 → ⊥) → n ≡ 19
    of_two_lem n (inl e) h = e
    of_two_lem n (inr e) h = absurd (h e)

    go : (x : Said) → GivesSaid EitherNumber (inl refl) (inr refl) x → (form_of x ≡ 0 → ⊥) → (form_of x ≡ 20 → ⊥) → form_of x ≡ 19
    go (Says es t) w a b = absurd (a refl)
    go (Unread n) w a b = of_two_lem n w b
