-- The entries of a stream, noted one after the other.
-- Assumes nothing.
use Prim.Native.Nat.{ℕ, suc, ◌+◌, ◌≤◌, ◌<◌}
use native.Mathlib.Omega.{arith}
use mathlib.Core.Path.{◌≡◌, refl, sym, ap, ◌∙◌, subst}
use mathlib.Core.Bool.{Bool, true, false, cond, false≢true}
use mathlib.Core.List.{List, [], ◌∷◌, ◌++◌, map, append-nil}
use mathlib.Core.Option.{Option, none, some}
use lib.Dec.{ltb}
use lib.ListN.{length, take, drop, set, length-append, length-set}
use lib.Seq.{take_all, take-append-le, take-suc-set}
use borrow.Author.Tests.{ltb-true, ltb-false}
use Rattle.std.specs.Prelude.{Result, Ok, Err, IfOk, MatchResult}
use Rattle.markup.specs.Entries.{Entry}
use Rattle.markup.specs.Streams.{Said, Says, Unread, with_entry, entries_in, entries_of}
use Rattle.markup.specs.Walks.{number}
use Rattle.markup.specs.StreamPlaces.{RefusedBy}
use Rattle.markup.specs.PiecePlaces.{entry_in, is_entry, enter, PieceWithin, EntryNextOf, EntryNextAt}
use Rattle.markup.specs.FormPlaces.{place_count, noted, Noted, EndsAt, RunAt}
use Rattle.markup.specs.declared.marks.Fault.{Fault}
use Rattle.markup.specs.declared.entries.Kind.{Kind}
use Rattle.markup.specs.declared.pieces.Piece.{Piece}
use Rattle.markup.specs.declared.pieces.Piece.TheVariants.{Entered, Done}

-- ENTRIES BEFORE what a stream says
abbrev pub with_entries : List Entry → Said → Said
with_entries [] d = d
with_entries (e ∷ es) d = with_entry e (with_entries es d)

with_more : (es : List Entry) (e : Entry) (d : Said) → with_entries (es ++ e ∷ []) d ≡ with_entries es (with_entry e d)
with_more [] e d = refl
with_more (x ∷ es) e d = ap (with_entry x) (with_more es e d)

with_says : (es fs : List Entry) (s : List ℕ) → with_entries es (Says fs s) ≡ Says (es ++ fs) s
with_says [] fs s = refl
with_says (x ∷ es) fs s = ap (with_entry x) (with_says es fs s)

with_unread : (es : List Entry) (n : ℕ) → with_entries es (Unread n) ≡ Unread n
with_unread [] n = refl
with_unread (x ∷ es) n = ap (with_entry x) (with_unread es n)

-- PLACES
length_noted : (places : List ℕ) (n at : ℕ) → length (noted places n at) ≡ length places
length_noted places n at = go (ltb n place_count)
  where
    go : (b : Bool) → length (cond b (set places n at) places) ≡ length places
    go true = length-set places n at
    go false = refl

map_more : {A B : Type 0} (f : A → B) (xs : List A) (x : A) → map f (xs ++ x ∷ []) ≡ map f xs ++ f x ∷ []
map_more f [] x = refl
map_more f (y ∷ xs) x = ap (λ (r : List _). f y ∷ r) (map_more f xs x)

-- one more is noted
noted_more : (K : Kind) (s places : List ℕ) (es : List Entry) (n p : ℕ) (e : Entry) → length places ≡ place_count → n ≡ length es
    → entry_in K s p ≡ some e → Noted K s places es → Noted K s (noted places n p) (es ++ e ∷ [])
noted_more K s places es n p e size c q h = go (ltb n place_count) refl
  where
    long : length (es ++ e ∷ []) ≡ suc n
    long = length-append es (e ∷ []) ∙ omega (arith, c)

    go : (b : Bool) → ltb n place_count ≡ b
        → map (entry_in K s) (take (length (es ++ e ∷ [])) (cond b (set places n p) places)) ≡ map some (take place_count (es ++ e ∷ []))
    go true t =
        let l : n < 257 = ltb-true n 257 t in
        let few : length es ≤ 257 = omega arith in
        let some_few : length (es ++ e ∷ []) ≤ 257 = omega (arith, long, l) in
        ap (λ (k : ℕ). map (entry_in K s) (take k (set places n p))) long
        ∙ ap (map (entry_in K s)) (take-suc-set places n p (omega (arith, l, size)))
        ∙ map_more (entry_in K s) (take n places) p
        ∙ ap (λ (x : Option Entry). map (entry_in K s) (take n places) ++ x ∷ []) q
        ∙ ap (λ (xs : List (Option Entry)). xs ++ some e ∷ [])
        (ap (λ (k : ℕ). map (entry_in K s) (take k places)) c ∙ h ∙ ap (map some) (take_all 257 es few))
        ∙ sym (map_more some es e)
        ∙ ap (map some) (sym (take_all 257 (es ++ e ∷ []) some_few))
    go false t =
        let l : 257 ≤ n = ltb-false n 257 t in
        let many : 257 ≤ length es = omega arith in
        ap (map (entry_in K s))
        (take_all (length (es ++ e ∷ [])) places (omega (arith, long, l, size)) ∙ sym (take_all (length es) places (omega (arith, many, size))))
        ∙ h ∙ ap (map some) (sym (take-append-le 257 es (e ∷ []) many))

-- THE LOOP, which began at a, has come to i and noted n entries
pub record Gone (K : Kind) (s places : List ℕ) (i n : ℕ) (d : Said) : Type 0 where
  pub entries : List Entry
  pub calls : ℕ
  pub enough : length s ≤ i + calls
  pub is : d ≡ with_entries entries (entries_in K calls (drop i s))
  pub counted : n ≡ length entries
  pub noting : Noted K s places entries

pub record Going (K : Kind) (s : List ℕ) (a : ℕ) (places : List ℕ) (i n : ℕ) : Type 0 where
  pub from : a ≤ i
  pub to : i ≤ length s
  pub few : n ≤ i
  pub size : length places ≡ place_count
  pub gone : (k : ℕ) → length s ≤ a + k → Gone K s places i n (entries_in K k (drop a s))

pub gone_none : {K : Kind} {s : List ℕ} {a : ℕ} {places : List ℕ} → a ≤ length s → length places ≡ place_count → Going K s a places a 0
gone_none h size = record {
  from = omega arith;
  to = h;
  few = omega arith;
  size = size;
  gone = λ k g. record { entries = []; calls = k; enough = g; is = refl; counted = refl; noting = refl };
}

gone_more : (K : Kind) (s places : List ℕ) (es : List Entry) (n p d c : ℕ) (D : Said) → length places ≡ place_count → n ≡ length es
    → Noted K s places es → is_entry (entry_in K s p) ≡ true → D ≡ with_entries es (enter (entry_in K s p) (entries_in K c (drop d s)))
    → length s ≤ d + c → Gone K s (noted places n p) d (n + 1) D
gone_more K s places es n p d c D size m h o f l = go (entry_in K s p) refl
  where
    go : (x : Option Entry) → entry_in K s p ≡ x → Gone K s (noted places n p) d (n + 1) D
    go none q = absurd (false≢true (sym (ap is_entry q) ∙ o))
    go (some e) q =
        let rest = entries_in K c (drop d s) in
        record {
          entries = es ++ e ∷ [];
          calls = c;
          enough = l;
          is = f ∙ ap (λ (x : Option Entry). with_entries es (enter x rest)) q ∙ sym (with_more es e rest);
          counted = let k : length (es ++ e ∷ []) ≡ length es + 1 = length-append es (e ∷ []) in omega arith;
          noting = noted_more K s places es n p e size m q h;
        }

-- the content ends
ends_with : (K : Kind) (s places : List ℕ) (es : List Entry) (d n : ℕ) (D : Said) → D ≡ Says es (drop d s) → n ≡ length es
    → Noted K s places es → EndsAt K s places D (record { end = d; count = n })
ends_with K s places es d n D e c h =
    let f : entries_of D ≡ es = ap entries_of e in
    record {
      is = e ∙ ap (λ (x : List Entry). Says x (drop d s)) (sym f);
      counted = c ∙ ap length (sym f);
      noting = subst (λ (x : List Entry). Noted K s places x) (sym f) h;
    }

-- what stands next
module _ {K : Kind} {s : List ℕ} {i : ℕ} {r : Result Piece Fault} (next : EntryNextAt K s i r) where
  next_within : (x : Piece) → r ≡ Ok x → PieceWithin K s i x
  next_within x e = subst (λ (y : Result Piece Fault). IfOk y (PieceWithin K s i)) e next.within

  pub next_reach : {p d : ℕ} → r ≡ Ok (Entered p d) → (i < d) × (d ≤ length s)
  next_reach {p} {d} e = let v = next_within (Entered p d) e in (v.0, v.2)

module _ {K : Kind} {s : List ℕ} {a : ℕ} {places : List ℕ} {i n : ℕ} (so : Going K s a places i n) {r : Result Piece Fault} (next : EntryNextAt K s i r) where
  -- what the content says from i on
  abbrev rest : (k : ℕ) → length s ≤ a + k → Said
  rest k h = entries_in K (so.gone k h).calls (drop i s)

  gone_next : (k : ℕ) (h : length s ≤ a + k) (x : Result Piece Fault) → r ≡ x → MatchResult x (EntryNextOf K s (rest k h)) (RefusedBy (rest k h))
  gone_next k h x e = subst (λ (y : Result Piece Fault). MatchResult y (EntryNextOf K s (rest k h)) (RefusedBy (rest k h))) e (next.is (so.gone k h).calls (so.gone k h).enough)

  pub gone_entered : {p d : ℕ} → r ≡ Ok (Entered p d) → (more : List ℕ) → more ≡ noted places n p → Going K s a more d (n + 1)
  gone_entered {p} {d} e more q =
      let v = next_within next (Entered p d) e in
      let w = next_reach next e in
      let f : a ≤ i = so.from in
      let m : n ≤ i = so.few in
      record {
        from = omega (arith, w.0, f);
        to = w.1;
        few = omega (arith, w.0, m);
        size = ap length q ∙ length_noted places n p ∙ so.size;
        gone = λ k h.
            let g = so.gone k h in
            let t : EntryNextOf K s (rest k h) (Entered p d) = gone_next k h (Ok (Entered p d)) e in
            subst (λ (x : List ℕ). Gone K s x d (n + 1) (entries_in K k (drop a s))) (sym q)
            (gone_more K s places g.entries n p d t.calls (entries_in K k (drop a s)) so.size g.counted g.noting v.3
            (g.is ∙ ap (with_entries g.entries) t.is) t.enough);
      }

  pub gone_done : {d : ℕ} → r ≡ Ok (Done d) → RunAt K s a places (Ok (record { end = d; count = n }))
  gone_done {d} e =
      let v = next_within next (Done d) e in
      let f : a ≤ i = so.from in
      record {
        size = so.size;
        within = (omega (arith, v.0, f), v.1);
        is = λ k h.
            let g = so.gone k h in
            let t : rest k h ≡ Says [] (drop d s) = gone_next k h (Ok (Done d)) e in
            ends_with K s places g.entries d n (entries_in K k (drop a s))
            (g.is ∙ ap (with_entries g.entries) t ∙ with_says g.entries [] (drop d s)
            ∙ ap (λ (es : List Entry). Says es (drop d s)) (append-nil g.entries))
            g.counted g.noting;
      }

  pub gone_unfit : {m : Fault} → r ≡ Err m → RunAt K s a places (Err m)
  gone_unfit {m} e = record {
    size = so.size;
    within = tt;
    is = λ k h.
        let g = so.gone k h in
        let t : rest k h ≡ Unread (number m) = gone_next k h (Err m) e in
        g.is ∙ ap (with_entries g.entries) t ∙ with_unread g.entries (number m);
  }
