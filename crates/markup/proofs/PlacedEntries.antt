-- The places that are noted of an accepted stream: the i-th is that of the i-th entry that it says.
-- Assumes nothing.
use Prim.Native.Nat.{ℕ, zero, suc, min, ◌+◌, ◌≤◌, ◌<◌}
use native.Mathlib.Omega.{arith}
use mathlib.Core.Path.{◌≡◌, refl, sym, ap, ◌∙◌, subst}
use mathlib.Core.Bool.{Bool, true, false}
use mathlib.Core.List.{List, [], ◌∷◌, map}
use mathlib.Core.Option.{Option, none, some, none-ne-some}
use lib.Dec.{leb}
use lib.ListN.{length, take, drop, get_or, length-take, drop_of_length-le}
use lib.Seq.{get_or-take}
use borrow.Author.Tests.{leb-true, leb-false}
use Rattle.std.specs.Prelude.{Result, Ok, Err}
use Rattle.chars.specs.Bytes.{letter}
use Rattle.markup.specs.Tags.{start_tag}
use Rattle.markup.specs.Entries.{Entry}
use Rattle.markup.specs.Streams.{Unread, said, entries_of}
use Rattle.markup.specs.Walks.{number}
use Rattle.markup.specs.PiecePlaces.{started_entry, entry_in}
use Rattle.markup.specs.FormPlaces.{place_count, Accepted, FormOf, FormAt}
use Rattle.markup.specs.declared.marks.Fault.{Fault}
use Rattle.markup.specs.declared.entries.Kind.{Kind}
use Rattle.markup.proofs.EntryKinds.{OfKind, AllOf, said_of}

-- WHAT THE FORM TELLS, as it is answered
module _ {K : Kind} {s places : List ℕ} {r : Result ℕ Fault} (f : FormAt K s places r) where
  pub form_accepted : {count : ℕ} → r ≡ Ok count → Accepted K s places count
  form_accepted e = subst (FormOf K s places) e f.is

  pub form_unread : {n : Fault} → r ≡ Err n → said K s ≡ Unread (number n)
  form_unread e = subst (FormOf K s places) e f.is

-- a part of entries of a kind
pub all_take : (K : Kind) (n : ℕ) (es : List Entry) → AllOf K es → AllOf K (take n es)
all_take K zero es h = tt
all_take K (suc n) [] h = tt
all_take K (suc n) (e ∷ es) h = (h.0, all_take K n es h.1)

pub all_drop : (K : Kind) (n : ℕ) (es : List Entry) → AllOf K es → AllOf K (drop n es)
all_drop K zero es h = h
all_drop K (suc n) [] h = tt
all_drop K (suc n) (e ∷ es) h = all_drop K n es h.1

-- of two lists that agree throughout, the i-th of one and that of the other
record Agreed {A B : Type 0} (f : A → Option B) (x : A) (ys : List B) (i : ℕ) : Type 0 where
  that : B
  is : f x ≡ some that
  next : drop i ys ≡ that ∷ drop (suc i) ys

agreed : {A B : Type 0} (f : A → Option B) (xs : List A) (ys : List B) → map f xs ≡ map some ys → (i : ℕ) (d : A) → i < length xs →
    Agreed f (get_or xs i d) ys i
agreed f [] ys h i d l = absurd (omega arith)
agreed f (x ∷ xs) [] h i d l = let n : suc (length (map f xs)) ≡ 0 = ap length h in absurd (omega arith)
agreed f (x ∷ xs) (y ∷ ys) h zero d l = record { that = y; is = cc; next = refl }
agreed f (x ∷ xs) (y ∷ ys) h (suc i) d l =
    let a = agreed f xs ys (cc) i d (omega arith) in
    record { that = a.that; is = a.is; next = a.next }

-- behind the stream no entry begins
none_behind : (K : Kind) → started_entry K (start_tag []) ≡ none
unfolding start_tag letter
none_behind K = refl

entry_within : (K : Kind) (s : List ℕ) (at : ℕ) (e : Entry) → entry_in K s at ≡ some e → at ≤ length s
entry_within K s at e h = go (leb at (length s)) refl
  where
    go : (b : Bool) → leb at (length s) ≡ b → at ≤ length s
    go true l = leb-true at (length s) l
    go false l =
        let far = leb-false at (length s) l in
        let past : drop at s ≡ [] = drop_of_length-le s {i = at} (omega arith) in
        absurd (none-ne-some e (sym (none_behind K) ∙ ap (λ (t : List ℕ). started_entry K (start_tag t)) (sym past) ∙ h))

-- the first entries that a stream says
abbrev pub first_said : Kind → List ℕ → List Entry
first_said K s = take place_count (entries_of (said K s))

-- the i-th of them stands at this place
pub record EntryAt (K : Kind) (s : List ℕ) (i at : ℕ) : Type 0 where
  pub entry : Entry
  pub is : entry_in K s at ≡ some entry
  pub within : at ≤ length s
  pub fits : OfKind K entry
  pub next : drop i (first_said K s) ≡ entry ∷ drop (i + 1) (first_said K s)

pub first_of_lem : (K : Kind) (s : List ℕ) → AllOf K (first_said K s)
first_of_lem K s = all_take K place_count (entries_of (said K s)) (said_of K s)

module _ {K : Kind} {s places : List ℕ} {count : ℕ} (size : length places ≡ place_count) (a : Accepted K s places count) where
  pub first_count : length (first_said K s) ≡ min count place_count
  first_count =
      let l : length (first_said K s) ≡ min place_count (length (entries_of (said K s))) = length-take place_count (entries_of (said K s)) in
      omega (arith, l, a.counted)

  pub entry_at : (i : ℕ) → i < min count place_count → EntryAt K s i (get_or places i 0)
  entry_at i l =
      let n = length (entries_of (said K s)) in
      let long : length (take n places) ≡ min n (length places) = length-take n places in
      let g = agreed (entry_in K s) (take n places) (first_said K s) a.noting i 0 (omega (arith, l, long, size, a.counted)) in
      let place : get_or (take n places) i 0 ≡ get_or places i 0 = get_or-take n places i 0 (omega (arith, l, a.counted)) in
      let there : entry_in K s (get_or places i 0) ≡ some g.that = ap (entry_in K s) (sym place) ∙ g.is in
      let one : suc i ≡ i + 1 = omega arith in
      record {
        entry = g.that;
        is = there;
        within = entry_within K s (get_or places i 0) g.that there;
        fits = (subst (AllOf K) g.next (all_drop K i (first_said K s) (first_of_lem K s))).0;
        next = g.next ∙ ap (λ (j : ℕ). g.that ∷ drop j (first_said K s)) one;
      }
