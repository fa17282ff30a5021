-- The places that are noted of an accepted stream, and the entries that are put in for them.
-- Assumes nothing.
use Prim.Native.Nat.{ℕ, min, ◌+◌, ◌≤◌, ◌<◌}
use native.Mathlib.Omega.{arith}
use mathlib.Core.Path.{◌≡◌, refl, sym, ap, ◌∙◌, subst}
use mathlib.Core.List.{List, [], ◌∷◌}
use mathlib.Core.Option.{Option}
use lib.ListN.{length, take, drop, get_or, length-take, drop_of_length-le}
use lib.Seq.{get_or-take}
use Rattle.std.specs.Prelude.{Ok}
use Rattle.markup.specs.Entries.{Entry}
use Rattle.markup.specs.PiecePlaces.{entry_in}
use Rattle.markup.specs.FormPlaces.{place_count, FormAt}
use Rattle.markup.specs.declared.entries.Kind.{Kind}
use Rattle.markup.proofs.PlacedEntries.{form_accepted, first_said, first_of_lem, first_count, entry_at}
use Rattle.model.specs.Reading.{Entered}
use Rattle.model.proofs.EntryCounts.{Saying, say_length, say_drop}
use Rattle.reading.specs.Entering.{one_of, Placed}

-- the i-th of the first entries of a stream s is that of the tag at this place
pub record EnteredAt (K : Kind) (say : List Entry → List Entered) (s : List ℕ) (i at : ℕ) : Type 0 where
  pub entered : Entered
  pub is : say (one_of (entry_in K s at)) ≡ entered ∷ []
  pub within : at ≤ length s
  pub next : drop i (say (first_said K s)) ≡ entered ∷ drop (i + 1) (say (first_said K s))

module _ {K : Kind} {say : List Entry → List Entered} (Y : Saying K say) {s places : List ℕ} (p : Placed K s places) (i : ℕ) where
  size_placed : length places ≡ min p.count place_count
  size_placed =
      let l : length (take (min p.count place_count) p.array) ≡ min (min p.count place_count) (length p.array) = length-take (min p.count place_count) p.array in
      omega (arith, ap length p.is, l, p.size)

  pub entered_at : i < length places → EnteredAt K say s i (get_or places i 0)
  entered_at l =
      let few : i < min p.count place_count = omega (arith, l, size_placed) in
      let e = entry_at p.size p.accepted i few in
      let one = Y.one e.entry e.fits in
      subst (EnteredAt K say s i) (sym (ap (λ (l : List ℕ). get_or l i 0) p.is ∙ get_or-take (min p.count place_count) p.array i 0 few))
      (record {
        entered = one.entered;
        is = ap (λ (o : Option Entry). say (one_of o)) e.is ∙ one.is [] ∙ ap (λ (l : List Entered). one.entered ∷ l) Y.nothing;
        within = e.within;
        next =
            say_drop Y i (first_said K s) (first_of_lem K s) ∙ ap say e.next ∙ one.is (drop (i + 1) (first_said K s))
            ∙ ap (λ (l : List Entered). one.entered ∷ l) (sym (say_drop Y (i + 1) (first_said K s) (first_of_lem K s)));
      })

  pub entered_all : length places ≤ i → drop i (say (first_said K s)) ≡ []
  entered_all l =
      let long : length (say (first_said K s)) ≡ min p.count place_count =
      say_length Y (first_said K s) (first_of_lem K s) ∙ first_count p.size p.accepted in
      drop_of_length-le (say (first_said K s)) {i = i} (omega (arith, l, size_placed, long))

-- the places of an accepted form
pub form_placed : {K : Kind} {s array : List ℕ} {count n : ℕ} → FormAt K s array (Ok count) → n ≡ min count place_count → Placed K s (take n array)
form_placed {K} {s} {array} {count} {n} f e = record {
  count = count;
  array = array;
  size = f.size;
  accepted = form_accepted f refl;
  is = ap (λ (k : ℕ). take k array) e;
}
