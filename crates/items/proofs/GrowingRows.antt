-- The walk over the rows for a prefix that grows out of another.
-- Assumes nothing.
use Prim.Native.Nat.{ℕ, ◌+◌, ◌≤◌, ◌<◌}
use mathlib.Core.Path.{◌≡◌, refl, ap, ap₂, sym, ◌∙◌}
use mathlib.Core.Bool.{Bool, true, false, ◌||◌}
use mathlib.Core.List.{List}
use native.Mathlib.Numerals.{add-one}
use native.Mathlib.Omega.{arith}
use lib.ListN.{length, get_or, take, drop, drop_of_length-le, length-take}
use lib.Seq.{drop-cons, length-take-le, get_or-take}
use Rattle.chars.specs.Folding.{fold}
use Rattle.chars.proofs.FoldedTexts.{derivable_folded, derivable_from_folded}
use Rattle.model.specs.Sets.{Bytes, any}
use Rattle.model.specs.Package.{grows}
use Rattle.store.specs.Layout.{count_of}
use Rattle.store.specs.Rows.{Row, no_row, row_at, rows_of, field_of}
use Rattle.store.specs.Packages.{Sound}
use Rattle.store.proofs.Headers.{rows_count, row_get_or}
use Rattle.items.specs.Clashes.{Grown, GrownFrom}

module _ (b : List ℕ) (n : ℕ) (p : Bytes) where
  abbrev G : Row → Bool
  G r = grows p r.f0

  pub grown_all : GrownFrom b n p 0
  grown_all = record { is = λ s. refl }

  module _ (i : ℕ) (h : GrownFrom b n p i) where
    module _ (l : i < n) (k : n ≤ count_of b) (f : Bytes) (ef : Sound b → i < count_of b → f ≡ field_of (row_at b i) 0) (w : Bytes) (ew : w ≡ fold p) (z : Bool) (ez : z ≡ grows w f) where
      grown_is : z ≡ grows p f
      grown_is = ez ∙ ap (λ (x : Bytes). grows x f) ew ∙ ap₂ ◌||◌ (derivable_folded p f) (derivable_from_folded f p)

      step : Sound b → any G (drop i (take n (rows_of b))) ≡ (z || any G (drop (i + 1) (take n (rows_of b))))
      unfolding any field_of
      step s =
          let c : i < count_of b = omega arith in
          let m : length (take n (rows_of b)) ≡ n = length-take-le n (rows_of b) (omega (arith, rows_count b)) in
          let q : get_or (take n (rows_of b)) i no_row ≡ row_at b i = get_or-take n (rows_of b) i no_row l ∙ row_get_or b i c in
          rw (add-one, drop-cons (take n (rows_of b)) i no_row (omega arith), q, grown_is, ef s c)

      pub grown_yes : z ≡ true → Grown b n p true
      grown_yes e = record { is = λ s. sym (h.is s ∙ step s ∙ rw e) }

      pub grown_next : z ≡ false → GrownFrom b n p (i + 1)
      grown_next e = record { is = λ s. h.is s ∙ step s ∙ rw e }

    pub grown_none : n ≤ i → Grown b n p false
    unfolding any
    grown_none l =
        let e : length (take n (rows_of b)) ≤ i = rw length-take (omega arith) in
        record { is = λ s. sym (h.is s ∙ ap (any G) (drop_of_length-le (take n (rows_of b)) e)) }
