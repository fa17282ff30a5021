-- A line that is put together from stretches.
-- Assumes nothing.
use Prim.Native.Nat.{ℕ, ◌+◌, ◌-◌, ◌≤◌, min}
use mathlib.Core.Path.{◌≡◌, refl, sym, ap, ◌∙◌, subst}
use mathlib.Core.Bool.{Bool, true, false}
use mathlib.Core.List.{List, [], ◌++◌, append-nil}
use native.Mathlib.Omega.{arith}
use lib.Dec.{leb}
use lib.ListN.{length, take, drop, length-append, length-take, length-drop, take-append-drop}
use lib.Seq.{take_all, take-length, take-take, take-append-add, length-take-le}
use borrow.Author.Tests.{leb-true, leb-false}
use Rattle.chars.specs.Lists.{index_of}
use Rattle.chars.proofs.Searches.{index_le}
use Rattle.base.specs.Buffer.{splice}
use Rattle.model.specs.Sets.{Bytes}
use Rattle.model.specs.Texts.{line_feed}
use Rattle.lines.specs.Gathering.{stretch, together, Gathers}

take_min : (k i : ℕ) (d : List ℕ) → take k (take i d) ≡ take (min i k) d
take_min k i d = go (leb k i) refl
  where
    go : (t : Bool) → leb k i ≡ t → take k (take i d) ≡ take (min i k) d
    go true e = let l = leb-true k i e in take-take k i d l ∙ ap (λ (m : ℕ). take m d) (let z : k ≡ min i k = omega arith in z)
    go false e =
        let l = leb-false k i e in
        take_all k (take i d) (omega (arith, length-take i d)) ∙ ap (λ (m : ℕ). take m d) (let z : i ≡ min i k = omega arith in z)

pub take_had : (n : ℕ) (l : List ℕ) → take n l ≡ take (min n (length l)) l
take_had n l = ap (take n) (sym (take-length l)) ∙ take_min n (length l) l ∙ ap (λ (m : ℕ). take m l) (let z : min (length l) n ≡ min n (length l) = omega arith in z)

-- `had` bytes were there; the piece has bytes up to `at`, and `more` of them fit
module _ (line piece : Bytes) (n from at had more : ℕ) (at_is : at ≡ from + index_of line_feed (drop from piece)) (had_is : had ≡ min n (length line))
    (more_is : more ≡ min (at - from) (length line - had)) where
  index : at - from ≡ index_of line_feed (drop from piece)
  index = omega arith

  had_text : take n line ≡ take had line
  had_text = take_had n line ∙ ap (λ (m : ℕ). take m line) (sym had_is)

  had_length : length (take had line) ≡ had
  had_length = length-take-le had line (omega arith)

  more_length : length (take more (drop from piece)) ≡ more
  more_length = length-take-le more (drop from piece) (omega (arith, index, index_le line_feed (drop from piece)))

  together_is : together line n piece from ≡ take had line ++ take more (drop from piece)
  together_is =
      let k : length line ≡ length (take had line) + (length line - had) = omega (arith, had_length) in
      let m : min (index_of line_feed (drop from piece)) (length line - had) ≡ more = omega (arith, index) in
      ap (λ (p : Bytes). take (length line) (p ++ stretch piece from)) had_text
      ∙ ap (λ (j : ℕ). take j (take had line ++ stretch piece from)) k
      ∙ take-append-add (take had line) (stretch piece from) (length line - had)
      ∙ ap (λ (s : Bytes). take had line ++ s) (take_min (length line - had) (index_of line_feed (drop from piece)) (drop from piece) ∙ ap (λ (j : ℕ). take j (drop from piece)) m)

  together_length : length (together line n piece from) ≡ had + more
  together_length = ap length together_is ∙ length-append (take had line) (take more (drop from piece)) ∙ omega (arith, had_length, more_length)

  gathers : (line' : Bytes) → line' ≡ (take had line ++ take more (drop from piece)) ++ drop (had + more) line → Gathers line n piece from (had + more) at line'
  gathers line' e = record {
    size_is = sym together_length;
    at_is = at_is;
    line_is = e ∙ rw (together_length, together_is);
  }

  pub gathers_fit : (more ≡ 0 → ⊥) → from + more ≤ length piece
  gathers_fit h = omega (arith, index, index_le line_feed (drop from piece), length-drop from piece)

  pub gathers_copied : (line' : Bytes) → line' ≡ splice line had (take (from + more - from) (drop from piece)) → Gathers line n piece from (had + more) at line'
  unfolding splice
  gathers_copied line' e =
      let z : from + more - from ≡ more = omega arith in
      gathers line' (e ∙ rw (z, more_length))

  pub gathers_none : more ≡ 0 → Gathers line n piece from had at line
  gathers_none h =
      let z : had + more ≡ had = omega arith in
      let t : take more (drop from piece) ≡ [] = ap (λ (k : ℕ). take k (drop from piece)) h in
      subst (λ (k : ℕ). Gathers line n piece from k at line) z (gathers line (sym (take-append-drop had line) ∙ rw (z, t, append-nil (take had line))))
