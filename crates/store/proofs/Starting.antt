-- The empty package.
-- Assumes nothing.
use mathlib.Core.Path.{◌≡◌, refl, sym, ap, ◌∙◌}
use Prim.Native.Nat.{ℕ, ◌+◌, ◌≤◌}
use mathlib.Core.List.{List, [], ◌∷◌, ◌++◌}
use native.Mathlib.Omega.{arith}
use lib.ListN.{length, get_or}
use Rattle.base.specs.Buffer.{part, splice}
use Rattle.store.specs.Buffer.{le4}
use Rattle.store.specs.Layout.{heap_start, max_capacity, mark, format_of, package_format, cap_of, count_of, used_of, end_of}
use Rattle.store.specs.Rows.{row_at, rows_of, tabulate, total}
use Rattle.store.specs.Packages.{Sound}
use Rattle.store.proofs.Numbers.{num4_le4, num_within, num_before}
use Rattle.base.proofs.Parts.{get_or_part}
use Rattle.base.proofs.Writes.{write, before, within, part_part}
use Rattle.store.proofs.Joined.{le4_write}
use Rattle.store.proofs.Headers.{counts_0, counts_4, counts_8, counts_size}

-- the mark and the format, as the code writes them
abbrev pub kind : List ℕ
kind = 79 ∷ 80 ∷ 67 ∷ 80 ∷ 65 ∷ 67 ∷ 75 ∷ 1 ∷ []

pub empty_is : (b b1 b2 b3 : List ℕ) (cap : ℕ) → cap + heap_start ≤ length b → cap ≤ max_capacity
    → b1 ≡ splice b 0 kind → b2 ≡ splice b1 8 (le4 cap) → b3 ≡ splice b2 12 (le4 0 ++ (le4 0 ++ le4 0))
    → Sound b3 × (rows_of b3 ≡ []) × (cap_of b3 ≡ cap) × (format_of b3 ≡ package_format)
unfolding mark tabulate total part
empty_is b b1 b2 b3 cap h q e1 e2 e3 =
    let p1 = write b b1 0 8 kind e1 refl (omega arith) in
    let p2 = le4_write b1 b2 8 cap e2 (omega arith) in
    let p3 = write b2 b3 12 12 (le4 0 ++ (le4 0 ++ le4 0)) e3 (counts_size 0 0 0) (omega arith) in
    let k8 : part 0 8 b3 ≡ kind = before p3 0 8 (omega arith) ∙ before p2 0 8 (omega arith) ∙ within p1 0 0 8 (omega arith) (omega arith) in
    let c : count_of b3 ≡ 0 = num_within p3 12 0 (omega arith) (omega arith) ∙ counts_0 0 0 0 (omega arith) in
    let u : used_of b3 ≡ 0 = num_within p3 16 4 (omega arith) (omega arith) ∙ counts_4 0 0 0 (omega arith) in
    let v : end_of b3 ≡ 0 = num_within p3 20 8 (omega arith) (omega arith) ∙ counts_8 0 0 0 (omega arith) in
    let k : cap_of b3 ≡ cap = num_before p3 8 (omega arith) ∙ num_within p2 8 0 (omega arith) (omega arith) ∙ num4_le4 cap (omega arith) in
    let f : format_of b3 ≡ package_format = sym (get_or_part 0 8 b3 7 (omega arith)) ∙ ap (λ (x : List ℕ). get_or x 7 0) k8 in
    let r : rows_of b3 ≡ [] = ap (λ (x : ℕ). tabulate x (row_at b3)) c in (
      record {
        marked = sym (part_part 0 8 0 7 b3 (omega arith) (omega arith)) ∙ ap (part 0 7) k8;
        shape = record { few = omega arith; room = omega arith; small = omega arith; used = omega arith; gaps = omega arith; within = omega arith };
        filled = λ i z. absurd (omega arith);
        inside = λ i z. absurd (omega arith);
        apart = λ i j y z. absurd (omega arith);
        exact = ap total r ∙ sym u;
      },
      r,
      k,
      f,
    )
