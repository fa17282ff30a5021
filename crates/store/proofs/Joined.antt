-- Writes side by side come to one: a slot, the counts, the fields of a row.
-- Assumes nothing.
use mathlib.Core.Path.{◌≡◌, refl, ap, ◌∙◌}
use Prim.Native.Nat.{ℕ, ◌+◌, ◌≤◌}
use mathlib.Core.List.{List, ◌++◌, append_assoc}
use native.Mathlib.Omega.{arith}
use lib.ListN.{length}
use Rattle.base.specs.Buffer.{splice}
use Rattle.store.specs.Buffer.{le4}
use Rattle.base.proofs.Writes.{Write, write, join, all_write}
use Rattle.store.specs.Layout.{slot_bytes}

pub le4_write : (l m : List ℕ) (a v : ℕ) → m ≡ splice l a (le4 v) → a + 4 ≤ length l → Write l m a 4 (le4 v)
unfolding le4
le4_write l m a v e h = write l m a 4 (le4 v) e refl h

pub put_slot_is : (l m1 m2 m3 m4 m5 m6 : List ℕ) (at o a b c d t : ℕ) → at + 24 ≤ length l
    → m1 ≡ splice l at (le4 o) → m2 ≡ splice m1 (at + 4) (le4 a) → m3 ≡ splice m2 (at + 8) (le4 b) → m4 ≡ splice m3 (at + 12) (le4 c)
    → m5 ≡ splice m4 (at + 16) (le4 d) → m6 ≡ splice m5 (at + 20) (le4 t) → m6 ≡ splice l at (slot_bytes o a b c d t)
unfolding slot_bytes le4
put_slot_is l m1 m2 m3 m4 m5 m6 at o a b c d t h e1 e2 e3 e4 e5 e6 =
    let q1 = le4_write l m1 at o e1 (omega arith) in
    let q2 = le4_write m1 m2 (at + 4) a e2 (omega arith) in
    let q3 = le4_write m2 m3 (at + 8) b e3 (omega arith) in
    let q4 = le4_write m3 m4 (at + 12) c e4 (omega arith) in
    let q5 = le4_write m4 m5 (at + 16) d e5 (omega arith) in
    let q6 = le4_write m5 m6 (at + 20) t e6 (omega arith) in
    (join (at + 20) 4 (join (at + 16) 4 (join (at + 12) 4 (join (at + 8) 4 (join (at + 4) 4 q1 q2 refl) q3 refl) q4 refl) q5 refl) q6 refl).is

pub put_counts_is : (l m1 m2 m3 : List ℕ) (n u e : ℕ) → 24 ≤ length l → m1 ≡ splice l 12 (le4 n) → m2 ≡ splice m1 16 (le4 u) → m3 ≡ splice m2 20 (le4 e)
    → m3 ≡ splice l 12 (le4 n ++ (le4 u ++ le4 e))
unfolding le4
put_counts_is l m1 m2 m3 n u e h e1 e2 e3 =
    let q1 = le4_write l m1 12 n e1 (omega arith) in
    let q2 = le4_write m1 m2 16 u e2 (omega arith) in
    let q3 = le4_write m2 m3 20 e e3 (omega arith) in
    (join 20 4 (join 16 4 q1 q2 refl) q3 refl).is

pub put_fields_is : (l m1 m2 m3 m4 : List ℕ) (at : ℕ) (f0 f1 f2 f3 : List ℕ)
    → at + (length f0 + (length f1 + (length f2 + length f3))) ≤ length l
    → m1 ≡ splice l at f0 → m2 ≡ splice m1 (at + length f0) f1 → m3 ≡ splice m2 (at + length f0 + length f1) f2
    → m4 ≡ splice m3 (at + length f0 + length f1 + length f2) f3 → m4 ≡ splice l at (f0 ++ (f1 ++ (f2 ++ f3)))
put_fields_is l m1 m2 m3 m4 at f0 f1 f2 f3 h e1 e2 e3 e4 =
    let q1 = all_write l m1 at f0 e1 (omega arith) in
    let q2 = all_write m1 m2 (at + length f0) f1 e2 (omega arith) in
    let q3 = all_write m2 m3 (at + length f0 + length f1) f2 e3 (omega arith) in
    let q4 = all_write m3 m4 (at + length f0 + length f1 + length f2) f3 e4 (omega arith) in
    let j = join (at + length f0 + length f1 + length f2) (length f3) (join (at + length f0 + length f1) (length f2) (join (at + length f0) (length f1) q1 q2 refl) q3 (omega arith)) q4 (omega arith) in
    j.is ∙ ap (splice l at) (simp append_assoc)
