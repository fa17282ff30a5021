-- What went into a block comes out of it, and moves block by block come to one splice.
-- Assumes nothing.
use mathlib.Core.Path.{◌≡◌, refl, sym, ap, ◌∙◌}
use Prim.Native.Nat.{ℕ, ◌+◌, ◌-◌, ◌≤◌}
use mathlib.Core.List.{List, ◌++◌}
use native.Mathlib.Omega.{arith}
use lib.ListN.{length, take, drop, length-drop, take-append-drop}
use lib.Seq.{length-take-le, take-length, take-add, drop-drop}
use borrow.Rule.Slice.PartMut.{put_mid}
use Rattle.std.proofs.lemmas.Slice.{put_mid-paste}
use Rattle.base.specs.Buffer.{part, splice}
use Rattle.base.proofs.Parts.{length_part}
use Rattle.base.proofs.Writes.{write, before, after, within, join, join_before, part_part, part_all}

-- a slice from a to e, as a part
pub slice_part : (a e n : ℕ) (l : List ℕ) → e - a ≡ n → take (e - a) (drop a l) ≡ part a n l
unfolding part
slice_part a e n l q = ap (λ (k : ℕ). take k (drop a l)) q

-- a write to the slice from a on
pub mid_splice : (a k : ℕ) (l s t : List ℕ) → s ≡ t → k ≡ length t → put_mid a k l s ≡ splice l a t
unfolding splice
mid_splice a k l s t e h =
    put_mid-paste a k l s t (length t) e (sym h) refl ∙ ap (λ (x : List ℕ). take a l ++ x ++ drop (a + length t) l) (take-length t)

-- s went into block b, and from there into l
pub through_block : (l m b c s : List ℕ) (a n : ℕ) → c ≡ splice b 0 s → m ≡ splice l a (take n c) → length s ≡ n → n ≤ length b → m ≡ splice l a s
unfolding part
through_block l m b c s a n e f z h =
    f ∙ ap (splice l a) (within (write b c 0 n s e z (omega arith)) 0 0 n (omega arith) (omega arith) ∙ part_all n s z)

-- the first i bytes of s are there, and the next k follow
pub copy_more : (l m o : List ℕ) (a : ℕ) (s : List ℕ) (i k : ℕ) → a + length s ≤ length l → i + k ≤ length s
    → m ≡ splice l a (take i s) → o ≡ splice m (a + i) (part i k s) → o ≡ splice l a (take (i + k) s)
unfolding part
copy_more l m o a s i k h q e f =
    let p = write l m a i (take i s) e (length-take-le i s (omega arith)) (omega arith) in
    (join (a + i) k p (write m o (a + i) k (part i k s) f (length_part i k s q) (omega arith)) (omega arith)).is
    ∙ ap (splice l a) (sym (take-add i k s))

-- the bytes of s from i on are there, and the k before them follow
pub copy_more_before : (l m o : List ℕ) (a : ℕ) (s : List ℕ) (i j k : ℕ) → a + length s ≤ length l → i ≤ length s → i ≡ j + k
    → m ≡ splice l (a + i) (drop i s) → o ≡ splice m (a + j) (part j k s) → o ≡ splice l (a + j) (drop j s)
unfolding part
copy_more_before l m o a s i j k h q ij e f =
    let ld : length (drop i s) ≡ length s - i = length-drop i s in
    let p = write l m (a + i) (length s - i) (drop i s) e ld (omega arith) in
    let g : drop i s ≡ drop k (drop j s) = ap (λ (x : ℕ). drop x s) ij ∙ sym (drop-drop k j s) in
    (join_before (a + j) k p (write m o (a + j) k (part j k s) f (length_part j k s (omega arith)) (omega arith)) (omega arith)).is
    ∙ ap (λ (x : List ℕ). splice l (a + j) (part j k s ++ x)) g ∙ ap (splice l (a + j)) (take-append-drop k (drop j s))

-- the block that is read next, the k bytes from i on, is still as it was
module _ (l m o : List ℕ) (from to n i k x y : ℕ) (q : from + n ≤ length l) (r : to + n ≤ length l) (b : i + k ≤ n) where
  pub move_more : to ≤ from → x ≡ i → y ≡ i + k
      → m ≡ splice l to (take x (part from n l)) → o ≡ splice m (to + i) (part (from + i) k m) → o ≡ splice l to (take y (part from n l))
  move_more h xi yi e f =
      let s : List ℕ = part from n l in
      let ls : length s ≡ n = length_part from n l q in
      let e2 : m ≡ splice l to (take i s) = e ∙ ap (λ (z : ℕ). splice l to (take z s)) xi in
      let p = write l m to i (take i s) e2 (length-take-le i s (omega arith)) (omega arith) in
      copy_more l m o to s i k (omega arith) (omega arith) e2
      (f ∙ ap (splice m (to + i)) (after p (from + i) k (omega arith) (omega arith) ∙ sym (part_part from n i k l b q)))
      ∙ ap (λ (z : ℕ). splice l to (take z s)) (sym yi)

  pub move_more_before : from ≤ to → x ≡ i + k → y ≡ i
      → m ≡ splice l (to + x) (drop x (part from n l)) → o ≡ splice m (to + i) (part (from + i) k m) → o ≡ splice l (to + y) (drop y (part from n l))
  move_more_before h xi yi e f =
      let s : List ℕ = part from n l in
      let ls : length s ≡ n = length_part from n l q in
      let ld : length (drop x s) ≡ length s - x = length-drop x s in
      let p = write l m (to + x) (length s - x) (drop x s) e ld (omega arith) in
      copy_more_before l m o to s x i k (omega arith) (omega arith) xi e
      (f ∙ ap (splice m (to + i)) (before p (from + i) k (omega arith) ∙ sym (part_part from n i k l b q)))
      ∙ ap (λ (z : ℕ). splice l (to + z) (drop z s)) (sym yi)
