-- Bytes turned: the first of them go behind the others.
-- Assumes nothing.
use mathlib.Core.Path.{◌≡◌, refl, sym, ap, ap₂, ◌∙◌}
use Prim.Native.Nat.{ℕ, ◌+◌, ◌-◌, ◌≤◌}
use mathlib.Core.List.{List, ◌++◌, append_assoc, append-nil}
use native.Mathlib.Omega.{arith}
use lib.ListN.{length, take, drop, length-append}
use borrow.Rule.Slice.PartMut.{put_mid}
use Rattle.base.specs.Buffer.{part, splice}
use Rattle.base.proofs.Parts.{length_part, splice_part, part_add, take_part, drop_part}
use Rattle.base.proofs.Writes.{Write, write, before, within, join, over, part_part, part_all}
use Rattle.base.proofs.Blocks.{slice_part, mid_splice, through_block}

-- the first k of n bytes behind the others
abbrev pub turned : ℕ → ℕ → ℕ → List ℕ → List ℕ
turned a n k l = part (a + k) (n - k) l ++ part a k l

pub length_turned : (l : List ℕ) (a n : ℕ) → a + n ≤ length l → (k : ℕ) → k ≤ n → length (turned a n k l) ≡ n
length_turned l a n h k q =
    length-append (part (a + k) (n - k) l) (part a k l)
    ∙ ap₂ ◌+◌ (length_part (a + k) (n - k) l (omega arith)) (length_part a k l (omega arith)) ∙ omega arith

module _ (l : List ℕ) (a n : ℕ) (h : a + n ≤ length l) where
  -- none of them
  pub turn_none : l ≡ splice l a (turned a n 0 l)
  unfolding part
  turn_none =
      let e : a ≡ a + 0 = omega arith in
      let f : n ≡ n - 0 = omega arith in
      sym (splice_part a n l h) ∙ ap (splice l a) (ap₂ (λ (x y : ℕ). part x y l) e f ∙ sym (append-nil (part (a + 0) (n - 0) l)))

  -- through a block of the function's own
  pub turn_block : (m o b c : List ℕ) (k : ℕ) → k ≤ n → k ≤ length b → c ≡ splice b 0 (take (a + k - a) (drop a l)) →
      m ≡ splice l a (part (a + k) (n - k) l) → o ≡ splice m (a + (n - k)) (take k c) → o ≡ splice l a (turned a n k l)
  turn_block m o b c k q z x y w =
      let s : length (part a k l) ≡ k = length_part a k l (omega arith) in
      let t : length (part (a + k) (n - k) l) ≡ n - k = length_part (a + k) (n - k) l (omega arith) in
      let p = write l m a (n - k) (part (a + k) (n - k) l) y t (omega arith) in
      let v : o ≡ splice m (a + (n - k)) (part a k l) =
      through_block m o b c (part a k l) (a + (n - k)) k (x ∙ ap (splice b 0) (slice_part a (a + k) k l (omega arith))) w s z in
      (join (a + (n - k)) k p (write m o (a + (n - k)) k (part a k l) v s (omega (arith, p.len))) (omega arith)).is

  -- the slice of them turned left by k
  pub turn_left : (m : List ℕ) (k : ℕ) → k ≤ n → m ≡ drop k (take (a + n - a) (drop a l)) ++ take k (take (a + n - a) (drop a l)) →
      put_mid a (a + n - a) l m ≡ splice l a (turned a n k l)
  turn_left m k q e =
      let f : a + n - a ≡ k + (n - k) = omega arith in
      let g : take (a + n - a) (drop a l) ≡ part a (k + (n - k)) l = slice_part a (a + n) (k + (n - k)) l f in
      mid_splice a (a + n - a) l m (turned a n k l)
      (e ∙ ap (λ (x : List ℕ). drop k x ++ take k x) g ∙ ap₂ ◌++◌ (drop_part a k (n - k) l (omega arith)) (take_part a k (n - k) l (omega arith)))
      (omega (arith, length_turned l a n h k q))

  -- m is l with its first i bytes turned: its parts
  module _ (m : List ℕ) (i : ℕ) (q : i ≤ n) (e : m ≡ splice l a (turned a n i l)) where
    ahead : List ℕ
    ahead = part (a + i) (n - i) l

    ahead_size : length ahead ≡ n - i
    unfolding ahead
    ahead_size = length_part (a + i) (n - i) l (omega arith)

    first_write : Write l (splice l a ahead) a (n - i) ahead
    first_write = write l (splice l a ahead) a (n - i) ahead refl ahead_size (omega arith)

    second_write : Write (splice l a ahead) m (a + (n - i)) i (part a i l)
    unfolding ahead
    second_write =
        let o : List ℕ = splice (splice l a ahead) (a + (n - i)) (part a i l) in
        let z = length_part a i l (omega arith) in
        let w = write (splice l a ahead) o (a + (n - i)) i (part a i l) refl z (omega (arith, first_write.len)) in
        write (splice l a ahead) m (a + (n - i)) i (part a i l) (e ∙ sym (join (a + (n - i)) i first_write w (omega arith)).is) z (omega (arith, first_write.len))

    -- what lay behind them lies i lower, and they lie last
    pub turn_ahead : (x k : ℕ) → a + i ≤ x → x + k ≤ a + n → part (x - i) k m ≡ part x k l
    unfolding ahead
    turn_ahead x k lo hi =
        let f : a + i + (x - i - a) ≡ x = omega arith in
        before second_write (x - i) k (omega arith) ∙ within first_write (x - i) (x - i - a) k (omega arith) (omega arith)
        ∙ part_part (a + i) (n - i) (x - i - a) k l (omega arith) (omega arith) ∙ ap (λ (y : ℕ). part y k l) f

    pub turn_last : part (a + (n - i)) i m ≡ part a i l
    turn_last =
        within second_write (a + (n - i)) 0 i (omega arith) (omega arith) ∙ part_all i (part a i l) (length_part a i l (omega arith))

  -- i of them are turned, and s more follow
  turn_next : (m o : List ℕ) (i s : ℕ) → i + s ≤ n → m ≡ splice l a (turned a n i l) → o ≡ splice m a (turned a n s m) → o ≡ splice l a (turned a n (i + s) l)
  turn_next m o i s q e f =
      let r : ℕ = n - (i + s) in
      let w : List ℕ = part (a + (i + s)) r l in
      let e1 : n - s ≡ r + i = omega arith in
      let e2 : a + (i + s) - i ≡ a + s = omega arith in
      let e3 : a + s + r ≡ a + (n - i) = omega arith in
      let e4 : a + i - i ≡ a = omega arith in
      let x1 : part (a + s) r m ≡ w = ap (λ (y : ℕ). part y r m) (sym e2) ∙ turn_ahead m i (omega arith) e (a + (i + s)) r (omega arith) (omega arith) in
      let x2 : part (a + s + r) i m ≡ part a i l = ap (λ (y : ℕ). part y i m) e3 ∙ turn_last m i (omega arith) e in
      let x3 : part a s m ≡ part (a + i) s l = ap (λ (y : ℕ). part y s m) (sym e4) ∙ turn_ahead m i (omega arith) e (a + i) s (omega arith) (omega arith) in
      let x4 : turned a n s m ≡ turned a n (i + s) l =
      ap (λ (y : ℕ). part (a + s) y m ++ part a s m) e1 ∙ ap (λ (y : List ℕ). y ++ part a s m) (part_add (a + s) r i m ∙ ap₂ ◌++◌ x1 x2)
      ∙ append_assoc w (part a i l) (part a s m) ∙ ap (λ (y : List ℕ). w ++ (part a i l ++ y)) x3 ∙ ap (λ (y : List ℕ). w ++ y) (sym (part_add a i s l)) in
      let p = write l m a n (turned a n i l) e (length_turned l a n h i (omega arith)) h in
      let z = write m o a n (turned a n s m) f (length_turned m a n (omega (arith, p.len)) s (omega arith)) (omega (arith, p.len)) in
      (over p z).is ∙ ap (splice l a) x4

  pub turn_more : (m o : List ℕ) (i s x y : ℕ) → i + s ≤ n → x ≡ i → y ≡ i + s → m ≡ splice l a (turned a n x l) → o ≡ splice m a (turned a n s m) → o ≡ splice l a (turned a n y l)
  turn_more m o i s x y q xi yi e f =
      turn_next m o i s q (e ∙ ap (λ (z : ℕ). splice l a (turned a n z l)) xi) f ∙ ap (λ (z : ℕ). splice l a (turned a n z l)) (sym yi)
