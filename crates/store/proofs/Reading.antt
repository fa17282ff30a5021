-- What `tag`, `field_place`, `field` and `head` return is the row's.
-- Assumes nothing.
use mathlib.Core.Path.{◌≡◌, refl}
use Prim.Native.Nat.{ℕ, zero, suc, ◌+◌, ◌-◌, ◌^◌, ◌≤◌, ◌<◌}
use mathlib.Core.List.{List}
use native.Mathlib.Omega.{arith}
use lib.ListN.{length, take, drop, length-take, length-drop}
use Rattle.base.specs.Buffer.{part}
use Rattle.store.specs.Buffer.{num4}
use Rattle.store.specs.Layout.{heap_start, count_of, slot_of}
use Rattle.store.specs.Rows.{Row, row_of, row_at, tag_at, field_of}
use Rattle.store.specs.Packages.{Sound}
use Rattle.store.specs.Places.{Spanned, FieldAt, HeadOf}

pub read_tag : (b : List ℕ) (i x : ℕ) → x ≡ num4 (slot_of b i) 20 → x ≡ tag_at b i
unfolding row_of
read_tag b i x e = e

last_field : (r : Row) (j : ℕ) → 3 ≤ j → field_of r j ≡ r.f3
unfolding field_of
last_field r zero h = absurd (omega arith)
last_field r (suc zero) h = absurd (omega arith)
last_field r (suc (suc zero)) h = absurd (omega arith)
last_field r (suc (suc (suc j))) h = refl

-- a and n0 to n3 are the numbers of slot i as the code has read them, and x the bytes at the place that `span_at` returned
module _ (b : List ℕ) (i j : ℕ) (x : List ℕ) (so : Sound b) (h : i < count_of b) (a n0 : ℕ) (ea : a ≡ heap_start + num4 (slot_of b i) 0) (e0 : n0 ≡ num4 (slot_of b i) 4) where
  pub read_0 : j ≡ 0 → (a + n0 ≤ length b → x ≡ part a n0 b) → x ≡ field_of (row_at b i) j
  unfolding row_of field_of
  read_0 ej g = rw (ej, ← ea, ← e0) (g (omega (arith, so.inside i h)))

  module _ (n1 : ℕ) (e1 : n1 ≡ num4 (slot_of b i) 8) where
    pub read_1 : j ≡ 1 → (a + n0 + n1 ≤ length b → x ≡ part (a + n0) n1 b) → x ≡ field_of (row_at b i) j
    unfolding row_of field_of
    read_1 ej g = rw (ej, ← ea, ← e0, ← e1) (g (omega (arith, so.inside i h)))

    module _ (n2 : ℕ) (e2 : n2 ≡ num4 (slot_of b i) 12) where
      pub read_2 : j ≡ 2 → (a + n0 + n1 + n2 ≤ length b → x ≡ part (a + n0 + n1) n2 b) → x ≡ field_of (row_at b i) j
      unfolding row_of field_of
      read_2 ej g = rw (ej, ← ea, ← e0, ← e1, ← e2) (g (omega (arith, so.inside i h)))

      pub read_3 : (n3 : ℕ) → n3 ≡ num4 (slot_of b i) 16 → 3 ≤ j → (a + n0 + n1 + n2 + n3 ≤ length b → x ≡ part (a + n0 + n1 + n2) n3 b) → x ≡ field_of (row_at b i) j
      unfolding row_of
      read_3 n3 e3 ej g = rw (last_field (row_at b i) j ej, ← ea, ← e0, ← e1, ← e2, ← e3) (g (omega (arith, so.inside i h)))

pub field_here : (b : List ℕ) (i j at n a m : ℕ) → Spanned b at n a m → n < 2 ^ 32
    → (Sound b → i < count_of b → part a m b ≡ field_of (row_at b i) j) → FieldAt b i j a m
field_here b i j at n a m s l f = record { few = omega (arith, s.few); inside = s.inside; is = f }

-- the bytes at a field's place
pub field_at : (b : List ℕ) (i j a n : ℕ) → FieldAt b i j a n
    → (length (take (a + n - a) (drop a b)) < 2 ^ 32) × (length (take (a + n - a) (drop a b)) ≤ length b)
    × (Sound b → i < count_of b → take (a + n - a) (drop a b) ≡ field_of (row_at b i) j)
unfolding part
field_at b i j a n f =
    let e : a + n - a ≡ n = omega arith in
    rw e (simp (length-take, length-drop) (omega (arith, f.few)), simp (length-take, length-drop) (omega (arith, f.inside)), f.is)

-- A ROW'S HEAD, as its slot tells it
pub head_of : (b : List ℕ) (i t o n : ℕ) → i < count_of b → t ≡ num4 (slot_of b i) 20 → o ≡ num4 (slot_of b i) 0 → n ≡ num4 (slot_of b i) 4
    → o < 2 ^ 32 → n < 2 ^ 32 → HeadOf b i t (heap_start + o) n
head_of b i t o n h et eo en lo ln = record {
  tag = read_tag b i t et;
  low = omega arith;
  is = λ so. (omega (arith, so.inside i h), read_0 b i 0 (part (heap_start + o) n b) so h (heap_start + o) n (omega arith) en refl (λ _. refl));
}

-- the bytes of its first field
pub head_field : (b : List ℕ) (i t a n : ℕ) → HeadOf b i t a n → Sound b → take (a + n - a) (drop a b) ≡ field_of (row_at b i) 0
unfolding part
head_field b i t a n h so = let e : a + n - a ≡ n = omega arith in rw e (h.is so).1
