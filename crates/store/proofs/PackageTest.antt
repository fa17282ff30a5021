-- The written test of a package: what the code reads, what passing it gives, what passes it and what never does.
-- Assumes nothing.
use Prim.Native.Nat.{ℕ, ◌+◌, ◌≤◌, ◌<◌}
use mathlib.Core.Path.{◌≡◌, ap, sym, ◌∙◌}
use mathlib.Core.Bool.{true, false, ◌&&◌}
use mathlib.Core.List.{List}
use native.Mathlib.Omega.{arith}
use native.Mathlib.Nat.{zero-add}
use lib.Dec.{leb, eqb}
use lib.ListN.{length, get_or}
use borrow.Author.Tests.{leb-true, le-leb, lt-leb, eq-eqb, eqb-true}
use Rattle.base.specs.Buffer.{part}
use Rattle.store.specs.Buffer.{num4}
use Rattle.store.specs.Layout.{heap_start, slot_count, max_capacity, mark, format_of, package_format, cap_of, count_of, used_of, end_of}
use Rattle.store.specs.Packages.{Sound, Shape, is_marked, is_package}
use Rattle.store.proofs.Numbers.{num4_part}
use Rattle.base.proofs.Bools.{and_both, not_passing}

-- x0, x3, x8, x12, x16, x20 are the numbers as the code has read them, f the format
pub package_read :
    (b : List ℕ) (x0 x3 f x8 x12 x16 x20 : ℕ) → heap_start ≤ length b → x0 ≡ num4 b 0 → x3 ≡ num4 b 3 → f ≡ format_of b → x8 ≡ cap_of b → x12 ≡ count_of b → x16 ≡ used_of b → x20 ≡ end_of b →
    (eqb x0 0x5043504F && eqb x3 0x4B434150 && eqb f package_format && leb x12 slot_count && leb (x8 + heap_start) (length b)
    && leb x8 max_capacity && leb x16 x8 && leb x16 x20 && leb (x20 + heap_start) (length b)) ≡ is_package b
unfolding is_package is_marked mark num4
package_read b x0 x3 f x8 x12 x16 x20 h e0 e3 ef e8 e12 e16 e20 = rw (le-leb heap_start (length b) h, e0, e3, ef, e8, e12, e16, e20)

pub package_short : (b : List ℕ) → length b < heap_start → false ≡ is_package b
unfolding is_package
package_short b h = rw (lt-leb heap_start (length b) h)

-- what passing the test tells
pub record Passed (b : List ℕ) : Type 0 where
  pub marked : is_marked b ≡ true
  pub format : format_of b ≡ package_format
  pub shape : Shape b

pub package_passed : (b : List ℕ) → is_package b ≡ true → Passed b
unfolding is_package
package_passed b e =
    let m = is_marked b in
    let f = eqb (format_of b) package_format in
    let n = leb (count_of b) slot_count in
    let r = leb (cap_of b + heap_start) (length b) in
    let c = leb (cap_of b) max_capacity in
    let u = leb (used_of b) (cap_of b) in
    let g = leb (used_of b) (end_of b) in
    let w = leb (end_of b + heap_start) (length b) in
    let t0 = (and_both (leb heap_start (length b)) (m && f && n && r && c && u && g && w) e).1 in
    let tw = and_both (m && f && n && r && c && u && g) w t0 in
    let tg = and_both (m && f && n && r && c && u) g tw.0 in
    let tu = and_both (m && f && n && r && c) u tg.0 in
    let tc = and_both (m && f && n && r) c tu.0 in
    let tr = and_both (m && f && n) r tc.0 in
    let tn = and_both (m && f) n tr.0 in
    let tf = and_both m f tn.0 in
    record {
      marked = tf.0;
      format = eqb-true (format_of b) package_format tf.1;
      shape = record {
        few = leb-true (count_of b) slot_count tn.1;
        room = leb-true (cap_of b + heap_start) (length b) tr.1;
        small = leb-true (cap_of b) max_capacity tc.1;
        used = leb-true (used_of b) (cap_of b) tu.1;
        gaps = leb-true (used_of b) (end_of b) tg.1;
        within = leb-true (end_of b + heap_start) (length b) tw.1;
      };
    }

pub package_shape : (b : List ℕ) → is_package b ≡ true → Shape b
package_shape b e = (package_passed b e).shape

-- the mark's two numbers are read back
mark_number : (b : List ℕ) → part 0 7 b ≡ mark → (k : ℕ) → k + 4 ≤ 7 → num4 b k ≡ num4 mark k
mark_number b e k h = rw zero-add at (sym (num4_part 0 7 b k h)) ∙ ap (λ (s : List ℕ). num4 s k) e

pub sound_package : (b : List ℕ) → Sound b → format_of b ≡ package_format → is_package b ≡ true
unfolding is_package is_marked
sound_package b so ef =
    let s = so.shape in
    rw (
      le-leb heap_start (length b) (omega (arith, s.room)),
      eq-eqb (num4 b 0) (num4 mark 0) (mark_number b so.marked 0 (omega arith)),
      eq-eqb (num4 b 3) (num4 mark 3) (mark_number b so.marked 3 (omega arith)),
      eq-eqb (format_of b) package_format ef,
      le-leb (count_of b) slot_count s.few,
      le-leb (cap_of b + heap_start) (length b) s.room,
      le-leb (cap_of b) max_capacity s.small,
      le-leb (used_of b) (cap_of b) s.used,
      le-leb (used_of b) (end_of b) s.gaps,
      le-leb (end_of b + heap_start) (length b) s.within,
    )

-- a buffer of zeros only never passes
pub package_zeros : (b : List ℕ) → ((i : ℕ) → get_or b i 0 ≡ 0) → is_package b ≡ false
unfolding is_marked mark num4
package_zeros b z = not_passing (is_package b) (λ e.
    let m = (and_both (eqb (num4 b 0) (num4 mark 0)) (eqb (num4 b 3) (num4 mark 3)) (package_passed b e).marked).0 in
    let n = eqb-true (num4 b 0) (num4 mark 0) m in
    omega (arith, n, z 0, z 1, z 2, z 3))
