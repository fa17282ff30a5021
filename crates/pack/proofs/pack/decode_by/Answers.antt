use Prim.Native.Nat.{ℕ, ◌<◌, ◌+◌}
use mathlib.Core.Path.{◌≡◌, ◌∙◌, sym, refl}
use mathlib.Core.List.{◌++◌, map}
use native.Mathlib.Omega.{arith}
use lib.ListN.{length, length-set, take, drop, set}
use Rattle.pack.specs.Pack.{package_of, decoded, slashed, low_triplet}
use Rattle.pack.proofs.Decoding.{Replaced, replaced_low, replaced_none, decode_start, decode_turn, decode_end}
use Rattle.pack.proofs.pack.decode_by.Goals as goal
use Rattle.pack.proofs.pack.decode_by.Goals.{in-Some, in-None}

pub loop-i-init : goal.loop-i-init
loop-i-init c = (omega arith, omega arith, refl, decode_start _)

pub loop-i-preserved : goal.loop-i-preserved
loop-i-preserved c =
    let a = c.slash-a.result in
    let b = c.slash-b.result in
    let d = c.slash-c.result in
    let out = c.loop-i.out in
    let o = c.loop-i.o in
    let turned : (v n : ℕ) → Replaced (low_triplet a b d) a b d v n → package_of c.args.s.now ≡ take (o + 1) (set out o v) ++ decoded 0 (drop (c.loop-i.i + n) (map slashed c.args.s.now)) =
    λ v n r.
    let inside : o < length out = omega arith in
    decode_turn _ _ _ _ _ _ _ _ c.loop-i-test.true c.byte_at.ensures c.slash-a.ensures
    c.byte_at-in-loop-i.ensures c.slash-b.ensures c.byte_at-in-loop-i-2.ensures c.slash-c.ensures
    out o v n inside r c.loop-i.invariant.3 in
    elim c.match-low_triplet.branch [
      | in-Some w ↦
          rw w.v-is (
            omega arith,
            omega arith,
            simp length-set (omega arith),
            turned w.in-Some.v 3 (replaced_low (low_triplet a b d) a b d w.in-Some.v (sym w.in-Some.is ∙ c.low_triplet.ensures)),
          )
      | in-None w ↦
          rw w.v-is (
            omega arith,
            omega arith,
            simp length-set (omega arith),
            turned a 1 (replaced_none (low_triplet a b d) a b d (sym w.in-None.is ∙ c.low_triplet.ensures)),
          )
    ]

pub returns : goal.returns
returns c = decode_end _ _ _ _ c.loop-i-test.false c.loop-i.invariant.1 c.loop-i.invariant.3
