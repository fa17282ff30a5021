use mathlib.Core.Path.{◌≡◌, refl, ap, ◌∙◌}
use Prim.Native.Nat.{ℕ, suc, ◌+◌}
use native.Mathlib.Omega.{arith}
use native.Mathlib.Numerals.{add-one}
use lib.Dec.{eqb}
use lib.ListN.{length}
use Rattle.model.specs.Cutting.{suffix_sum}
use Rattle.pieces.specs.Suffixes.{suffix_text}
use Rattle.pieces.proofs.splitting.suffixes_length.Goals as goal

pub loop-k-init : goal.loop-k-init
unfolding suffix_sum
loop-k-init c = (omega arith, omega arith, refl)

pub loop-k-preserved : goal.loop-k-preserved
unfolding suffix_sum
loop-k-preserved c =
    let n = c.args.n in
    let k = c.loop-k.k in
    let e = add-one k in
    let f : length (suffix_text k (eqb (k + 1) n)) ≡ length (suffix_text k (eqb (suc k) n)) = ap (λ (i : ℕ). length (suffix_text k (eqb i n))) e in
    (omega arith, omega (arith, c.suffix_length-sum.ensures), omega (arith, c.loop-k.invariant.2, c.suffix_length-sum.ensures.0, f, ap (suffix_sum n) e))

pub returns : goal.returns
returns c =
    let n = c.args.n in
    let e : c.loop-k.k ≡ n = omega arith in
    (c.loop-k.invariant.2 ∙ ap (suffix_sum n) e, omega arith)
