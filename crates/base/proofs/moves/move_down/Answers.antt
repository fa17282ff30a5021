use mathlib.Core.Path.{◌≡◌, ap, ◌∙◌}
use Prim.Native.Nat.{ℕ, ◌+◌, ◌≤◌, min}
use mathlib.Core.List.{List}
use native.Mathlib.Omega.{arith}
use lib.ListN.{length, take}
use lib.Seq.{take_all}
use Rattle.base.specs.Buffer.{part, splice}
use Rattle.base.proofs.Parts.{length_part}
use Rattle.base.proofs.Copies.{splice_nil}
use Rattle.base.proofs.Blocks.{move_more}
use Rattle.base.proofs.moves.move_down.Goals as goal

-- all blocks are moved
all : (l o : List ℕ) (from to n x : ℕ) → from + n ≤ length l → n ≤ x → o ≡ splice l to (take x (part from n l)) → o ≡ splice l to (part from n l)
all l o from to n x q h e = e ∙ ap (splice l to) (take_all x (part from n l) (omega (arith, h, length_part from n l q)))

pub loop-i-init : goal.loop-i-init
loop-i-init c =
    let a = c.args in
    let e : 0 ≡ min 0 a.count = omega arith in
    splice_nil _ _ ∙ ap (λ (k : ℕ). splice a.pkg.now a.to (take k (part a.from a.count a.pkg.now))) e

pub loop-i-preserved : goal.loop-i-preserved
loop-i-preserved c =
    let a = c.args in
    move_more a.pkg.now _ _ a.from a.to a.count _ _ _ _ (omega arith) (omega arith) (omega arith) (omega arith) (omega arith) (omega arith)
    c.loop-i.invariant c.move_block.ensures

pub returns : goal.returns
returns c = all _ _ c.args.from _ c.args.count _ (omega arith) (omega arith) c.loop-i.invariant

pub returns-2 : goal.returns-2
returns-2 c =
    let a = c.args in
    all _ _ a.from _ a.count a.count (omega arith) (omega arith)
    (move_more a.pkg.now _ _ a.from a.to a.count _ _ _ _ (omega arith) (omega arith) (omega arith) (omega arith) (omega arith) (omega arith)
    c.loop-i.invariant c.move_block.ensures)
