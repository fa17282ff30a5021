use mathlib.Core.Path.{◌≡◌, ap, sym, ◌∙◌}
use Prim.Native.Nat.{ℕ}
use native.Mathlib.Omega.{arith}
use Rattle.base.specs.Buffer.{part, splice}
use Rattle.base.proofs.Parts.{splice_part}
use Rattle.base.proofs.moves.shift.Goals as goal

pub returns-then-from-to : goal.returns-then-from-to
returns-then-from-to c =
    let a = c.args in
    let p = a.pkg.now in
    let e : a.from ≡ a.to = omega arith in
    sym (splice_part a.from a.count p (omega arith)) ∙ ap (λ (k : ℕ). splice p k (part a.from a.count p)) e
