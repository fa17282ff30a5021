use mathlib.Core.Path.{sym, ◌∙◌}
use native.Mathlib.Omega.{arith, min_cases}
use Rattle.chars.proofs.FoldedNames.{shared_byte}
use Rattle.chars.proofs.folded.shared_bytes.Goals as goal

pub loop-i-preserved : goal.loop-i-preserved
loop-i-preserved g c =
    shared_byte _ _ _ _ c.loop-i.invariant (omega (arith, min_cases, c.min-n.ensures, c.loop-i-test.true)) (omega (arith, min_cases, c.min-n.ensures, c.loop-i-test.true)) c.requires g.C.Case.read g.C.Case.laws
    (sym c.read.ensures ∙ c.if-read-q.false)
