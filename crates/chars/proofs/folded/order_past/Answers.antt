use mathlib.Core.Path.{ap, ◌∙◌}
use Prim.Native.Nat.{ℕ}
use native.Mathlib.Omega.{arith, min_cases}
use lib.ListN.{get_or}
use Rattle.std.specs.Ordering.{nat_cmp}
use Rattle.chars.proofs.FoldedNames.{order_bytes, order_ends}
use Rattle.chars.proofs.folded.order_past.Goals.{else-c-a-via-then-c-a+else-c-q, else-c-a-via-else-c-a}
use Rattle.chars.proofs.folded.order_past.Goals as goal

pub returns-then-c-q : goal.returns-then-c-q
returns-then-c-q c =
    order_bytes _ _ _ c.if-c-a.true c.if-c-q.true _
    (c.cmp.ensures ∙ ap (λ (x : ℕ). nat_cmp x (get_or c.args.q.now c.args.c 0)) c.to_lower.ensures)

pub returns : goal.returns
returns c =
    order_ends _ _ _
    (elim c.else-c-a.branch [ else-c-a-via-then-c-a+else-c-q w ↦ omega (arith, min_cases, w.if-c-q.false) | else-c-a-via-else-c-a w ↦ omega (arith, min_cases, w.if-c-a.false) ])
    _ c.cmp-2.ensures
