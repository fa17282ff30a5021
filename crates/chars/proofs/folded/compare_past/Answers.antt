use mathlib.Core.Path.{refl, ◌∙◌}
use native.Mathlib.Omega.{arith, min_cases}
use Rattle.chars.proofs.FoldedNames.{shared_stop, shared_end}
use Rattle.chars.proofs.folded.compare_past.Goals.{else-c-a-via-then-c-a+then-c-q+else-to_lower-q, else-c-a-via-then-c-a+else-c-q, else-c-a-via-else-c-a}
use Rattle.chars.proofs.folded.compare_past.Goals as goal

pub returns : goal.returns
returns c =
    let some = c.shared_bytes-c.ensures.some in
    record {
      shared = elim c.else-c-a.branch [
        | else-c-a-via-then-c-a+then-c-q+else-to_lower-q w ↦ shared_stop _ _ _ _ some w.if-c-a.true w.if-c-q.true (λ e. w.if-to_lower-q.false (w.to_lower.ensures ∙ e))
        | else-c-a-via-then-c-a+else-c-q w ↦ shared_end _ _ _ _ some _ refl (omega (arith, min_cases, w.if-c-q.false))
        | else-c-a-via-else-c-a w ↦ shared_end _ _ _ _ some _ refl (omega (arith, min_cases, w.if-c-a.false))
      ];
      past = c.order_past.ensures;
    }
