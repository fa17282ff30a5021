use native.Mathlib.Omega.{arith}
use mathlib.Core.Path.{sym, ◌∙◌}
use lib.Seq.{length-take-le}
use Rattle.worked.proofs.Returning.{never_refused, bytes_few, resolved_back}
use Rattle.worked.proofs.returned.Goals as goal

pub returns-in_err-n : goal.returns-in_err-n
returns-in_err-n c =
    let h = c.requires in
    absurd (never_refused _ _ _ h.0 h.1 h.2 c.compose.result _ _ c.compose.ensures c.in_err-n.was)

pub slice_bounds-resolve_pack-end : goal.slice_bounds-resolve_pack-end
slice_bounds-resolve_pack-end c =
    let h = c.requires in
    let few = bytes_few _ _ _ h.0 h.1 h.2 c.compose.result _ _ c.compose.ensures c.in_ok-n.was in
    omega (arith, c.compose.auto.out)

pub slice_bounds-resolve_pack-end-2 : goal.slice_bounds-resolve_pack-end-2
slice_bounds-resolve_pack-end-2 c =
    let h = c.requires in
    let few = bytes_few _ _ _ h.0 h.1 h.2 c.compose.result _ _ c.compose.ensures c.in_ok-n.was in
    sym (length-take-le _ _ (omega (arith, c.compose.auto.out)))

pub returns : goal.returns
returns c =
    let h = c.requires in
    c.resolve_pack.ensures ∙ resolved_back _ _ _ h.0 h.1 h.2 c.compose.result _ _ _ c.compose.ensures c.in_ok-n.was
