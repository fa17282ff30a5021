use Rattle.std.proofs.Common.{Ok, ap, ◌∙◌, arith}
use Rattle.std.proofs.lemmas.Result.{err_from_is_err_and}
use Rattle.markup.proofs.Notings.{gone_none, next_reach, gone_entered, gone_done, gone_unfit}
use Rattle.markup.proofs.forms.note_entries.Goals as goal

pub loop-at-init : goal.loop-at-init
loop-at-init c = gone_none c.requires.0 c.requires.1

pub loop-at-smaller : goal.loop-at-smaller
loop-at-smaller c =
    let w = next_reach c.next_entry.ensures (c.in_ok-at.was ∙ ap Ok c.in-Entered.is) in
    omega (arith, w.0, w.1)

pub loop-at-preserved : goal.loop-at-preserved
loop-at-preserved c =
    gone_entered c.loop-at.invariant c.next_entry.ensures (c.in_ok-at.was ∙ ap Ok c.in-Entered.is) _ c.note.ensures

pub returns-in-Done : goal.returns-in-Done
returns-in-Done c = gone_done c.loop-at.invariant c.next_entry.ensures (c.in_ok-at.was ∙ ap Ok c.in-Done.is)

pub returns-in_err-at : goal.returns-in_err-at
returns-in_err-at c =
    let p = err_from_is_err_and c.from_residual.result c.from_residual.ensures.1 in
    rw (p.1, p.2) (gone_unfit c.loop-at.invariant c.next_entry.ensures c.in_err-at.was)
