use native.Mathlib.Omega.{arith}
use Rattle.store.proofs.Removing.{size_used}
use Rattle.store.proofs.Lasting.{brought_sent}
use Rattle.store.proofs.ends.bring_last.Goals as goal

pub returns-then-get4-s : goal.returns-then-get4-s
returns-then-get4-s c =
    let pre = c.requires in
    record { is = λ so. absurd (omega (arith, size_used _ _ so pre.1, c.get4.ensures, c.size-s.ensures)) }

pub returns : goal.returns
returns c = brought_sent _ _ _ _ _ _ _ _ c.get4-n.ensures.0 c.requires.1 c.size-s.ensures.0 c.free_place.ensures.1 c.send_row.ensures
