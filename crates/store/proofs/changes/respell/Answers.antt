use Rattle.store.proofs.Respelled.{respelled_brought}
use Rattle.store.proofs.changes.respell.Goals as goal

pub returns : goal.returns
returns c = respelled_brought _ _ _ _ _ _ _ _ c.get4-n.ensures.0 c.get4-u.ensures.0 c.bring_last.ensures c.respell_back.ensures
