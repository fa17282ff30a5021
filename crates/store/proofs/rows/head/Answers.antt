use Rattle.store.proofs.Reading.{head_of}
use Rattle.store.proofs.rows.head.Goals as goal

pub returns : goal.returns
returns c =
    let o = c.number-2.ensures in
    let n = c.number-3.ensures in
    head_of _ _ _ _ _ c.requires.1 c.number.ensures.0 o.0 n.0 o.1 n.1
