use native.Mathlib.Omega.{arith}
use Rattle.store.proofs.Starting.{empty_is}
use Rattle.store.proofs.header.init.Goals as goal

pub returns : goal.returns
returns c =
    empty_is _ _ _ _ _ (omega arith) (omega arith) c.copy_in.ensures c.put4.ensures
    c.put_counts.ensures
