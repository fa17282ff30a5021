use native.Mathlib.Omega.{arith}
use Rattle.store.proofs.Joined.{put_fields_is}
use Rattle.store.proofs.heap.put_fields.Goals as goal

pub returns : goal.returns
returns c =
    put_fields_is _ _ _ _ _ _ _ _ _ _ (omega arith) c.copy_in.ensures c.copy_in-2.ensures
    c.copy_in-3.ensures c.copy_in-4.ensures
