use native.Mathlib.Omega.{arith}
use Rattle.store.proofs.Joined.{put_slot_is}
use Rattle.store.proofs.slots.put_slot.Goals as goal

pub returns : goal.returns
returns c =
    put_slot_is _ _ _ _ _ _ _ _ _ _ _ _ _ _ (omega arith) c.put4.ensures c.put4-2.ensures c.put4-3.ensures
    c.put4-4.ensures c.put4-5.ensures c.put4-6.ensures
