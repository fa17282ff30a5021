use mathlib.Core.Path.{refl}
use Rattle.store.proofs.Inserting.{insert_is}
use Rattle.store.proofs.rows.insert.Goals as goal

pub returns : goal.returns
returns c so =
    insert_is _ _ _ _ _ _ _ c.requires.room c.get4-n.ensures.0 c.get4-u.ensures.0
    (c.free_place-at.ensures.1 so) so _ _ _ _ _ _ _ _ _ _ refl c.requires.f0_nonzero.0 c.requires.f0_nonzero.1
    c.heap_size.ensures c.if-heap_size-at.false c.put_fields.ensures c.shift.ensures
    c.put_slot.ensures c.put_counts.ensures
