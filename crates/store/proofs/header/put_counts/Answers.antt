use native.Mathlib.Omega.{arith}
use Rattle.store.proofs.Joined.{put_counts_is}
use Rattle.store.proofs.header.put_counts.Goals as goal

pub returns : goal.returns
returns c = put_counts_is _ _ _ _ _ _ _ (omega arith) c.put4.ensures c.put4-2.ensures c.put4-3.ensures
