use native.Mathlib.Omega.{arith}
use Rattle.abi.proofs.Recording.{put_reply_is}
use Rattle.abi.proofs.running.put_reply.Goals as goal

pub returns : goal.returns
returns c =
    put_reply_is _ _ _ _ _ _ _ (omega arith) c.put8.ensures c.put8-2.ensures c.put8-3.ensures
    c.put8-4.ensures c.put8-5.ensures
