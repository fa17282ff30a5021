use native.Mathlib.Omega.{arith}
use Rattle.script.proofs.EightBytes.{put8_is}
use Rattle.script.proofs.numbers.put8.Goals as goal

pub returns : goal.returns
returns c = put8_is _ _ _ _ _ (omega arith) c.put4.ensures c.put4-2.ensures
