use native.Mathlib.Omega.{arith}
use Prim.Native.Nat.{◌+◌}
use lib.ListN.{get_or-eq_default}
use Rattle.store.specs.Buffer.{num4}
use Rattle.store.proofs.header.number.Goals as goal

pub returns : goal.returns
unfolding num4
returns c = omega (arith, get_or-eq_default c.args.pkg.now 0 {n = c.args.at + 3} (omega arith))
