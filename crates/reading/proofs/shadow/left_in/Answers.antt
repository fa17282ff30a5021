use mathlib.Core.Path.{ap}
use Prim.Native.Nat.{ℕ, ◌-◌}
use native.Mathlib.Omega.{arith}
use Rattle.reading.proofs.shadow.left_in.Goals as goal

pub returns-then-limit-n : goal.returns-then-limit-n
returns-then-limit-n c = record { few = omega arith; is = λ o. omega (arith, c.row_count-n.ensures.is o, c.if-limit-n.true) }

pub returns : goal.returns
returns c = record { few = omega arith; is = λ o. ap (λ (n : ℕ). c.args.limit - n) (c.row_count-n.ensures.is o) }
