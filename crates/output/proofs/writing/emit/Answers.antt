use mathlib.Core.Path.{refl}
use native.Mathlib.Omega.{arith}
use Rattle.output.proofs.writing.emit.Goals as goal

pub returns-then-out-next : goal.returns-then-out-next
returns-then-out-next c = record { next_is = refl; fits = λ f. absurd (omega arith) }

pub returns : goal.returns
returns c = record { next_is = refl; fits = λ _. c.copy_in.ensures }
