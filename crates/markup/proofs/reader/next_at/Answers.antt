use native.Mathlib.Omega.{arith}
use Rattle.markup.proofs.reader.next_at.Goals as goal

pub returns-then-s-at : goal.returns-then-s-at
returns-then-s-at c = record { is = λ h. absurd (omega (arith, h, c.if-s-at.true)) }
