use native.Mathlib.Omega.{arith}
use Rattle.pieces.proofs.suffixes.piece_tag.Goals as goal

pub returns-then-last : goal.returns-then-last
returns-then-last c = rw c.if-last.true (omega arith, omega arith)

pub returns : goal.returns
returns c = rw c.if-last.false (omega arith, omega arith)
