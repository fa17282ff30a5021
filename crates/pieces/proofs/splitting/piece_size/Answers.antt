use mathlib.Core.Path.{refl}
use native.Mathlib.Numerals.{add-one}
use borrow.Author.Tests.{lt-ltb, le-ltb}
use Rattle.pieces.proofs.splitting.piece_size.Goals as goal

pub returns-then-k-rest : goal.returns-then-k-rest
returns-then-k-rest c = let a = c.args in rw (lt-ltb a.k a.rest c.if-k-rest.true) (add-one a.q)

pub returns : goal.returns
returns c = let a = c.args in rw (le-ltb a.k a.rest c.if-k-rest.false) refl
