use mathlib.Core.Path.{refl}
use borrow.Author.Tests.{lt-ltb, le-ltb}
use Rattle.reading.proofs.shadow.check_room.Goals as goal

pub returns-then-room-size : goal.returns-then-room-size
returns-then-room-size c = rw (lt-ltb _ _ c.if-room-size.true) refl

pub returns : goal.returns
returns c = rw (le-ltb _ _ c.if-room-size.false) refl
