use Prim.Native.Nat.{◌+◌}
use mathlib.Core.Path.{sym}
use native.Mathlib.Omega.{arith}
use borrow.Author.Tests.{lt-leb}
use Rattle.contract.proofs.RowEntries.{room_left}
use Rattle.contract.proofs.entries.has_room.Goals as goal

pub returns-then-room-a : goal.returns-then-room-a
returns-then-room-a c =
    let a = c.args in
    sym (lt-leb (a.a + (a.b + (a.c + a.d))) a.room (omega arith))

pub returns-then-x-b : goal.returns-then-x-b
returns-then-x-b c =
    let a = c.args in
    sym (lt-leb (a.a + (a.b + (a.c + a.d))) a.room (omega arith))

pub returns-then-y-c : goal.returns-then-y-c
returns-then-y-c c =
    let a = c.args in
    sym (lt-leb (a.a + (a.b + (a.c + a.d))) a.room (omega arith))

pub returns : goal.returns
returns c = room_left _ _ _ _ _ c.if-room-a.false c.if-x-b.false c.if-y-c.false
