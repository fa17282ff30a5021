use mathlib.Core.Path.{sym, subst}
use native.Mathlib.Omega.{arith}
use lib.Dec.{ltb}
use Rattle.output.proofs.Answering.{refused_on}
use Rattle.model.specs.Calls.{Numbered}
use Rattle.store.specs.Rows.{make_row}
use Rattle.model.proofs.Numbers.{when_numbered}
use Rattle.reading.proofs.NotedRows.{noted_taken, noted_made, noted_refused}
use Rattle.reading.proofs.shadow.note.Goals as goal

pub returns-then-taken : goal.returns-then-taken
returns-then-taken c =
    let args = c.args in
    noted_taken args.shadow.now args.shadow.now args.left args.room args.size
    (make_row args.t args.f0.now args.f1.now args.f2.now args.f3.now) args.taken c.if-taken.true

pub put_row-requires : goal.put_row-requires
put_row-requires c = record { shape = c.requires.shape; numbered = subst Numbered (sym c.check_room.ensures) (when_numbered (ltb c.args.room c.args.size) 15 (omega arith) (omega arith)); f0_nonzero = c.requires.f0_nonzero }

pub returns-in_err-put_row : goal.returns-in_err-put_row
returns-in_err-put_row c =
    let args = c.args in
    rw (refused_on _ _ c.from_residual.ensures.1)
    (noted_refused _ _ _ args.room args.size _ _ c.if-taken.false _ c.check_room.ensures _ c.in_err-put_row.ensures)

pub returns : goal.returns
returns c =
    let args = c.args in
    noted_made _ _ _ args.room args.size _ _ c.if-taken.false _ c.check_room.ensures c.in_ok-put_row.ensures
