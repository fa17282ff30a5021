use Rattle.output.specs.Refusals.{number_of}
use Rattle.output.proofs.Answering.{refused_on}
use Rattle.contract.proofs.RowEntries.{taken_placed, entered_refused, entered_room, entered_made}
use Rattle.contract.proofs.entries.put_at.Goals as goal

pub check_row-requires : goal.check_row-requires
check_row-requires c = record { shape = (c.requires.shape.0, c.requires.shape.1); taken = taken_placed _ _ _ _ c.requires.placed; numbered = c.requires.numbered }

pub returns-in_err-check_row : goal.returns-in_err-check_row
returns-in_err-check_row c = rw (refused_on _ _ c.from_residual.ensures.1) (entered_refused _ _ _ _ _ c.in_err-check_row.ensures)

pub insert-requires : goal.insert-requires
insert-requires c =
    record {
      shape = c.requires.shape.0;
      room = entered_room _ (number_of c.args.own) c.args.limit c.args.t c.args.f0.now c.args.f1.now c.args.f2.now c.args.f3.now
          c.in_ok-check_row.ensures _ _ c.requires.shape.1 c.requires.placed.bounded;
      f0_nonzero = c.requires.f0_nonzero;
    }

pub returns : goal.returns
returns c =
    entered_made _ (number_of c.args.own) c.args.limit c.args.t c.args.f0.now c.args.f1.now c.args.f2.now c.args.f3.now
    c.in_ok-check_row.ensures _ _ c.requires.shape.1 c.requires.placed.bounded _ c.insert.ensures
