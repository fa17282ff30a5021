use Rattle.std.proofs.Common.{arith}
use Rattle.commands.proofs.EveryInput.{started_holds}
use Rattle.sheet.proofs.Accounts.{ready_begin, ready_last, ready_whole}
use Rattle.sheet.proofs.run.Goals as goal

pub run_all-n-requires : goal.run_all-n-requires
run_all-n-requires c = search (started_holds, ready_begin)

pub slice_bounds-print-end : goal.slice_bounds-print-end
slice_bounds-print-end c =
    omega (
      arith,
      (ready_last _ _ _ _ _ _ c.run_all-n.ensures _ _ c.finish-e.ensures
          c.finish-e.auto.out).0,
    )

pub slice_bounds-print-end-2 : goal.slice_bounds-print-end-2
slice_bounds-print-end-2 c =
    omega (
      arith,
      (ready_last _ _ _ _ _ _ c.run_all-n.ensures _ _ c.finish-e.ensures
          c.finish-e.auto.out).1,
    )

pub returns : goal.returns
returns c = ready_whole _ _ _ _ _ _ c.run_all-n.ensures _ _ c.finish-e.ensures _ c.print.ensures
