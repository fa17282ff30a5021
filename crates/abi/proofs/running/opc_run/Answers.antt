use mathlib.Core.Path.{refl, ◌∙◌}
use native.Mathlib.Omega.{arith}
use borrow.Author.Rules.{rules}
use Rattle.abi.proofs.ScriptRuns.{going_begins, going_ended, going_fits, going_stops, going_on}
use Rattle.abi.proofs.LedgerRuns.{run_as}
use Rattle.abi.proofs.running.opc_run.Goals as goal

pub loop-read-init : goal.loop-read-init
loop-read-init c = (going_begins _ _ _, refl)

pub overflow_add-written : goal.overflow_add-written
overflow_add-written c = omega (arith, going_fits c.loop-read.invariant.0 c.take_turn-t.ensures)

pub returns-then-t-eq0 : goal.returns-then-t-eq0
returns-then-t-eq0 c =
    run_as c.three.ensures
    (going_stops c.loop-read.invariant.0 c.take_turn-t.ensures c.loop-read-test.true
    c.if-t-eq0.true)

pub overflow_add-read : goal.overflow_add-read
overflow_add-read c =
    omega (
      arith,
      (going_on c.loop-read.invariant.0 c.take_turn-t.ensures c.if-t-eq0.false).0,
      c.loop-read-test.true,
    )

pub overflow_add-made : goal.overflow_add-made
overflow_add-made c = omega (arith, c.loop-read.invariant.0.few, c.loop-read-test.true)

pub loop-read-smaller : goal.loop-read-smaller
loop-read-smaller c = search (going_on, rules)

pub loop-read-preserved : goal.loop-read-preserved
loop-read-preserved c = (
  (going_on c.loop-read.invariant.0 c.take_turn-t.ensures c.if-t-eq0.false).1,
  c.take_turn-t.auto.pkg ∙ c.loop-read.invariant.1,
)

pub returns : goal.returns
returns c = search (going_ended, run_as)
