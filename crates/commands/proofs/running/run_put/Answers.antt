use Rattle.base.proofs.Lists.{take_rest}
use Rattle.commands.proofs.LineRuns.{change_run}
use Rattle.commands.proofs.running.run_put.Goals as goal

pub returns : goal.returns
returns c = search (change_run, take_rest)
