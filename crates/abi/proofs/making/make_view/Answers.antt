use Rattle.abi.proofs.Telling.{told_view}
use Rattle.abi.proofs.making.make_view.Goals as goal

pub returns : goal.returns
returns c = search told_view
