use Rattle.chars.proofs.FoldedNames.{shared_exact}
use Rattle.chars.proofs.folded.shared_start.Goals as goal

pub returns : goal.returns
returns c = shared_exact _ _ _ _ c.shared_bytes.ensures
