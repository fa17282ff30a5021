use Rattle.chars.specs.Bytes.{member}
use Rattle.chars.proofs.FirstBytes.{every_found}
use Rattle.names.proofs.members.all_members.Goals as goal

pub returns : goal.returns
returns c = every_found (member _) _ _ c.past_members.ensures
