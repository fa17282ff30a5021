use Rattle.std.proofs.Common.{arith}
use Rattle.markup.proofs.Rests.{tag_reach}
use Rattle.markup.proofs.EntryPieces.{no_entry, entering}
use Rattle.markup.proofs.pieces.entry_at.Goals as goal

pub returns-in_err-tag : goal.returns-in_err-tag
returns-in_err-tag c = rw c.from_residual.ensures (no_entry _ c.start_tag.ensures c.in_err-tag.was)

pub entry_of-requires : goal.entry_of-requires
entry_of-requires c =
    let v = tag_reach c.start_tag.ensures c.in_ok-tag.was in
    (omega (arith, v), omega (arith, v))

pub returns : goal.returns
returns c = entering _ c.start_tag.ensures c.in_ok-tag.was c.entry_of.ensures
