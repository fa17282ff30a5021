use mathlib.Core.Path.{◌∙◌, ap, sym}
use mathlib.Core.List.{[]}
use Rattle.names.specs.Items.{item_refusal, refusal_number}
use Rattle.names.proofs.Suffixes.{told_some}
use Rattle.output.proofs.Answering.{number_some}
use Rattle.abi.proofs.ItemReplies.{whole_reply, piece_reply, refused_reply}
use Rattle.abi.proofs.judgements.opc_take_apart.Goals as goal

pub unwrap-requires : goal.unwrap-requires
unwrap-requires c = told_some _ _ c.refusal.ensures (λ z. number_some _ (sym (ap item_refusal c.in_default.is) ∙ z))

pub returns-in_default : goal.returns-in_default
returns-in_default c =
    (c.of_refusal.ensures []).reply
    ∙ refused_reply _ _ c.take_apart-name.ensures _ _ c.in_default.is (sym (ap refusal_number c.unwrap.ensures) ∙ c.refusal.ensures)

pub returns-in_default-x : goal.returns-in_default-x
returns-in_default-x c =
    let take_apart = c.take_apart-name in
    c.three.ensures ∙ whole_reply _ _ take_apart.ensures _ _ c.in-Named.is c.in_default-x.is

pub returns : goal.returns
returns c =
    let take_apart = c.take_apart-name in
    c.three-2.ensures ∙ piece_reply _ _ take_apart.ensures _ _ _ _ _ c.in-Named.is c.in-Piece.is
    c.suffix_kind.ensures
