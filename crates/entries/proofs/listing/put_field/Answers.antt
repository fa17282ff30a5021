use mathlib.Core.Path.{refl, sym}
use lib.ListN.{length-append}
use Rattle.output.specs.Answers.{Text}
use Rattle.output.proofs.Answering.{answer_short, answer_bytes}
use Rattle.output.proofs.Sending.{sent_both}
use Rattle.entries.proofs.listing.put_field.Goals as goal

pub returns-then-out-length : goal.returns-then-out-length
returns-then-out-length c =
    let args = c.args in
    answer_short 2 (Text _ _) _ _ args.out.now _ _ refl (sym (length-append args.a.now args.b.now)) c.if-out-length.true refl

pub returns : goal.returns
returns c =
    let args = c.args in
    answer_bytes 2 (Text _ _) _ _ args.out.now _ _ refl (sym (length-append args.a.now args.b.now)) c.if-out-length.false
    (sent_both _ _ _ _ _ c.copy_in.ensures c.copy_in-2.ensures c.if-out-length.false)
