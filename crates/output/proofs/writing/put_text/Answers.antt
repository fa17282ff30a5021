use mathlib.Core.Path.{◌∙◌, refl}
use mathlib.Core.List.{[]}
use native.Mathlib.Nat.{zero-add}
use lib.ListN.{length}
use Rattle.base.specs.Buffer.{splice}
use Rattle.output.specs.Answers.{Text}
use Rattle.output.proofs.Answering.{answer_short, answer_bytes}
use Rattle.output.proofs.writing.put_text.Goals as goal

pub returns-then-out-text : goal.returns-then-out-text
returns-then-out-text c =
    let args = c.args in
    answer_short 1 (Text _ []) args.text.now [] args.out.now _ _ refl refl c.if-out-text.true refl

pub returns : goal.returns
unfolding splice
returns c =
    let args = c.args in
    answer_bytes 1 (Text _ []) args.text.now [] args.out.now _ _ refl refl c.if-out-text.false
    (c.copy_in.ensures ∙ rw (zero-add (length args.text.now)))
