use mathlib.Core.Path.{ap, sym}
use Rattle.output.specs.Answers.{failing}
use Rattle.abi.proofs.Handing.{handed_as, hands_short}
use Rattle.abi.proofs.replies.of_unwritten.Goals as goal

pub returns-in-TooShort : goal.returns-in-TooShort
returns-in-TooShort c = λ out. handed_as (sym (ap (λ x. failing c.args.count x out) c.in-TooShort.is)) (hands_short _ _ _ out c.requires c.of_values.ensures)

pub returns-in-Refused : goal.returns-in-Refused
returns-in-Refused c = λ out. handed_as (sym (ap (λ x. failing c.args.count x out) c.in-Refused.is)) (c.of_refusal.ensures out)
