use Rattle.parts.proofs.OutputCopies.{rest_none, rest_some}
use Rattle.parts.proofs.copying.copy_rest.Goals as goal

pub returns-then-n-skip : goal.returns-then-n-skip
returns-then-n-skip c =
    let args = c.args in
    rest_none args.out.now args.text.now _ _ c.if-n-skip.true

pub returns : goal.returns
returns c =
    let args = c.args in
    rest_some args.out.now args.text.now _ args.skip _ c.smaller-k.ensures.0 _ c.copy_in.ensures
