use mathlib.Core.Path.{sym}
use native.Mathlib.Omega.{arith}
use lib.Seq.{length-take-le}
use Rattle.iri.specs.References.{resolve}
use Rattle.base.proofs.Lists.{length_take_few}
use Rattle.output.proofs.Sending.{fitted_none, fitted_sent}
use Rattle.iri.proofs.references.put_reference.Goals as goal

pub slice_bounds-put_target-end : goal.slice_bounds-put_target-end
slice_bounds-put_target-end c =
    sym (length-take-le _ _ (omega
    (arith, c.target_path-k.ensures.few, c.target_path-k.auto.out)))

pub put_target-need-requires : goal.put_target-need-requires
put_target-need-requires c =
    let path = c.target_path-k in (
      record {
        base_is = c.split-b.ensures;
        reference_is = c.split-x.ensures;
        base_few = c.requires.0;
        reference_few = c.requires.1;
      },
      path.ensures.text,
      omega (arith, length_take_few path.result path.new.out, path.ensures.few),
    )

pub returns-then-out-need : goal.returns-then-out-need
returns-then-out-need c =
    let args = c.args in
    fitted_none (resolve args.base.now args.reference.now) _ _ args.out.now _ c.put_target-need.ensures
    c.put_target-need.auto.out c.if-out-need.true

pub slice_bounds-put_target-end-4 : goal.slice_bounds-put_target-end-4
slice_bounds-put_target-end-4 c = sym (length-take-le _ _ (omega (arith, c.target_path-k.ensures.few, c.target_path-k.auto.out)))

pub put_target-requires : goal.put_target-requires
put_target-requires c =
    let path = c.target_path-k in (
      record {
        base_is = c.split-b.ensures;
        reference_is = c.split-x.ensures;
        base_few = c.requires.0;
        reference_few = c.requires.1;
      },
      path.ensures.text,
      omega (arith, length_take_few path.result path.new.out, path.ensures.few),
    )

pub returns : goal.returns
returns c =
    let args = c.args in
    fitted_sent (resolve args.base.now args.reference.now) _ _ args.out.now _ c.put_target-need.ensures
    c.put_target-need.auto.out _ _ c.if-out-need.false c.put_target.ensures
