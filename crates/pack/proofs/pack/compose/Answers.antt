use Rattle.pack.specs.Pack.{compose, pack_iri}
use Rattle.output.proofs.Answering.{answer_refused, fitted_short, fitted_bytes}
use Rattle.pack.proofs.Composing.{compose_9, compose_4, package_short, part_few, compose_text}
use mathlib.Core.List.{[]}
use Rattle.output.specs.declared.refusals.Refusal.TheVariants.{BadTarget, NotAPartName}
use mathlib.Core.Bool.{not}
use mathlib.Core.Path.{ap}
use Rattle.pack.proofs.pack.compose.Goals as goal

pub returns-then-not-is_package_iri : goal.returns-then-not-is_package_iri
returns-then-not-is_package_iri c =
    answer_refused (compose c.args.p.now c.args.n.now) BadTarget c.args.out.now
    (compose_9 c.args.p.now c.args.n.now _ c.is_package_iri.ensures (ap not c.if-not-is_package_iri.true))

pub returns-then-not-is_part_or_root : goal.returns-then-not-is_part_or_root
returns-then-not-is_part_or_root c =
    answer_refused (compose c.args.p.now c.args.n.now) NotAPartName c.args.out.now
    (compose_4 c.args.p.now c.args.n.now _ c.is_package_iri.ensures (ap not c.if-not-is_package_iri.false) _
    c.is_part_or_root.ensures (ap not c.if-not-is_part_or_root.true))

pub put_pack_iri-need-requires : goal.put_pack_iri-need-requires
put_pack_iri-need-requires c =
    let args = c.args in (
      package_short args.p.now args.n.now _ c.is_package_iri.ensures (ap not c.if-not-is_package_iri.false) _
          c.is_part_or_root.ensures,
      part_few args.p.now args.n.now _ c.is_package_iri.ensures
          (ap not c.if-not-is_package_iri.false) _ c.is_part_or_root.ensures (ap not c.if-not-is_part_or_root.false),
    )

pub returns-then-out-need : goal.returns-then-out-need
returns-then-out-need c =
    let args = c.args in
    fitted_short 1 (compose args.p.now args.n.now) (pack_iri args.p.now args.n.now) [] args.out.now _ _
    (compose_text args.p.now args.n.now _ c.is_package_iri.ensures (ap not c.if-not-is_package_iri.false) _
    c.is_part_or_root.ensures (ap not c.if-not-is_part_or_root.false)) c.put_pack_iri-need.ensures
    c.put_pack_iri-need.auto.out c.if-out-need.true

pub returns : goal.returns
returns c =
    let args = c.args in
    fitted_bytes 1 (compose args.p.now args.n.now) (pack_iri args.p.now args.n.now) [] args.out.now _ _
    (compose_text args.p.now args.n.now _ c.is_package_iri.ensures (ap not c.if-not-is_package_iri.false) _
    c.is_part_or_root.ensures (ap not c.if-not-is_part_or_root.false)) c.put_pack_iri-need.ensures
    c.put_pack_iri-need.auto.out c.if-out-need.false
