use mathlib.Core.Path.{refl}
use mathlib.Core.List.{flat_map}
use native.Mathlib.Omega.{arith}
use lib.ListN.{length-take, length-drop}
use borrow.Author.Rules.{rules}
use Rattle.output.proofs.Sending.{sent_none}
use Rattle.model.specs.Texts.{quoted}
use Rattle.streams.proofs.Quoting.{next_from, stretch_length, sent_stretch, sent_rest, taken_near}
use Rattle.streams.proofs.entry_lines.put_quoted.Goals as goal

pub loop-k-init : goal.loop-k-init
unfolding quoted flat_map
loop-k-init c = (omega arith, c.find-k.ensures, refl, sent_none _ _)

pub slice_bounds-put_stretch-count : goal.slice_bounds-put_stretch-count
slice_bounds-put_stretch-count c = search next_from

pub put_stretch-at-requires : goal.put_stretch-at-requires
put_stretch-at-requires c =
    let w = c.loop-k in (
      omega (arith, taken_near _ _ c.args.s.now w.i _ _ w.invariant.3, c.requires.0, c.requires.1),
      omega
          (arith, stretch_length c.args.s.now w.i w.k w.invariant.1 w.invariant.0, c.requires.1, c.loop-k-test.true),
    )

pub loop-k-smaller : goal.loop-k-smaller
loop-k-smaller c = search (next_from, rules)

pub loop-k-preserved : goal.loop-k-preserved
loop-k-preserved c = search (sent_stretch, rules)

pub slice_bounds-emit-count : goal.slice_bounds-emit-count
slice_bounds-emit-count c = c.loop-k.invariant.0

pub emit-requires : goal.emit-requires
emit-requires c =
    let w = c.loop-k in (
      omega (arith, taken_near _ _ c.args.s.now w.i _ _ w.invariant.3, c.requires.0, c.requires.1),
      simp
          (length-take, length-drop) (omega (arith, c.requires.1)),
    )

pub returns : goal.returns
returns c =
    let args = c.args in
    let w = c.loop-k in
    let rest = sent_rest args.s.now w.i w.k w.invariant.1 w.invariant.0 c.loop-k-test.false _ _ _ _ _ _ w.invariant.2 w.invariant.3
    c.emit.ensures in
    record { sent = rest.0; upper_bound = rest.1 }
