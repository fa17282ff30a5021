use Prim.Native.Nat.{◌-◌, ◌≤◌, ◌+◌}
use mathlib.Core.Path.{refl, ◌∙◌, sym}
use native.Mathlib.Omega.{arith}
use lib.ListN.{length, drop, length-set}
use lib.Seq.{length-take-le}
use borrow.Author.Rules.{rules}
use Rattle.iri.proofs.DotTurns.{whole_all, fits_skip, after_skip, root_done, done, after_root, fits_up, chop_le, after_up, after_up_root, after_finish, fits_copy, after_copy, whole_none}
use Rattle.base.proofs.Lists.{length_part_le, length_take_few}
use Rattle.iri.proofs.dots.remove_dots.Goals as goal

pub loop-i-init : goal.loop-i-init
loop-i-init c = (omega arith, omega arith, refl, whole_all _)

pub overflow_add-i : goal.overflow_add-i
overflow_add-i c =
    let f = fits_skip c.args.s.now c.loop-i.out c.loop-i.i c.loop-i.o c.loop-i-test.true _
    c.rule-m.ensures _ c.in-Skip.is in
    omega arith

pub loop-i-smaller-in-Skip : goal.loop-i-smaller-in-Skip
loop-i-smaller-in-Skip c =
    let f = fits_skip c.args.s.now c.loop-i.out c.loop-i.i c.loop-i.o c.loop-i-test.true _
    c.rule-m.ensures _ c.in-Skip.is in
    omega arith

pub loop-i-preserved-in-Skip : goal.loop-i-preserved-in-Skip
loop-i-preserved-in-Skip c =
    let f = fits_skip c.args.s.now c.loop-i.out c.loop-i.i c.loop-i.o c.loop-i-test.true _
    c.rule-m.ensures _ c.in-Skip.is in (
      omega arith,
      omega arith,
      c.loop-i.invariant.2,
      c.loop-i.invariant.3 ∙ after_skip c.args.s.now c.loop-i.out
          c.loop-i.i c.loop-i.o c.loop-i-test.true _ c.rule-m.ensures _ c.in-Skip.is,
    )

pub shape_of-out-in-Root : goal.shape_of-out-in-Root
shape_of-out-in-Root c = simp length-set (omega arith)

pub returns-in-Root : goal.returns-in-Root
returns-in-Root c =
    root_done _ _ _ (c.loop-i.invariant.3 ∙ after_root c.args.s.now c.loop-i.out c.loop-i.i c.loop-i.o
    c.loop-i-test.true _ c.rule-m.ensures c.in-Root.is) (omega arith) (omega arith)

pub slice_bounds-chopped-end-in-Up : goal.slice_bounds-chopped-end-in-Up
slice_bounds-chopped-end-in-Up c = sym (length-take-le _ _ (omega arith))

pub overflow_add-i-in-Up : goal.overflow_add-i-in-Up
overflow_add-i-in-Up c =
    let f = fits_up c.args.s.now c.loop-i.out c.loop-i.i c.loop-i.o c.loop-i-test.true _
    c.rule-m.ensures _ c.in-Up.is in
    omega arith

pub loop-i-smaller-in-Up : goal.loop-i-smaller-in-Up
loop-i-smaller-in-Up c =
    let f = fits_up c.args.s.now c.loop-i.out c.loop-i.i c.loop-i.o c.loop-i-test.true _
    c.rule-m.ensures _ c.in-Up.is in
    omega arith

pub loop-i-preserved-in-Up : goal.loop-i-preserved-in-Up
loop-i-preserved-in-Up c =
    let f = fits_up c.args.s.now c.loop-i.out c.loop-i.i c.loop-i.o c.loop-i-test.true _
    c.rule-m.ensures _ c.in-Up.is in
    let q : c.chopped-o.result ≤ c.loop-i.o = chop_le c.loop-i.out _ _ (omega arith) c.chopped-o.ensures in (
      omega arith,
      omega arith,
      c.loop-i.invariant.2,
      c.loop-i.invariant.3 ∙ after_up c.args.s.now c.loop-i.out
          c.loop-i.i c.loop-i.o c.loop-i-test.true _ c.rule-m.ensures _ _ c.in-Up.is
          c.chopped-o.ensures q,
    )

pub slice_bounds-chopped-end-in-UpRoot-2 : goal.slice_bounds-chopped-end-in-UpRoot-2
slice_bounds-chopped-end-in-UpRoot-2 c = sym (length-take-le _ _ (omega arith))

pub bounds-out-o-in-UpRoot : goal.bounds-out-o-in-UpRoot
bounds-out-o-in-UpRoot c =
    let q : c.chopped-o-in-UpRoot.result ≤ c.loop-i.o = chop_le c.loop-i.out _ _ (omega arith) c.chopped-o-in-UpRoot.ensures in
    omega arith

pub overflow_add-result-in-UpRoot : goal.overflow_add-result-in-UpRoot
overflow_add-result-in-UpRoot c =
    let q : c.chopped-o-in-UpRoot.result ≤ c.loop-i.o = chop_le c.loop-i.out _ _ (omega arith) c.chopped-o-in-UpRoot.ensures in
    omega arith

pub shape_of-out-in-UpRoot : goal.shape_of-out-in-UpRoot
shape_of-out-in-UpRoot c = simp length-set (omega arith)

pub returns-in-UpRoot : goal.returns-in-UpRoot
returns-in-UpRoot c =
    let q : c.chopped-o-in-UpRoot.result ≤ c.loop-i.o = chop_le c.loop-i.out _ _ (omega arith) c.chopped-o-in-UpRoot.ensures in
    root_done _ _ _ (c.loop-i.invariant.3 ∙ after_up_root c.args.s.now c.loop-i.out c.loop-i.i
    c.loop-i.o c.loop-i-test.true _ c.rule-m.ensures _ c.in-UpRoot.is
    c.chopped-o-in-UpRoot.ensures q) (omega arith) (omega arith)

pub returns-in-Finish : goal.returns-in-Finish
returns-in-Finish c =
    done _ _ _ (c.loop-i.invariant.3 ∙ after_finish c.args.s.now c.loop-i.out c.loop-i.i c.loop-i.o
    c.loop-i-test.true _ c.rule-m.ensures c.in-Finish.is) (omega arith)

pub overflow_add-e : goal.overflow_add-e
overflow_add-e c =
    let f = fits_copy c.args.s.now c.loop-i.out c.loop-i.i c.loop-i.o c.loop-i-test.true _
    c.rule-m.ensures _ c.in-Copy.is in
    omega arith

pub slice_bounds-emit-end : goal.slice_bounds-emit-end
slice_bounds-emit-end c =
    let f = fits_copy c.args.s.now c.loop-i.out c.loop-i.i c.loop-i.o c.loop-i-test.true _
    c.rule-m.ensures _ c.in-Copy.is in
    search rules

pub emit-o-requires : goal.emit-o-requires
emit-o-requires c = (
  omega arith,
  (let l = length_part_le (c.loop-i.i + c.in-Copy.n - c.loop-i.i) c.loop-i.i
      c.args.s.now in omega arith),
)

pub loop-i-smaller : goal.loop-i-smaller
loop-i-smaller c =
    let f = fits_copy c.args.s.now c.loop-i.out c.loop-i.i c.loop-i.o c.loop-i-test.true _
    c.rule-m.ensures _ c.in-Copy.is in
    omega arith

pub loop-i-preserved : goal.loop-i-preserved
loop-i-preserved c =
    let i = c.loop-i.i in
    let n = c.in-Copy.n in
    let s = c.args.s.now in
    let f = fits_copy c.args.s.now c.loop-i.out c.loop-i.i c.loop-i.o c.loop-i-test.true _
    c.rule-m.ensures _ c.in-Copy.is in
    let w = c.emit-o in
    let k : w.result ≤ i + n = omega (arith, w.ensures.next_is, length_take_few (i + n - i) (drop i s)) in
    let l : c.loop-i.o + n ≤ length c.loop-i.out = omega arith in (
      omega arith,
      k,
      w.auto.out ∙ c.loop-i.invariant.2,
      c.loop-i.invariant.3 ∙ after_copy c.args.s.now c.loop-i.out
          c.loop-i.i c.loop-i.o c.loop-i-test.true _ c.rule-m.ensures n _ _ c.in-Copy.is l
          w.ensures,
    )

pub returns : goal.returns
returns c = done _ _ _ (c.loop-i.invariant.3 ∙ whole_none _ _ _ c.loop-i-test.false) (omega arith)
