use Rattle.std.proofs.Common.{sym, ◌∙◌, arith}
use Rattle.std.proofs.lemmas.Option.{MatchOption-at_none}
use Rattle.chars.proofs.Tiles.{tiled_step, tiled_stop, tiled_end}
use Rattle.markup.specs.Marks.{value_unit}
use Rattle.markup.proofs.values.is_quotable.Goals as goal

pub loop-i-init : goal.loop-i-init
loop-i-init c = c.skip_plain-i.ensures

pub returns-in_default : goal.returns-in_default
returns-in_default c =
    sym (c.loop-i.invariant.1 ∙ tiled_stop value_unit _ _ c.loop-i-test.true (MatchOption-at_none _ _ c.in_default.is c.unit_length.ensures))

pub loop-i-preserved : goal.loop-i-preserved
loop-i-preserved c =
    let e = c.in-Some.ensures in
    (e.2, c.loop-i.invariant.1 ∙ tiled_step value_unit _ _ _ (sym e.1) (λ z. omega (arith, e.0, z)) e.2)

pub returns : goal.returns
returns c = sym (c.loop-i.invariant.1 ∙ tiled_end value_unit _ c.loop-i.i c.loop-i-test.false)
