use mathlib.Core.Path.{◌≡◌, sym, ap, ◌∙◌}
use mathlib.Core.List.{List}
use Rattle.chars.specs.declared.units.Grammar.{Grammar}
use Prim.Native.Nat.{ℕ, ◌≤◌, ◌+◌}
use native.Mathlib.Omega.{arith}
use lib.ListN.{length, drop, length-drop}
use Rattle.chars.specs.Characters.{unit}
use Rattle.base.proofs.Lists.{take_rest}
use Rattle.chars.proofs.Tiles.{tiled_step, tiled_stop, tiled_end}
use Rattle.chars.proofs.UnitLengths.{unit_le}
use Rattle.names.proofs.units.all_units.Goals as goal
use Rattle.names.proofs.units.all_units.Goals.{After-unit_len-n}

-- past the call: the unit at i lies within s
abbrev After : Type 0
After = After-unit_len-n

abbrev S : After → List ℕ
S a = a.args.s.now

abbrev G : After → Grammar
G a = a.args.g

abbrev I : After → ℕ
I a = a.loop-i.i

here : (a : After) → unit (G a) (drop (I a) (S a)) ≡ a.unit_len-n.result
here a = sym (a.unit_len-n.ensures ∙ ap (unit (G a)) (take_rest (S a) (I a)))

fits : (a : After) → I a + a.unit_len-n.result ≤ length (S a)
fits a = omega (arith, here a, unit_le (G a) (drop (I a) (S a)), length-drop (I a) (S a), a.loop-i-test.true)

pub returns-then-n-eq0 : goal.returns-then-n-eq0
returns-then-n-eq0 c =
    sym (c.loop-i.invariant.1 ∙ tiled_stop (unit (G (goal.at.returns-then-n-eq0 c).After-unit_len-n)) (S (goal.at.returns-then-n-eq0 c).After-unit_len-n) (I (goal.at.returns-then-n-eq0 c).After-unit_len-n) c.loop-i-test.true
    (here (goal.at.returns-then-n-eq0 c).After-unit_len-n ∙ c.if-n-eq0.true))

pub overflow_add-i : goal.overflow_add-i
overflow_add-i c = omega (arith, fits (goal.at.overflow_add-i c).After-unit_len-n)

pub loop-i-preserved : goal.loop-i-preserved
loop-i-preserved c = (
  fits (goal.at.loop-i-preserved c).After-unit_len-n,
  c.loop-i.invariant.1 ∙ tiled_step (unit (G (goal.at.loop-i-preserved c).After-unit_len-n)) (S (goal.at.loop-i-preserved c).After-unit_len-n) (I (goal.at.loop-i-preserved c).After-unit_len-n) c.unit_len-n.result (here (goal.at.loop-i-preserved c).After-unit_len-n) c.if-n-eq0.false
      (fits (goal.at.loop-i-preserved c).After-unit_len-n),
)

pub returns : goal.returns
returns c = sym (c.loop-i.invariant.1 ∙ tiled_end (unit _) _ c.loop-i.i c.loop-i-test.false)
