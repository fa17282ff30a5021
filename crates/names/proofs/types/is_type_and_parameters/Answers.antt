use mathlib.Core.Path.{sym, ◌∙◌}
use Prim.Native.Nat.{◌≤◌}
use native.Mathlib.Omega.{arith}
use lib.ListN.{length}
use Rattle.chars.specs.Bytes.{semicolon}
use Rattle.chars.specs.Lists.{split}
use Rattle.names.proofs.Tokens.{slash_parts, equals_parts}
use Rattle.names.proofs.Media.{type_headed, stretches_not, stretches_from, stretches_within, stretches_last, stretches_more}
use Rattle.names.proofs.types.is_type_and_parameters.Goals as goal
use Rattle.names.proofs.types.is_type_and_parameters.Goals.{Else-e-n}

-- the pair ends within s
within : (c : Else-e-n) → c.in-Some.e ≤ length c.args.s.now
within c =
    let inv = c.loop-e.invariant in
    stretches_within _ inv.2 _ _ inv.0 _ (sym c.in-Some.is ∙ c.pair_end.ensures)

pub loop-e-init : goal.loop-e-init
loop-e-init c = (omega arith, type_headed (split semicolon c.args.s.now), slash_parts)

pub returns-in_default : goal.returns-in_default
returns-in_default c =
    let inv = c.loop-e.invariant in
    sym (inv.1 ∙ stretches_not _ inv.2 _ _ inv.0 (sym c.in_default.is ∙ c.pair_end.ensures))

pub returns-then-e-n : goal.returns-then-e-n
returns-then-e-n c =
    let inv = c.loop-e.invariant in
    sym (inv.1 ∙ stretches_last _ inv.2 _ _ inv.0 _ (sym c.in-Some.is ∙ c.pair_end.ensures) c.if-e-n.true)

pub overflow_add-i : goal.overflow_add-i
overflow_add-i c = omega (arith, within c)

pub loop-e-smaller : goal.loop-e-smaller
loop-e-smaller c =
    let inv = c.loop-e.invariant in
    omega (arith, within c, stretches_from _ inv.2 _ _ inv.0 _ (sym c.in-Some.is ∙ c.pair_end.ensures))

pub loop-e-preserved : goal.loop-e-preserved
loop-e-preserved c =
    let inv = c.loop-e.invariant in (
      omega (arith, within c),
      inv.1 ∙ stretches_more _ inv.2 _ _ inv.0 _ (sym c.in-Some.is ∙ c.pair_end.ensures) c.if-e-n.false,
      equals_parts,
    )
