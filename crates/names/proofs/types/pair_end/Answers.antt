use mathlib.Core.Path.{refl}
use native.Mathlib.Omega.{arith}
use Rattle.names.proofs.Media.{first_missing, first_within, second_missing, pair_found}
use Rattle.names.proofs.types.pair_end.Goals as goal

pub returns-then-i-from : goal.returns-then-i-from
returns-then-i-from c = first_missing _ c.requires.1 _ _ _ _ c.past_members-i.ensures refl _ c.byte_at.ensures c.if-i-from.true

pub overflow_add-j : goal.overflow_add-j
overflow_add-j c = omega (arith, first_within _ c.requires.1 _ _ _ _ c.past_members-i.ensures refl _ c.byte_at.ensures c.if-i-from.false)

pub returns-then-e-j : goal.returns-then-e-j
returns-then-e-j c =
    second_missing _ c.requires.1 _ _ _ _ c.past_members-i.ensures c.past_members-e.ensures _
    c.byte_at.ensures _ c.byte_at-2.ensures c.if-e-j.true

pub returns : goal.returns
returns c =
    pair_found _ c.requires.1 _ _ _ _ c.past_members-i.ensures c.past_members-e.ensures _
    c.byte_at.ensures _ c.byte_at-2.ensures c.if-i-from.false c.if-e-j.false
