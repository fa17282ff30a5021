use Rattle.markup.proofs.attributes.own_one.Goals as goal

pub returns-then-is_prefixed : goal.returns-then-is_prefixed
returns-then-is_prefixed c = rw (← c.is_prefixed.ensures, c.if-is_prefixed.true)

pub returns-else-is_prefixed : goal.returns-else-is_prefixed
returns-else-is_prefixed c = rw (← c.is_prefixed.ensures, c.if-is_prefixed.false)
