use mathlib.Core.Path.{sym}
use Rattle.names.specs.Names.{segment}
use Rattle.chars.specs.Lists.{last_byte}
use Rattle.names.proofs.PlainBytes.{segment_known, segment_rest}
use Rattle.names.proofs.parts.is_segment.Goals as goal

pub returns-then-n-eq0 : goal.returns-then-n-eq0
unfolding segment last_byte
returns-then-n-eq0 c = rw c.if-n-eq0.true

pub returns-then-n-known : goal.returns-then-n-known
returns-then-n-known c = sym (segment_known _ _ _ c.requires c.if-n-eq0.false _ c.byte_at-no_dot.ensures c.if-n-known.true)

pub returns : goal.returns
returns c = sym (segment_rest _ _ _ c.requires c.if-n-eq0.false _ c.byte_at-no_dot.ensures _ c.all_units.ensures)
