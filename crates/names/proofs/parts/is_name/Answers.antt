use borrow.Author.Tests.{le-leb, lt-leb, ne_eqb}
use Rattle.base.proofs.Bools.{and_false}
use Rattle.names.specs.Names.{part_name}
use Rattle.names.proofs.parts.is_name.Goals as goal

pub returns-then-n-lt2 : goal.returns-then-n-lt2
unfolding part_name
returns-then-n-lt2 c = rw (lt-leb _ _ c.if-n-lt2.true)

pub returns-then-n-gt255 : goal.returns-then-n-gt255
unfolding part_name
returns-then-n-gt255 c = rw (lt-leb _ _ c.if-n-gt255.true, and_false)

pub returns-then-byte_at-eq47 : goal.returns-then-byte_at-eq47
unfolding part_name
returns-then-byte_at-eq47 c =
    let if1 = c.if-n-lt2 in
    rw (
      c.all_segments.ensures,
      ← c.byte_at.ensures,
      c.if-byte_at-eq47.true,
      le-leb _ _ if1.false,
      le-leb _ _
          c.if-n-gt255.false,
    )

pub returns : goal.returns
unfolding part_name
returns c = rw (← c.byte_at.ensures, ne_eqb _ _ c.if-byte_at-eq47.false, and_false)
