use mathlib.Core.Path.{sym, ◌∙◌}
use borrow.Author.Tests.{ne_eqb}
use Rattle.base.proofs.Bools.{and_false, and_right_true}
use Rattle.chars.proofs.Derivability.{derivable_is, not_derivable}
use Rattle.chars.proofs.folding.is_derivable.Goals as goal

pub returns-then-byte_at-eq47 : goal.returns-then-byte_at-eq47
returns-then-byte_at-eq47 c =
    let if1 = c.if-n-a in
    c.is_equivalent.ensures ∙ sym
    (derivable_is _ _ if1.true ∙ rw (← c.byte_at.ensures, c.if-byte_at-eq47.true) (and_right_true _))

pub returns-else-byte_at-eq47 : goal.returns-else-byte_at-eq47
returns-else-byte_at-eq47 c = sym (derivable_is _ _ c.if-n-a.true ∙ rw (← c.byte_at.ensures, ne_eqb _ _ c.if-byte_at-eq47.false, and_false))

pub returns-else-n-a : goal.returns-else-n-a
returns-else-n-a c = sym (not_derivable _ _ c.if-n-a.false)
