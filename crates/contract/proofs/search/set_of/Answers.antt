use borrow.Author.Tests.{lt-ltb, le-ltb, eq-eqb, ne_eqb}
use Rattle.contract.specs.Rows.{set_of}
use Rattle.contract.proofs.search.set_of.Goals as goal

pub returns-then-t-lt-DEFAULT_TAG : goal.returns-then-t-lt-DEFAULT_TAG
unfolding set_of
returns-then-t-lt-DEFAULT_TAG c = rw (lt-ltb _ _ c.if-t-lt-DEFAULT_TAG.true)

pub returns-then-t-eq-DEFAULT_TAG : goal.returns-then-t-eq-DEFAULT_TAG
unfolding set_of
returns-then-t-eq-DEFAULT_TAG c = rw (le-ltb _ _ c.if-t-lt-DEFAULT_TAG.false, eq-eqb _ _ c.if-t-eq-DEFAULT_TAG.true)

pub returns-then-t-eq-OVERRIDE_TAG : goal.returns-then-t-eq-OVERRIDE_TAG
unfolding set_of
returns-then-t-eq-OVERRIDE_TAG c = rw (le-ltb _ _ c.if-t-lt-DEFAULT_TAG.false, ne_eqb _ _ c.if-t-eq-DEFAULT_TAG.false, eq-eqb _ _ c.if-t-eq-OVERRIDE_TAG.true)

pub returns : goal.returns
unfolding set_of
returns c = rw (le-ltb _ _ c.if-t-lt-DEFAULT_TAG.false, ne_eqb _ _ c.if-t-eq-DEFAULT_TAG.false, ne_eqb _ _ c.if-t-eq-OVERRIDE_TAG.false)
