use borrow.Author.Tests.{lt-ltb, le-ltb}
use Rattle.markup.proofs.forms.note.Goals as goal

pub returns-then-n-lt-PLACES : goal.returns-then-n-lt-PLACES
returns-then-n-lt-PLACES c = rw (lt-ltb c.args.n 257 c.if-n-lt-PLACES.true)

pub returns-else-n-lt-PLACES : goal.returns-else-n-lt-PLACES
returns-else-n-lt-PLACES c = rw (le-ltb c.args.n 257 c.if-n-lt-PLACES.false)
