use Rattle.abi.proofs.Turning.{no_room_lem, call_made}
use borrow.Author.Rules.{rules}
use Rattle.abi.proofs.running.make_next.Goals as goal

pub returns-then-out-end : goal.returns-then-out-end
returns-then-out-end c = search no_room_lem

pub returns : goal.returns
returns c = search (call_made, rules)
