use Prim.Native.Nat.{ℕ}
use mathlib.Core.Path.{subst}
use Rattle.output.specs.Sends.{Sent}
use Rattle.model.specs.Sheet.{number_line}
use Rattle.contract.proofs.Opening.{let_in}
use Rattle.commands.proofs.LineRuns.{listing_foreign}
use Rattle.commands.proofs.running.run_list.Goals as goal

pub returns-in-Err : goal.returns-in-Err
returns-in-Err c =
    listing_foreign _ _ c.in-Err.ensures _ _ _
    (subst (λ (n : ℕ). Sent c.args.out.now 0 (number_line n) c.put_answer.result c.put_answer.new.out) c.number.ensures c.put_answer.ensures)

pub put_listing-requires : goal.put_listing-requires
put_listing-requires c = (let_in _ c.in_default.ensures).shape
