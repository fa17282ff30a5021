use native.Mathlib.Numerals.{add-one}
use mathlib.Core.Path.{refl}
use native.Mathlib.Omega.{arith}
use Rattle.contract.proofs.RowEntries.{counted}
use Rattle.contract.proofs.entries.row_count.Goals as goal

pub returns-then-to-from : goal.returns-then-to-from
returns-then-to-from c = counted _ _ _ _ _ (add-one _) c.set_start-from.ensures c.set_start-to.ensures _ (omega arith)

pub returns : goal.returns
returns c = counted _ _ _ _ _ (add-one _) c.set_start-from.ensures c.set_start-to.ensures _ refl
