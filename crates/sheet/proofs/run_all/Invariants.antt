use Rattle.std.proofs.Common.{◌≡◌, [], length}
use Rattle.sheet.specs.Account.{Ready}
use Rattle.sheet.proofs.run_all.Given as goal

abbrev pub invariant-loop-turns : goal.invariant-loop-turns
invariant-loop-turns l =
    (length l.pkg ≡ length l.initial.pkg) × (length l.line ≡ length l.initial.line) × (length l.piece ≡ length l.initial.piece) × (length l.out ≡ length l.initial.out)
    × Ready l.pkg l.line l.n [] l.out l.read l.written

abbrev pub decreases-loop-turns : goal.decreases-loop-turns
decreases-loop-turns l = l.turns
