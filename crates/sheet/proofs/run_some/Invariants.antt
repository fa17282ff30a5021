use Rattle.std.proofs.Common.{◌≡◌, ◌-◌, ◌≤◌, length, drop}
use Rattle.sheet.specs.Account.{Ready}
use Rattle.sheet.proofs.run_some.Given as goal

abbrev pub invariant-loop-i : goal.invariant-loop-i
invariant-loop-i l =
    (length l.pkg ≡ length l.initial.pkg) × (length l.line ≡ length l.initial.line) × (length l.out ≡ length l.initial.out) × (l.i ≤ length l.came)
    × Ready l.pkg l.line l.left (drop l.i l.came) l.out l.read l.written

abbrev pub decreases-loop-i : goal.decreases-loop-i
decreases-loop-i l = length l.came - l.i
