use Prim.Native.Nat.{◌-◌}
use mathlib.Core.Path.{◌≡◌}
use lib.ListN.{length}
use Rattle.commands.specs.Feeding.{Feeding}
use Rattle.commands.proofs.feeding.feed.Given as goal

abbrev pub invariant-loop-i : goal.invariant-loop-i
invariant-loop-i l =
    (length l.pkg ≡ length l.initial.pkg) × (length l.line ≡ length l.initial.line) × (length l.out ≡ length l.initial.out)
    × Feeding l.initial.pkg l.initial.line l.n l.piece l.from l.initial.out l.m l.i l.at l.pkg l.line l.out

abbrev pub decreases-loop-i : goal.decreases-loop-i
decreases-loop-i l = length l.piece - l.i
