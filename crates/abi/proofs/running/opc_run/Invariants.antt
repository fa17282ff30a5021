use Prim.Native.Nat.{◌-◌}
use mathlib.Core.Path.{◌≡◌}
use lib.ListN.{length}
use Rattle.abi.specs.Turns.{Going}
use Rattle.abi.proofs.running.opc_run.Given as goal

abbrev pub invariant-loop-read : goal.invariant-loop-read
invariant-loop-read l = Going l.script l.initial.pkg l.initial.out l.read l.written l.made l.pkg l.out × (length l.pkg ≡ length l.initial.pkg)

abbrev pub decreases-loop-read : goal.decreases-loop-read
decreases-loop-read l = length l.script - l.read
