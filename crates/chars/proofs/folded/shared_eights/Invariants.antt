use Prim.Native.Nat.{◌+◌, ◌*◌, ◌≤◌}
use lib.ListN.{length}
use Rattle.chars.specs.FoldedNames.{SharedSome}
use Rattle.chars.proofs.folded.shared_eights.Given as goal

abbrev pub invariant-loop-k : goal.invariant-loop-k
invariant-loop-k g l = (l.from + 8 * l.m ≤ length l.a) × (l.from + 8 * l.m ≤ length l.q) × SharedSome l.a l.q l.from (l.from + 8 * l.k)
