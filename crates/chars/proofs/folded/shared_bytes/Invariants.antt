use Rattle.chars.specs.FoldedNames.{SharedSome}
use Rattle.chars.proofs.folded.shared_bytes.Given as goal

abbrev pub invariant-loop-i : goal.invariant-loop-i
invariant-loop-i g l = SharedSome l.a l.q l.from l.i
