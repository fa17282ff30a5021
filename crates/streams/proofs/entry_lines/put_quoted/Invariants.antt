use Prim.Native.Nat.{◌+◌, ◌-◌, ◌≤◌}
use mathlib.Core.Path.{◌≡◌}
use lib.ListN.{length, take, drop}
use Rattle.chars.specs.Lists.{index_of}
use Rattle.output.specs.Sends.{Sent}
use Rattle.model.specs.Texts.{ampersand, quoted}
use Rattle.streams.proofs.entry_lines.put_quoted.Given as goal

abbrev pub invariant-loop-k : goal.invariant-loop-k
invariant-loop-k l = (l.i ≤ length l.s) × (l.k ≡ l.i + index_of ampersand (drop l.i l.s)) × (length l.out ≡ length l.initial.out) × Sent l.initial.out l.from (quoted (take l.i l.s)) l.at l.out

abbrev pub decreases-loop-k : goal.decreases-loop-k
decreases-loop-k l = length l.s - l.i
