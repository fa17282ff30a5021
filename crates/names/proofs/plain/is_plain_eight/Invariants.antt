use mathlib.Core.Path.{◌≡◌}
use lib.ListN.{take, drop}
use Rattle.chars.specs.Lists.{every}
use Rattle.names.specs.PlainBytes.{plain}
use Rattle.names.proofs.plain.is_plain_eight.Given as goal

abbrev pub invariant-loop-k : goal.invariant-loop-k
invariant-loop-k l = l.plain ≡ every plain (take l.k (drop l.i l.s))
