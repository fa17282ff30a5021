use native.Mathlib.Omega.{arith}
use Rattle.script.proofs.CallTests.{no_head, not_whole, code_low, code_high, is_called}
use Rattle.script.proofs.heads.next_call.Goals as goal

pub returns-then-s-lt-HEAD_SIZE : goal.returns-then-s-lt-HEAD_SIZE
returns-then-s-lt-HEAD_SIZE c = no_head _ c.if-s-lt-HEAD_SIZE.true

pub returns-then-s-h : goal.returns-then-s-h
returns-then-s-h c = not_whole _ _ c.read_head-h.ensures (omega arith) c.if-s-h.true

pub returns-then-h-lt1 : goal.returns-then-h-lt1
returns-then-h-lt1 c = code_low _ _ c.read_head-h.ensures (omega arith) (omega arith) c.if-h-lt1.true

pub returns-then-h-gt-LAST_CODE : goal.returns-then-h-gt-LAST_CODE
returns-then-h-gt-LAST_CODE c = code_high _ _ c.read_head-h.ensures (omega arith) (omega arith) (omega arith) c.if-h-gt-LAST_CODE.true

pub returns : goal.returns
returns c = is_called _ _ c.read_head-h.ensures (omega arith) (omega arith) (omega arith) (omega arith)
