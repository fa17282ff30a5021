use native.Mathlib.Omega.{arith}
use Rattle.pack.specs.Pack.{escape}
use Rattle.pack.proofs.Escapes.{escape_same}
use Rattle.pack.proofs.pack.put_escape.Goals as goal

pub returns-in-37 : goal.returns-in-37
unfolding escape
returns-in-37 c = rw c.in-37.is c.emit.ensures

pub returns-in-63 : goal.returns-in-63
unfolding escape
returns-in-63 c = rw c.in-63.is c.emit-in-63.ensures

pub returns-in-64 : goal.returns-in-64
unfolding escape
returns-in-64 c = rw c.in-64.is c.emit-in-64.ensures

pub returns-in-58 : goal.returns-in-58
unfolding escape
returns-in-58 c = rw c.in-58.is c.emit-in-58.ensures

pub returns-in-44 : goal.returns-in-44
unfolding escape
returns-in-44 c = rw c.in-44.is c.emit-in-44.ensures

pub returns-in-47 : goal.returns-in-47
unfolding escape
returns-in-47 c = rw c.in-47.is c.emit-in-47.ensures

pub returns-in_default : goal.returns-in_default
returns-in_default c =
    rw (escape_same c.args.b (λ e. omega arith) (λ e. omega arith) (λ e. omega arith) (λ e. omega arith) (λ e. omega arith)
    (λ e. omega arith)) c.emit-in_default.ensures
