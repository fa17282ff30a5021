use Rattle.contract.proofs.Opening.{passes, fails}
use Rattle.contract.proofs.gate.check_package.Goals as goal

pub returns-then-is_package : goal.returns-then-is_package
returns-then-is_package c = passes _ _ c.is_package.ensures c.if-is_package.true

pub returns : goal.returns
returns c = fails _ _ c.is_package.ensures c.if-is_package.false
