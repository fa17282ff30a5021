-- Demand 1, and the test of a buffer.
-- Assumes nothing.
use mathlib.Core.Path.{sym}
use Rattle.store.proofs.PackageTest.{package_short, package_zeros}
use Rattle.contract.proofs.Opening.{is_package_lem}
use Rattle.contract.proofs.Rans.{ran_number}
use Rattle.package.specs.Demand.{EveryCall, EveryTest}

pub every_call : EveryCall
every_call c p q a r = (ran_number c p a q r, r.kept)

pub every_test : EveryTest
every_test = record { made = is_package_lem; short = λ b h. sym (package_short b h); zeros = package_zeros }
