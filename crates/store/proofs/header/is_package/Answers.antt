use Rattle.store.proofs.PackageTest.{package_read, package_short}
use Rattle.store.proofs.header.is_package.Goals as goal

pub returns-then-len-lt-HEAP_START : goal.returns-then-len-lt-HEAP_START
returns-then-len-lt-HEAP_START c = package_short _ c.if-len-lt-HEAP_START.true

pub returns : goal.returns
returns c =
    let if1 = c.if-len-lt-HEAP_START in
    package_read _ _ _ _ _ _ _ _ if1.false c.get4.ensures.0 c.get4-2.ensures.0 c.format.ensures
    c.get4-cap.ensures.0 c.get4-3.ensures.0 c.get4-used.ensures.0 c.get4-end.ensures.0
