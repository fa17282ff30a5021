use mathlib.Core.Path.{◌≡◌, ap, ◌∙◌}
use Prim.Native.Nat.{◌/◌, ◌%◌}
use native.Mathlib.Omega.{arith}
use Rattle.base.specs.Buffer.{splice}
use Rattle.store.specs.Buffer.{le4}
use Rattle.store.proofs.bytes.put4.Goals as goal

pub returns : goal.returns
unfolding le4
returns c =
    let a = c.args in
    let e2 : a.v / 65536 % 256 ≡ a.v / 256 / 256 % 256 = omega arith in
    let e3 : a.v / 16777216 % 256 ≡ a.v / 256 / 256 / 256 % 256 = omega arith in
    c.copy_in.ensures ∙ ap (splice a.pkg.now a.at) (c.to_le_bytes.ensures ∙ rw (e2, e3))
