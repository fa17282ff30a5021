-- Numbers of eight bytes are two of four side by side.
-- Assumes nothing.
use Prim.Native.Nat.{ℕ, ◌+◌, ◌/◌, ◌%◌, ◌^◌, ◌≤◌}
use mathlib.Core.Path.{◌≡◌, refl}
use mathlib.Core.List.{List}
use native.Mathlib.Omega.{arith}
use lib.ListN.{length}
use Rattle.base.specs.Buffer.{splice}
use Rattle.store.specs.Buffer.{le4}
use Rattle.base.proofs.Writes.{Write, write, join}
use Rattle.store.proofs.Joined.{le4_write}
use Rattle.script.specs.Numbers.{le8}

pub put8_is : (l m o : List ℕ) (a v : ℕ) → a + 8 ≤ length l → m ≡ splice l a (le4 (v % 2 ^ 32)) → o ≡ splice m (a + 4) (le4 (v / 2 ^ 32)) → o ≡ splice l a (le8 v)
unfolding le8
put8_is l m o a v h e f =
    let q = le4_write l m a (v % 2 ^ 32) e (omega arith) in
    (join (a + 4) 4 q (le4_write m o (a + 4) (v / 2 ^ 32) f (omega arith)) refl).is

pub le8_write : (l m : List ℕ) (a v : ℕ) → m ≡ splice l a (le8 v) → a + 8 ≤ length l → Write l m a 8 (le8 v)
unfolding le8 le4
le8_write l m a v e h = write l m a 8 (le8 v) e refl h
