-- What a put adds to the charge and a drop frees, whichever the kind.
-- Assumes nothing.
use Prim.Native.Nat.{◌+◌, ◌≤◌}
use mathlib.Core.Path.{◌≡◌}
use mathlib.Core.Option.{some}
use native.Mathlib.Omega.{arith}
use Rattle.model.specs.Sets.{Key, lookup, insert, remove}
use Rattle.model.specs.Package.{State, Kind, charge}
use Rattle.model.specs.Puts.{put_in, taken_out}
use Rattle.model.proofs.Sets.{sum_insert, sum_remove}
use Rattle.model.proofs.Lookups.{sum_removed}
use Rattle.model.proofs.KindLaws.{Lawful}

module _ {E : Type 0} (kind : Kind E) (L : Lawful kind) (S : State) where
  pub charge_put : (e : E) → charge (put_in kind S e) ≡ charge S + kind.charge e
  charge_put e = omega (
    arith,
    L.charged S (insert kind.key e (kind.entries S)),
    sum_insert kind.key kind.charge e (kind.entries S),
  )

  -- "Freed charge is usable again."
  pub charge_drop : (k : Key) (e : E) → lookup kind.key k (kind.entries S) ≡ some e → charge (taken_out kind S k) + kind.charge e
      ≡ charge S
  charge_drop k e h =
      omega (arith, L.charged S (remove kind.key k (kind.entries S)), sum_removed kind.key kind.charge k (kind.entries S) e h)

  pub charge_drop_le : (k : Key) → charge (taken_out kind S k) ≤ charge S
  charge_drop_le k = omega (
    arith,
    L.charged S (remove kind.key k (kind.entries S)),
    sum_remove kind.key kind.charge k (kind.entries S),
  )
