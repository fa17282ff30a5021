-- The calls on Defaults and Overrides are puts and drops of their sets.
-- Assumes nothing.
use Prim.Native.Nat.{◌≤◌, ◌<◌}
use mathlib.Core.Path.{◌≡◌, refl}
use mathlib.Core.Bool.{not}
use mathlib.Core.List.{[], ◌∷◌}
use native.Mathlib.Omega.{arith}
use lib.ListN.{length}
use borrow.Author.Tests.{not-false}
use Rattle.chars.specs.FoldedNames.{folded_size}
use Rattle.names.specs.Names.{part_name}
use Rattle.names.specs.Types.{extension}
use Rattle.model.specs.Sets.{Bytes}
use Rattle.model.specs.Fields.{default_fields, override_fields, extension_field, part_field}
use Rattle.model.specs.Package.{Default, Override, name_key}
use Rattle.model.specs.Puts.{put_default_refusal, drop_default_refusal, put_override_refusal, drop_override_refusal}
use Rattle.model.specs.Calls.{PutDefault, DropDefault, PutOverride, DropOverride}
use Rattle.contract.specs.Rows.{default_rows, override_rows}
use Rattle.names.proofs.Lengths.{part_name_size, extension_size}
use Rattle.model.proofs.Refusals.{all_none, unmet}
use Rattle.contract.proofs.SetCalls.{Putting, Dropping}

-- an accepted text has a byte at least, and fits the array that it is folded into
abbrev Fitting : Bytes → Type 0
Fitting s = (0 < length s) × (length s ≤ folded_size)

pub extension_fits : (s : Bytes) → extension_field s ≡ 0 → Fitting s
extension_fits s z =
    let n = extension_size s (not-false (extension s) (unmet (not (extension s)) 7 (omega arith) z)) in
    (omega (arith, n.0), omega (arith, n.1))

pub part_fits : (s : Bytes) → part_field s ≡ 0 → Fitting s
part_fits s z =
    let n = part_name_size s (not-false (part_name s) (unmet (not (part_name s)) 4 (omega arith) z)) in
    (omega (arith, n.0), omega (arith, n.1))

module _ (s v : Bytes) where
  abbrev pub as_default : Default
  as_default = record { extension = s; type = v }

  abbrev pub as_override : Override
  as_override = record { name = s; type = v }

  pub putting_default : Putting default_rows (PutDefault s v) as_default (λ _. [])
  unfolding put_default_refusal
  putting_default = record { refusal = λ S. refl; made = λ S. refl }

  pub putting_override : Putting override_rows (PutOverride s v) as_override (λ _. [])
  unfolding put_override_refusal
  putting_override = record { refusal = λ S. refl; made = λ S. refl }

  pub default_fits : default_fields s v ≡ 0 → Fitting s
  unfolding default_fields
  default_fits z = extension_fits s (all_none _ z).0

  pub override_fits : override_fields s v ≡ 0 → Fitting s
  unfolding override_fields
  override_fits z = part_fits s (all_none _ z).0

module _ (s : Bytes) where
  pub dropping_default : Dropping default_rows (DropDefault s) (extension_field s ∷ []) (name_key s)
  unfolding drop_default_refusal
  dropping_default = record { refusal = λ S. refl; made = λ S. refl }

  pub dropping_override : Dropping override_rows (DropOverride s) (part_field s ∷ []) (name_key s)
  unfolding drop_override_refusal
  dropping_override = record { refusal = λ S. refl; made = λ S. refl }
