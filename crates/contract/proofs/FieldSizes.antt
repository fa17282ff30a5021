-- A source has a byte at least, and 255 at most.
-- Assumes nothing.
use Prim.Native.Nat.{ℕ, ◌≤◌, ◌<◌}
use mathlib.Core.Path.{◌≡◌, refl, ap}
use mathlib.Core.Bool.{Bool, true, false, cond}
use mathlib.Core.List.{List}
use native.Mathlib.Omega.{arith}
use lib.ListN.{length}
use Rattle.chars.specs.Bytes.{ascii}
use Rattle.chars.specs.Lists.{same}
use Rattle.chars.proofs.Equivalence.{same_eq}
use Rattle.names.specs.Names.{part_name, reserved}
use Rattle.names.proofs.Lengths.{part_name_size}
use Rattle.targets.specs.Targets.{source_refusal}

pub source_size : (s : List ℕ) → source_refusal s ≡ 0 → (0 < length s) × (length s ≤ 255)
unfolding source_refusal
source_size s = go (same s (ascii "/")) refl (part_name s) refl
  where
    go : (a : Bool) → same s (ascii "/") ≡ a → (b : Bool) → part_name s ≡ b → ◌≡◌ {A = ℕ} (cond a 0 (cond b (cond (reserved s) 5 0) 4)) 0 →
        (0 < length s) × (length s ≤ 255)
    go true e b f z = let l = ap length (same_eq s (ascii "/") e) in (omega arith, omega arith)
    go false e true f z = let l = part_name_size s f in (omega arith, l.1)
    go false e false f z = absurd (omega arith)
