-- A start: each way out.
-- Assumes nothing.
use Prim.Native.Nat.{ℕ, ◌+◌, ◌≤◌, ◌<◌}
use mathlib.Core.Path.{◌≡◌}
use mathlib.Core.Bool.{true, false, ◌||◌}
use mathlib.Core.List.{[]}
use native.Mathlib.Omega.{arith}
use lib.Dec.{ltb}
use lib.ListN.{length}
use borrow.Author.Tests.{lt-ltb, le-ltb}
use Rattle.model.specs.Sets.{Bytes}
use Rattle.model.specs.Calls.{Start, done, refused, start_refusal, capacity_limit, overhead}
use Rattle.store.specs.Layout.{format_of, package_format, cap_of}
use Rattle.store.specs.Rows.{rows_of}
use Rattle.store.specs.Packages.{Sound}
use Rattle.contract.specs.Ran.{Ran}
use Rattle.contract.proofs.EmptyRows.{empty_holds}
use Rattle.contract.proofs.Rans.{started, start_refused}

start_2 : (room C : ℕ) → (ltb capacity_limit C || ltb room (C + overhead)) ≡ true → start_refusal room C ≡ 2
unfolding start_refusal
start_2 room C e = rw e

start_0 : (room C : ℕ) → (ltb capacity_limit C || ltb room (C + overhead)) ≡ false → start_refusal room C ≡ 0
unfolding start_refusal
start_0 room C e = rw e

pub start_big : (p : Bytes) (C : ℕ) → capacity_limit < C → Ran (Start C) p (refused 2) p
start_big p C h = start_refused C p 2 (start_2 (length p) C (rw (lt-ltb capacity_limit C h))) (λ z. omega arith)

pub start_short : (p : Bytes) (C : ℕ) → C ≤ capacity_limit → length p < C + overhead → Ran (Start C) p (refused 2) p
start_short p C h k = start_refused C p 2 (start_2 (length p) C (rw (le-ltb capacity_limit C h, lt-ltb (length p) (C + overhead) k))) (λ z. omega arith)

pub start_done : (p q : Bytes) (C : ℕ) → C ≤ capacity_limit → C + overhead ≤ length p
    → Sound q × (rows_of q ≡ []) × (cap_of q ≡ C) × (format_of q ≡ package_format) → length q ≡ length p → Ran (Start C) p done q
start_done p q C h k i l =
    started C p q (start_0 (length p) C (rw (le-ltb capacity_limit C h, le-ltb (length p) (C + overhead) k))) l
    (empty_holds C h q i.0 i.1 i.2 i.3)
