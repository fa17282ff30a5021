use Prim.Native.Nat.{ℕ, ◌*◌, ◌-◌, ◌≤◌}
use native.Mathlib.Omega.{arith}
use native.Mathlib.Nat.{mul-le-mul_right}
use Rattle.pieces.proofs.CutCalls.{room_many, room_told}
use Rattle.pieces.proofs.cutting.has_cut_room.Goals as goal

-- the prefixes of at most 255 pieces
few : (n p : ℕ) → n ≤ 256 → (n - 1) * p ≤ 255 * p
few n p h = mul-le-mul_right p (omega arith)

pub returns-then-item_count-n : goal.returns-then-item_count-n
returns-then-item_count-n c =
    let pre = c.requires in
    room_many _ _ _ _ pre.2 c.item_count.ensures c.if-item_count-n.true

pub overflow_mul-result : goal.overflow_mul-result
overflow_mul-result c =
    let a = c.args in
    let pre = c.requires in
    omega (arith, few a.n a.p pre.3, pre.1)

pub overflow_add-result : goal.overflow_add-result
overflow_add-result c =
    let a = c.args in
    let pre = c.requires in
    omega (arith, few a.n a.p pre.3, pre.1, pre.3, c.suffixes_length.ensures)

pub returns : goal.returns
returns c =
    let pre = c.requires in
    room_told _ _ _ _ pre.2 c.item_count.ensures c.if-item_count-n.false _ _ c.free.ensures c.suffixes_length.ensures.0
