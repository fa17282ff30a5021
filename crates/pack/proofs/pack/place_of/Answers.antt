use mathlib.Core.Path.{sym, ap}
use native.Mathlib.Omega.{arith}
use lib.Seq.{length-take-le}
use Rattle.pack.proofs.Locating.{no_pack, no_authority, no_room_lem, no_end, no_path, located_at}
use mathlib.Core.Bool.{not}
use Rattle.pack.proofs.pack.place_of.Goals as goal

pub slice_bounds-is_pack-end : goal.slice_bounds-is_pack-end
slice_bounds-is_pack-end c =
    let h = c.split-x.ensures in
    sym (length-take-le _ _ (omega (arith, h.a_le, h.b_le, h.p_le, h.q_le)))

pub returns-then-not-is_pack : goal.returns-then-not-is_pack
returns-then-not-is_pack c =
    let args = c.args in
    no_pack args.s.now _ _ _ _ c.split-x.ensures _ c.is_pack.ensures (ap not c.if-not-is_pack.true)

pub returns-then-b-a : goal.returns-then-b-a
returns-then-b-a c =
    let args = c.args in
    no_authority args.s.now _ _ _ _ c.split-x.ensures _ c.is_pack.ensures (ap not c.if-not-is_pack.false) c.if-b-a.true

pub returns-then-b-a-gt767 : goal.returns-then-b-a-gt767
returns-then-b-a-gt767 c =
    let args = c.args in
    no_room_lem args.s.now _ _ _ _ c.split-x.ensures _ c.is_pack.ensures (ap not c.if-not-is_pack.false) c.if-b-a.false
    c.if-b-a-gt767.true

pub returns-then-p-s : goal.returns-then-p-s
returns-then-p-s c =
    let args = c.args in
    no_end args.s.now _ _ _ _ c.split-x.ensures _ c.is_pack.ensures (ap not c.if-not-is_pack.false) c.if-b-a.false
    c.if-b-a-gt767.false c.if-p-s.true

pub returns-then-not-is_path : goal.returns-then-not-is_path
returns-then-not-is_path c =
    let args = c.args in
    no_path args.s.now _ _ _ _ c.split-x.ensures _ c.is_pack.ensures (ap not c.if-not-is_pack.false) c.if-b-a.false
    c.if-b-a-gt767.false c.if-p-s.false _ c.is_path.ensures (ap not c.if-not-is_path.true)

pub returns : goal.returns
returns c =
    let args = c.args in
    located_at args.s.now _ _ _ _ c.split-x.ensures _ c.is_pack.ensures (ap not c.if-not-is_pack.false) c.if-b-a.false
    c.if-b-a-gt767.false c.if-p-s.false _ c.is_path.ensures (ap not c.if-not-is_path.false)
