use mathlib.Core.Path.{◌≡◌, sym, ap, ◌∙◌}
use lib.ListN.{length, take}
use Prim.Native.Nat.{◌<◌}
use native.Mathlib.Omega.{arith}
use Rattle.pieces.proofs.ChangedRows.{split_unfit, split_lost, split_done, inserted_as}
use Rattle.pieces.proofs.rows.split_off.Goals as goal
use Rattle.pieces.proofs.rows.split_off.Goals.{Else-not-may_follow}

-- row r is there, of 640 at most
there : (c : Else-not-may_follow) → c.args.r < 640
there c = let s = c.may_follow.ensures.safe c.if-not-may_follow.false in omega (arith, s.1, s.0.few)

pub returns-then-not-may_follow : goal.returns-then-not-may_follow
returns-then-not-may_follow c =
    let e = c.put_suffix-s.ensures.1 in
    split_unfit _ _ _ _ _ _ _ _ (omega (arith, e)) c.may_follow.ensures c.if-not-may_follow.true

pub overflow_add-r : goal.overflow_add-r
overflow_add-r c = omega (arith, there (goal.at.overflow_add-r c).Else-not-may_follow)

pub slice_bounds-insert-end : goal.slice_bounds-insert-end
slice_bounds-insert-end c = c.put_suffix-s.ensures.1 ∙ ap length (sym c.put_suffix-s.ensures.0)

pub insert-requires : goal.insert-requires
insert-requires c =
    let e = c.put_suffix-s.ensures in
    let f : c.put_suffix-s.result ≡ length (take c.put_suffix-s.result c.put_suffix-s.new.out) = e.1 ∙ ap length (sym e.0) in
    let s = c.may_follow.ensures.safe c.if-not-may_follow.false in
    let pre = c.requires in
    record { shape = s.0; room = record { at = s.2.at; more = s.2.more; fits = omega (arith, s.2.fits) }; f0_nonzero = (pre.2, omega (arith, c.piece_tag.ensures)) }

pub overflow_add-r-2 : goal.overflow_add-r-2
overflow_add-r-2 c = omega (arith, there (goal.at.overflow_add-r-2 c).Else-not-may_follow)

pub returns-then-not-is_there : goal.returns-then-not-is_there
returns-then-not-is_there c =
    split_lost _ _ _ _ _ _ _ (inserted_as _ _ _ _ _ _ _ _ c.piece_tag.ensures.0 c.put_suffix-s.ensures.0 c.insert.ensures)
    _ c.is_there.ensures c.if-not-is_there.true

pub overflow_add-r-3 : goal.overflow_add-r-3
overflow_add-r-3 c = omega (arith, there (goal.at.overflow_add-r-3 c).Else-not-may_follow)

pub pass-requires : goal.pass-requires
pass-requires c =
    let s = c.is_there.ensures.safe c.if-not-is_there.false in
    (s.0, omega (arith, s.1), s.1)

pub returns : goal.returns
returns c =
    split_done _ _ _ _ _ _ _ (inserted_as _ _ _ _ _ _ _ _ c.piece_tag.ensures.0 c.put_suffix-s.ensures.0 c.insert.ensures)
    _ c.pass.ensures
