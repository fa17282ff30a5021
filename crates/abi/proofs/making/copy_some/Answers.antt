use mathlib.Core.Path.{sym}
use lib.Seq.{length-take-le}
use Rattle.abi.proofs.Recording.{some_fits, copied_some}
use Rattle.abi.proofs.making.copy_some.Goals as goal

pub slice_bounds-copy_in-end : goal.slice_bounds-copy_in-end
slice_bounds-copy_in-end c = sym (length-take-le _ _ c.smaller-n.ensures.1)

pub copy_in-requires : goal.copy_in-requires
copy_in-requires c = search some_fits

pub returns : goal.returns
returns c = search copied_some
