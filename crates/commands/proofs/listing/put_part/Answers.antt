use native.Mathlib.Omega.{arith}
use Rattle.commands.proofs.PartLines.{part_sent}
use Rattle.commands.proofs.listing.put_part.Goals as goal

pub type_of-kind-requires : goal.type_of-kind-requires
type_of-kind-requires c = (c.requires.shape, omega (arith, c.short_field-name.ensures.few))

pub put_part_line-requires : goal.put_part_line-requires
put_part_line-requires c =
    let short_field = c.short_field-name in
    (short_field.ensures.few, c.type_of-kind.ensures.few)

pub returns : goal.returns
returns c = search part_sent
