use mathlib.Core.Path.{ap}
use lib.ListN.{replicate, get_or}
use borrow.Author.Tests.{eq-eqb}
use Rattle.chars.specs.Bytes.{ascii}
use Rattle.model.specs.Sets.{Bytes}
use Rattle.worked.specs.Last.{tiff_type, joined_from, linked_text}
use Rattle.worked.proofs.WorkedList.{led_end}
use Rattle.worked.proofs.MoreLists.{wrote_output, named_output}
use Rattle.worked.proofs.run_writers.Goals as goal

pub expect-requires : goal.expect-requires
expect-requires c = eq-eqb _ 108 (led_end c.led.result (replicate 48 0) _ c.led.ensures)

pub expect-requires-2 : goal.expect-requires-2
expect-requires-2 c =
    eq-eqb _ 102 (ap (λ (o : Bytes). get_or o 9 0)
    (wrote_output c.typed.result tiff_type _ (replicate 10 0) c.typed.ensures))

pub expect-requires-3 : goal.expect-requires-3
expect-requires-3 c =
    eq-eqb _ 102 (ap (λ (o : Bytes). get_or o 2 0)
    (named_output c.argued.result (ascii "Tif") _ (replicate 3 0) c.argued.ensures))

pub expect-requires-4 : goal.expect-requires-4
expect-requires-4 c =
    eq-eqb _ 100 (ap (λ (o : Bytes). get_or o 2 0)
    (wrote_output c.joined.result joined_from _ (replicate 3 0) c.joined.ensures))

pub expect-requires-5 : goal.expect-requires-5
expect-requires-5 c =
    eq-eqb _ 10 (ap (λ (o : Bytes). get_or o 217 0)
    (wrote_output c.linked.result linked_text _ (replicate 218 0) c.linked.ensures))
