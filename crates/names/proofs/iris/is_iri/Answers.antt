use mathlib.Core.Path.{sym, ap, ◌∙◌}
use native.Mathlib.Omega.{arith}
use lib.Seq.{length-take-le}
use borrow.Author.Tests.{lt-leb}
use Rattle.chars.specs.Bytes.{number_sign, member}
use Rattle.chars.specs.Lists.{lacks}
use Rattle.chars.specs.declared.search.Alphabet.TheVariants.{SchemeEnd}
use Rattle.base.proofs.Bools.{and_false}
use Rattle.chars.proofs.Searches.{first_le}
use Rattle.names.specs.Iris.{iri}
use Rattle.names.proofs.IriParts.{iri_is}
use Rattle.names.proofs.iris.is_iri.Goals as goal

pub returns-then-n-gt255 : goal.returns-then-n-gt255
unfolding iri
returns-then-n-gt255 c = rw (lt-leb _ _ c.if-n-gt255.true, and_false)

pub slice_bounds-is_scheme-end : goal.slice_bounds-is_scheme-end
slice_bounds-is_scheme-end c =
    let s = c.args.s.now in
    sym (length-take-le _ s (omega (arith, c.first_by-k.ensures, first_le (member SchemeEnd) s)))

pub returns : goal.returns
returns c =
    let if1 = c.if-n-gt255 in
    iri_is _ c.first_by-k.result _ _ _ _ if1.false c.first_by-k.ensures c.all_units.ensures
    (c.has_no.ensures ∙ ap (lacks number_sign) c.after.ensures) c.byte_at.ensures c.is_scheme.ensures
