use mathlib.Core.Path.{sym, ◌∙◌}
use Rattle.std.proofs.lemmas.Result.{err_from_is_err_and}
use Rattle.base.specs.Buffer.{part}
use Rattle.chars.specs.Bytes.{ascii}
use Rattle.markup.proofs.Rests.{stands_within}
use Rattle.markup.proofs.TagEnds.{end_none, end_off, name_reached, end_on}
use Rattle.markup.proofs.tags.end_tag.Goals as goal

pub returns-then-not-stands : goal.returns-then-not-stands
returns-then-not-stands c = end_none _ _ c.requires.0 _ _ c.stands.ensures c.if-not-stands.true

pub expected-requires : goal.expected-requires
expected-requires c = stands_within _ _ (ascii "</") c.requires.0 (sym c.stands.ensures ∙ c.if-not-stands.false)

pub blanks_end-requires : goal.blanks_end-requires
unfolding part
blanks_end-requires c =
    (name_reached _ _ c.requires.0 _ _ c.stands.ensures c.if-not-stands.false _
    c.expected.ensures _ c.in_ok-e.was).1

pub returns : goal.returns
unfolding part
returns c =
    end_on _ _ c.requires.0 _ _ c.stands.ensures c.if-not-stands.false _
    c.expected.ensures _ c.in_ok-e.was _ c.blanks_end.ensures _ c.expected-2.ensures

pub returns-in_err-e : goal.returns-in_err-e
unfolding part
returns-in_err-e c =
    let p = err_from_is_err_and c.from_residual.result c.from_residual.ensures.1 in
    rw (p.1, p.2)
    (end_off _ _ c.requires.0 _ _ c.stands.ensures c.if-not-stands.false _
    c.expected.ensures _ c.in_err-e.was)
