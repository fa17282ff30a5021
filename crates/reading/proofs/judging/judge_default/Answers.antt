use mathlib.Core.Path.{refl, sym}
use native.Mathlib.Omega.{arith}
use mathlib.Core.List.{[]}
use Rattle.output.proofs.Answering.{refused_on}
use Rattle.markup.specs.declared.entries.Kind.TheVariants.{Types}
use Rattle.model.specs.Reading.{ADefault}
use Rattle.contract.specs.Rows.{set_of, second, default_row, default_rows}
use Rattle.types.proofs.TypeCalls.{as_default, default_fits}
use Rattle.reading.specs.Notes.{shade_default}
use Rattle.reading.proofs.NotedEntries.{field_stopped, noting_judged}
use Rattle.reading.proofs.Shades.{noting_default}
use Rattle.reading.proofs.judging.judge_default.Goals as goal

pub returns-in_err-check_default : goal.returns-in_err-check_default
returns-in_err-check_default c =
    let args = c.args in
    rw (refused_on _ _ c.from_residual.ensures.1)
    (field_stopped default_rows ADefault shade_default (λ _. Unit {0}) Types [] noting_default (as_default args.extension.now args.media.now) tt
    args.pkg.now args.shadow.now args.shadow.now args.room _ c.in_err-check_default.ensures)

pub note_typed-requires : goal.note_typed-requires
note_typed-requires c =
    let fits = default_fits _ _ (sym c.in_ok-check_default.ensures) in
    record { shape = (c.requires.shape.0, c.requires.shape.1, fits.1); key_nonzero = (fits.0, omega arith) }

pub returns : goal.returns
unfolding set_of second default_row
returns c =
    let args = c.args in
    noting_judged default_rows ADefault shade_default (λ _. Unit {0}) Types [] noting_default (as_default args.extension.now args.media.now) tt
    args.pkg.now args.shadow.now c.note_typed.new.shadow args.room (sym c.in_ok-check_default.ensures)
    args.left _ _ refl c.note_typed.ensures.sought c.requires.left_in c.note_typed.result c.note_typed.ensures.noted
