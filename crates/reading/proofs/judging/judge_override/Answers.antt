use mathlib.Core.Path.{refl, sym}
use native.Mathlib.Omega.{arith}
use mathlib.Core.List.{[]}
use Rattle.output.proofs.Answering.{refused_on}
use Rattle.markup.specs.declared.entries.Kind.TheVariants.{Types}
use Rattle.model.specs.Reading.{AnOverride}
use Rattle.contract.specs.Rows.{set_of, second, override_row, override_rows}
use Rattle.types.proofs.TypeCalls.{as_override, override_fits}
use Rattle.reading.specs.Notes.{shade_override}
use Rattle.reading.proofs.NotedEntries.{field_stopped, noting_judged}
use Rattle.reading.proofs.Shades.{noting_override}
use Rattle.reading.proofs.judging.judge_override.Goals as goal

pub returns-in_err-check_override : goal.returns-in_err-check_override
returns-in_err-check_override c =
    let args = c.args in
    rw (refused_on _ _ c.from_residual.ensures.1)
    (field_stopped override_rows AnOverride shade_override (λ _. Unit {0}) Types [] noting_override (as_override args.name.now args.media.now) tt
    args.pkg.now args.shadow.now args.shadow.now args.room _ c.in_err-check_override.ensures)

pub note_typed-requires : goal.note_typed-requires
note_typed-requires c =
    let fits = override_fits _ _ (sym c.in_ok-check_override.ensures) in
    record { shape = (c.requires.shape.0, c.requires.shape.1, fits.1); key_nonzero = (fits.0, omega arith) }

pub returns : goal.returns
unfolding set_of second override_row
returns c =
    let args = c.args in
    noting_judged override_rows AnOverride shade_override (λ _. Unit {0}) Types [] noting_override (as_override args.name.now args.media.now) tt
    args.pkg.now args.shadow.now c.note_typed.new.shadow args.room (sym c.in_ok-check_override.ensures)
    args.left _ _ refl c.note_typed.ensures.sought c.requires.left_in c.note_typed.result c.note_typed.ensures.noted
