use mathlib.Core.Path.{refl, sym}
use native.Mathlib.Omega.{arith}
use Rattle.output.proofs.Answering.{refused_on}
use Rattle.markup.specs.declared.entries.Kind.TheVariants.{Relationships}
use Rattle.model.specs.Reading.{ARelationship}
use Rattle.model.proofs.FieldCuts.{relationship_few}
use Rattle.contract.specs.Rows.{set_of, second, relationship_row, relationship_rows}
use Rattle.contract.proofs.FieldSizes.{source_size}
use Rattle.reading.specs.Notes.{shade_relationship}
use Rattle.reading.proofs.NotedEntries.{field_stopped, noting_judged}
use Rattle.reading.proofs.Shades.{Ours, noting_relationship}
use Rattle.reading.proofs.judging.judge_relationship.Goals as goal

pub returns-in_err-check_own : goal.returns-in_err-check_own
returns-in_err-check_own c =
    let args = c.args in
    let s = args.source.now in
    rw (refused_on _ _ c.from_residual.ensures.1)
    (field_stopped relationship_rows ARelationship shade_relationship (Ours s) Relationships s (noting_relationship s)
    (record { source = s; id = args.id.now; type = args.iri.now; mode = args.mode; target = args.target.now }) refl
    args.pkg.now args.shadow.now args.shadow.now args.room _ c.in_err-check_own.ensures)

pub is_held-taken-requires : goal.is_held-taken-requires
is_held-taken-requires c = (c.requires.shape.0, omega (arith, (source_size _ c.requires.left_in.1).1))

pub overflow_add-size-2 : goal.overflow_add-size-2
overflow_add-size-2 c =
    let args = c.args in
    let n = relationship_few _ args.id.now args.iri.now args.mode args.target.now
    (sym c.in_ok-check_own.ensures) in
    omega (arith, (source_size _ c.requires.left_in.1).1, n.0, n.1)

pub overflow_add-size-3 : goal.overflow_add-size-3
overflow_add-size-3 c =
    let args = c.args in
    let n = relationship_few _ args.id.now args.iri.now args.mode args.target.now
    (sym c.in_ok-check_own.ensures) in
    omega (arith, (source_size _ c.requires.left_in.1).1, n.0, n.1, n.2)

pub returns : goal.returns
unfolding set_of second relationship_row
returns c =
    let args = c.args in
    let s = args.source.now in
    noting_judged relationship_rows ARelationship shade_relationship (Ours s) Relationships s (noting_relationship s)
    (record { source = s; id = args.id.now; type = args.iri.now; mode = args.mode; target = args.target.now }) refl
    args.pkg.now args.shadow.now c.note.new.shadow args.room (sym c.in_ok-check_own.ensures)
    args.left _ _ refl c.is_held-taken.ensures c.requires.left_in.0 c.note.result c.note.ensures
