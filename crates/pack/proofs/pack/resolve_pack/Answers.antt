use Rattle.output.specs.declared.refusals.Refusal.TheVariants.{BadTarget}
use Rattle.pack.specs.Pack.{resolve_pack}
use Rattle.pack.proofs.Locating.{located_refused, placed_none}
use Rattle.pack.proofs.pack.resolve_pack.Goals as goal

pub returns-in_default : goal.returns-in_default
returns-in_default c =
    located_refused (resolve_pack c.args.s.now) BadTarget c.args.out.now
    (placed_none c.args.s.now _ c.in_default.is c.place_of.ensures)
