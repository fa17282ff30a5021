use Rattle.pack.specs.Pack.{unfragmented_iri}
use Rattle.pack.proofs.pack.is_unfragmented.Goals as goal

pub returns : goal.returns
unfolding unfragmented_iri
returns c = rw (c.is_package_iri.ensures, c.has_no.ensures)
