use Rattle.names.specs.Iris.{package_iri}
use Rattle.names.proofs.iris.is_package_iri.Goals as goal

pub returns : goal.returns
unfolding package_iri
returns c = rw (c.has_colon_first.ensures, c.is_iri.ensures)
