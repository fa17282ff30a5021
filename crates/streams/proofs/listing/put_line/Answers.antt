use Rattle.streams.proofs.RowListings.{lined_default, lined_override, lined_relationship}
use Rattle.streams.proofs.listing.put_line.Goals as goal

pub returns-then-t-eq-DEFAULT_TAG : goal.returns-then-t-eq-DEFAULT_TAG
returns-then-t-eq-DEFAULT_TAG c = search lined_default

pub returns-then-t-eq-OVERRIDE_TAG : goal.returns-then-t-eq-OVERRIDE_TAG
returns-then-t-eq-OVERRIDE_TAG c = search lined_override

pub returns : goal.returns
returns c = search lined_relationship
