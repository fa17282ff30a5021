use mathlib.Core.Path.{refl}
use borrow.Author.Rules.{rules}
use Rattle.streams.proofs.RowListings.{listing_begin, listing_near, listing_more, listed_end}
use Rattle.streams.proofs.listing.put_lines.Goals as goal

pub loop-i-init : goal.loop-i-init
loop-i-init c = (refl, listing_begin _ _ _ _ _)

pub put_line-at-requires : goal.put_line-at-requires
put_line-at-requires c = search listing_near

pub loop-i-preserved : goal.loop-i-preserved
loop-i-preserved c = search (listing_more, rules)

pub returns : goal.returns
returns c = search listed_end
