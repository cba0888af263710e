use Rattle.listing_promises.proofs.Commands.{listing_reassembles}
use Rattle.listing_promises.proofs.laws.listings_reassemble.Goals as goal

pub returns : goal.returns
returns c = listing_reassembles c.listings_are_sources.ensures
