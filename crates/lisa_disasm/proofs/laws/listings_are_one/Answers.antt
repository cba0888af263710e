use Rattle.lisa_disasm.specs.Listings.{listing}
use Rattle.lisa_disasm.proofs.Lined.{lines, some_listing, one_listing}
use Rattle.lisa_disasm.proofs.laws.listings_are_one.Goals as goal

pub returns-clause-some : goal.returns-clause-some
returns-clause-some c = λ d tables image is. (listing (lines d tables is tables.width) image, some_listing d tables is tables.width is.has_width image)

pub returns-clause-one : goal.returns-clause-one
returns-clause-one c = λ d tables image xs ys is. one_listing d tables is image xs ys
