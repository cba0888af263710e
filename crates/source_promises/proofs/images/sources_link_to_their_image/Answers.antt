use Rattle.source_promises.proofs.Linked.{linked}
use Rattle.source_promises.proofs.images.sources_link_to_their_image.Goals as goal

pub returns : goal.returns
returns c = λ d sources parts objects accepted has are made. linked d accepted has sources parts objects are made
