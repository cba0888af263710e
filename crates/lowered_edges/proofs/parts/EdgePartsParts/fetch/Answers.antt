use Rattle.lowered_edges.specs.Code.{parts_types}
use Rattle.lowered_edges.proofs.parts.EdgePartsParts.fetch.Goals as goal

pub returns : goal.returns
returns c = c.fetch.ensures (parts_types c.args.self.now)
