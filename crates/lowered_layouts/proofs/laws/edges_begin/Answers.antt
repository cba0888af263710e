use Rattle.lowered_layouts.proofs.Starting.{rooms, edge_begins}
use Rattle.lowered_layouts.proofs.laws.edges_begin.Goals as goal

pub returns-clause-room : goal.returns-clause-room
returns-clause-room c d pins memory s f has = rooms d s f has

pub returns-clause-held : goal.returns-clause-held
returns-clause-held c d p pins memory old contents count fit pinned = edge_begins d p pins memory old contents count fit pinned
