use Rattle.description_graph.proofs.Acyclic.{acyclic}
use Rattle.description_graph.proofs.laws.nodes_are_acyclic.Goals as goal

pub returns : goal.returns
returns c = λ d next graph none. acyclic d next graph none
