use Rattle.graph_paths.proofs.Long.{paths_are_short}
use Rattle.graph_paths.proofs.laws.paths_are_short.Goals as goal

pub returns : goal.returns
returns c = λ next nodes acyclic k a long h. paths_are_short next nodes acyclic k a long h
