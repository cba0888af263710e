use Rattle.lisa_machine.proofs.Sound.{sound}
use Rattle.lisa_machine.proofs.Falling.{node_ranks, operation_ranks, descent_ends}
use Rattle.lisa_machine.proofs.Forward.{main_is, some_node}
use Rattle.lisa_machine.proofs.ranks.operations_end.Goals as goal

pub returns-clause-nodes : goal.returns-clause-nodes
returns-clause-nodes c = λ d accepted. node_ranks d (sound d accepted).circles

pub returns-clause-operations : goal.returns-clause-operations
returns-clause-operations c = λ d accepted. operation_ranks d (sound d accepted).circles

pub returns-clause-descents : goal.returns-clause-descents
returns-clause-descents c = λ d accepted k a descent. descent_ends d (sound d accepted).circles k a (some_node d (main_is d (sound d accepted).main)) descent
