use Rattle.lisa_machine.proofs.Sound.{sound}
use Rattle.lisa_machine.proofs.Falling.{node_ranks}
use Rattle.use_promises.proofs.References.{reference_fits, some_meant, same_sort}
use Rattle.use_promises.proofs.meant.references_resolve.Goals as goal

pub returns-clause-above : goal.returns-clause-above
returns-clause-above c = λ d accepted i e is what. let s = sound d accepted in reference_fits d s.names s.stand i e is what

pub returns-clause-meant : goal.returns-clause-meant
returns-clause-meant c = λ d accepted i e is. let s = sound d accepted in some_meant d s.names s.stand (node_ranks d s.circles) i e is

pub returns-clause-sorts : goal.returns-clause-sorts
returns-clause-sorts c = λ d accepted i j k a b m n first second label.
    let s = sound d accepted in
    same_sort d s.names s.stand s.known s.uses s.kinds m n a b first second label
