use Rattle.lisa_machine.proofs.Sound.{sound}
use Rattle.lisa_machine.proofs.Falling.{node_ranks}
use Rattle.use_promises.proofs.Used.{reads_run, writes_run}
use Rattle.use_promises.proofs.Placed.{target_child}
use Rattle.use_promises.proofs.using.values_run.Goals as goal

pub returns-clause-reads : goal.returns-clause-reads
returns-clause-reads c = λ d accepted o i region scope n stands none at. let s = sound d accepted in reads_run d s.known s.kinds s.names s.stand s.uses o i region scope n stands none at

pub returns-clause-writes : goal.returns-clause-writes
returns-clause-writes c = λ d accepted o i region scope n stands none at. let s = sound d accepted in writes_run d s.known s.kinds s.names s.stand s.uses o i region scope n stands none at

pub returns-clause-targets : goal.returns-clause-targets
returns-clause-targets c = λ d accepted o i region scope n stands none at j e m is. let s = sound d accepted in target_child d s.known s.kinds s.names s.stand s.uses (node_ranks d s.circles) o i region scope n stands none at j e m is
