use Rattle.verilog_action_reader.specs.Reading.{action}
use Rattle.verilog_action_reader.proofs.ActionSound.{actions_sound}
use Rattle.verilog_action_reader.proofs.ActionComplete.{complete}
use Rattle.verilog_action_reader.proofs.laws.actions_are_read.Goals as goal

pub returns-clause-found : goal.returns-clause-found
returns-clause-found c = λ n ts x e. actions_sound (action n ts) x e

pub returns-clause-only : goal.returns-clause-only
returns-clause-only c = λ closed n ts rest all d deep free. let k = complete d in k.alone n rest deep free
