use Rattle.lisa_activation_reader.proofs.ActSound.{activation_sound}
use Rattle.lisa_activation_reader.proofs.ActComplete.{acts_complete}
use Rattle.lisa_activation_reader.proofs.laws.activations_are_read.Goals as goal

pub returns-clause-found : goal.returns-clause-found
returns-clause-found c = λ n ts x e. let t = activation_sound n ts x e in (t.front, t.parts, t.spells, t.deep)

pub returns-clause-only : goal.returns-clause-only
returns-clause-only c = λ n ts rest all d le closed. acts_complete d n rest le closed
