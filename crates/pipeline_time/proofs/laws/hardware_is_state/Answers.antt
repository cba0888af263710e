use Rattle.pipeline_time.specs.States.{after}
use Rattle.pipeline_time.proofs.Agree.{agree, edge_agrees, good_past, same_standing}
use Rattle.pipeline_time.proofs.laws.hardware_is_state.Goals as goal

pub returns-clause-stands : goal.returns-clause-stands
returns-clause-stands g c core sound first entries = same_standing core sound (after core first entries) (good_past core sound first entries)

pub returns-clause-edge : goal.returns-clause-edge
returns-clause-edge g c core sound = edge_agrees core sound

pub returns-clause-whole : goal.returns-clause-whole
returns-clause-whole g c core sound = agree core sound
