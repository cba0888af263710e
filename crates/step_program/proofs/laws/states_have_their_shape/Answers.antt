use Rattle.step_program.specs.Effects.{p_first}
use Rattle.step_program.proofs.Fits.{edge_shaped, edges_shaped, first_shaped}
use Rattle.step_program.proofs.laws.states_have_their_shape.Goals as goal

pub returns-clause-edge : goal.returns-clause-edge
returns-clause-edge c p old pins formed shape fits = edge_shaped p old pins formed shape fits

pub returns-clause-states : goal.returns-clause-states
returns-clause-states c p image entries formed distinct rules found fits = edges_shaped p (p_first p image) entries formed (first_shaped p image formed distinct rules found) fits
