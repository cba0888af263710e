use Rattle.lowered_time.proofs.Edges.{edge_made, states_made}
use Rattle.lowered_time.proofs.laws.edges_are_made.Goals as goal

pub returns-clause-edge : goal.returns-clause-edge
returns-clause-edge g c core ops layout p meant sound makes first entries pins state entry shows = edge_made core sound ops layout p meant makes first entries pins state entry shows

pub returns-clause-states : goal.returns-clause-states
returns-clause-states g c core ops layout p meant sound makes first image entries shows each = states_made core sound ops layout p meant makes first image entries shows each
