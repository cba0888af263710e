use Rattle.lowered_time.proofs.Forming.{edge_formed}
use Rattle.lowered_time.proofs.laws.edges_are_formed.Goals as goal

pub returns : goal.returns
returns g c core ops layout p sound owned laid formed lies = edge_formed core sound ops layout p formed laid owned lies
