use Rattle.lowered_edges.specs.Programs.{word_width, edge_program}
use Rattle.lowered_edges.proofs.Lowered.{parts_lowered}
use Rattle.lowered_edges.proofs.Made.{program_arranged, edges_made}
use Rattle.lowered_edges.proofs.laws.programs_make_edges.Goals as goal

pub returns-clause-arranged : goal.returns-clause-arranged
returns-clause-arranged c d types declared wide words = program_arranged d types declared wide words

pub returns-clause-made : goal.returns-clause-made
returns-clause-made c d types declared lowered = edges_made d types declared lowered (parts_lowered d types declared (word_width declared) (edge_program d types declared) lowered)
