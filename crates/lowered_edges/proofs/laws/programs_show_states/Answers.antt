use Rattle.lowered_edges.specs.Programs.{word_width, edge_program}
use Rattle.lowered_edges.proofs.Lowered.{parts_lowered}
use Rattle.lowered_edges.proofs.Made.{edges_made}
use Rattle.lowered_edges.proofs.Firsts.{program_begins}
use Rattle.lowered_edges.proofs.Shown.{states_are}
use Rattle.lowered_edges.proofs.laws.programs_show_states.Goals as goal

pub returns-clause-first : goal.returns-clause-first
returns-clause-first c d types declared arranged = program_begins d types declared arranged

pub returns-clause-states : goal.returns-clause-states
returns-clause-states c d types declared lowered image rules none entries fit =
    let made = edges_made d types declared lowered (parts_lowered d types declared (word_width declared) (edge_program d types declared) lowered) in
    states_are d types declared (word_width declared) (edge_program d types declared) lowered made (program_begins d types declared lowered.arranged) image rules none entries fit
