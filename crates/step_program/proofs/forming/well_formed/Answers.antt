use Rattle.std.proofs.Common.{sym, ◌∙◌}
use Rattle.step_program.specs.Programs.{program_tree}
use Rattle.step_program.proofs.Deciding.{formed_back, formed_there}
use Rattle.step_program.proofs.forming.well_formed.Goals as goal

pub returns : goal.returns
returns c = (λ t. formed_back (program_tree c.args.program.now) (sym c.decide.ensures ∙ t), λ w. c.decide.ensures ∙ formed_there (program_tree c.args.program.now) w)
