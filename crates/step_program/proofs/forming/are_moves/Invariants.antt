use Rattle.std.proofs.Common.{◌≡◌, map, drop}
use Rattle.std.specs.List.{list_all}
use Rattle.step_program.specs.Programs.{program_tree, move_of}
use Rattle.step_program.specs.Decided.{is_move}
use Rattle.step_program.proofs.forming.are_moves.Given as goal

abbrev pub invariant-loop-step : goal.invariant-loop-step
invariant-loop-step l = list_all (is_move (program_tree l.program)) (map move_of (drop l.step-index l.program.steps.items)) ≡ list_all (is_move (program_tree l.program)) (map move_of l.program.steps.items)
