use Rattle.placed_programs.proofs.Spelled.{lines_are_entries}
use Rattle.placed_programs.proofs.laws.lines_are_entries.Goals as goal

pub returns : goal.returns
returns c = λ o is. lines_are_entries o.lines is.lines
