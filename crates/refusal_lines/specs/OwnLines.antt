-- The lines of the faults of the files, of the input and of a program that is drawn.
use Rattle.std.specs.Prelude.{[], ◌∷◌, codes}
use Rattle.lisa_object.specs.declared.faults.GenFault.{GenFault}
use Rattle.lisa_object.specs.declared.faults.GenFault.TheVariants as programs
use Rattle.lisa_outcomes.specs.declared.status.FileFault.{FileFault}
use Rattle.lisa_outcomes.specs.declared.status.FileFault.TheVariants as file_faults
use Rattle.lisa_outcomes.specs.declared.status.InputFault.{InputFault}
use Rattle.lisa_outcomes.specs.declared.status.InputFault.TheVariants as input_faults
use Rattle.refusal_lines.specs.Lines.{Line, line, name}

-- want of memory is no refusal, and has no line of its own
abbrev pub file_line : FileFault → Line
file_line (file_faults.TooLong file) = line (codes "file 1 TooLong") (name (codes "name") file ∷ [])
file_line file_faults.NoMemory = line [] []

abbrev pub input_line : InputFault → Line
input_line input_faults.TooLong = line (codes "input 1 TooLong") []
input_line input_faults.NoMemory = line [] []

abbrev pub program_line : GenFault → Line
program_line programs.NoProgram = line (codes "program 1 NoProgram") []
program_line programs.NoMemory = line [] []
