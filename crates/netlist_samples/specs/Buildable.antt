-- Which programs have a module.
use Rattle.step_program.specs.Programs.{Program}
use Rattle.step_program.specs.WellFormed.{IsWellFormed}
use Rattle.netlist_wires.specs.Tables.{HasDistinctNames}

abbrev pub IsBuildable : Program → Type 0
IsBuildable p = IsWellFormed p × HasDistinctNames p
