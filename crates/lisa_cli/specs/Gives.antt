-- What each request gives for the files and the input that are there.
use Rattle.std.specs.Prelude.{ℕ, List, drop}
use Rattle.lisa_outcomes.specs.Outcomes.{Outcome, Given}
use Rattle.lisa_outcomes.specs.NamedFiles.{AfterFiles, file_at}
use Rattle.lisa_outcomes.specs.RunFiles.{run_bytes}
use Rattle.verilog_command.specs.checked_descriptions.Descriptions.{AfterSpelling}
use Rattle.generator_commands.specs.description_commands.Formats.{Formats}
use Rattle.generator_commands.specs.description_commands.Checks.{Checks}
use Rattle.generator_commands.specs.description_commands.Runs.{GivesRun}
use Rattle.generator_commands.specs.description_commands.Occupancies.{GivesOccupancy}
use Rattle.verilog_command.specs.Modules.{WritesVerilog}
use Rattle.generator_commands.specs.module_commands.Clocks.{GivesClock}
use Rattle.generator_commands.specs.assembler_commands.Assembled.{GivesObject}
use Rattle.generator_commands.specs.assembler_commands.Links.{GivesLink}
use Rattle.generator_commands.specs.assembler_commands.Listed.{GivesListing}
use Rattle.generator_commands.specs.Generates.{GivesProgram}
use Rattle.generator_commands.specs.Soaks.{GivesSoak}
use Rattle.generator_commands.specs.engine_commands.Replays.{GivesReplay}
use Rattle.memory_commands.specs.Exports.{GivesExport}
use Rattle.memory_commands.specs.Imports.{GivesImport}
use Rattle.command_words.specs.Requests.{Request, Format, Check, Verilog, Assemble, Link, Disassemble, Generate, Soak, Export, Import, Replay, Occupancy, Simulate, Clock}
use Rattle.lisa_cli.specs.Files.{files_of}

-- for the bytes of its files, in their order, and the bytes of the input
abbrev pub GivesOver : Request → (bytes : List (List ℕ)) → (input : List ℕ) → Outcome → Type 0
GivesOver (Format description) bytes input = AfterSpelling (file_at bytes 0) Formats
GivesOver (Check description) bytes input = AfterSpelling (file_at bytes 0) Checks
GivesOver (Verilog description) bytes input = AfterSpelling (file_at bytes 0) WritesVerilog
GivesOver (Assemble description source) bytes input = GivesObject (file_at bytes 0) (file_at bytes 1)
GivesOver (Link description objects) bytes input = GivesLink (file_at bytes 0) (drop 1 bytes)
GivesOver (Disassemble description image) bytes input = GivesListing (file_at bytes 0) (file_at bytes 1)
GivesOver (Generate description number count) bytes input = GivesProgram (file_at bytes 0) number count
GivesOver (Soak description verilog number count edges) bytes input = GivesSoak (file_at bytes 0) (file_at bytes 1) number count edges
GivesOver (Export format description image memory) bytes input = GivesExport format (file_at bytes 0) (file_at bytes 1) memory
GivesOver (Import format description file memory) bytes input = GivesImport format (file_at bytes 0) (file_at bytes 1) memory
GivesOver (Replay dump) bytes input = GivesReplay (file_at bytes 0)
GivesOver (Occupancy names edges) bytes input = GivesOccupancy edges (run_bytes names bytes)
GivesOver (Simulate task names) bytes input = GivesRun task (run_bytes names bytes) input
GivesOver (Clock task names) bytes input = GivesClock task (run_bytes names bytes) input

-- for the files that it names: the first that is too long is told before anything else
abbrev pub Gives : Given → Request → Outcome → Type 0
Gives given request = AfterFiles given.files (files_of request) (λ bytes. GivesOver request bytes given.input)
