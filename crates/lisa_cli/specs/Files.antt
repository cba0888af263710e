-- The files of a request, with their limits.
use Rattle.std.specs.Prelude.{List, [], ◌∷◌, map}
use Rattle.lisa_outcomes.specs.NamedFiles.{NamedFile, named}
use Rattle.lisa_outcomes.specs.RunFiles.{run_files, image_limit}
use Rattle.verilog_command.specs.checked_descriptions.Descriptions.{description_limit}
use Rattle.generator_commands.specs.module_commands.Clocks.{module_limit}
use Rattle.generator_commands.specs.assembler_commands.Links.{object_limit}
use Rattle.generator_commands.specs.assembler_commands.Assembled.{source_limit}
use Rattle.generator_commands.specs.engine_commands.Replays.{dump_limit}
use Rattle.memory_commands.specs.Imports.{memory_file_limit}
use Rattle.command_words.specs.Requests.{Request, Format, Check, Verilog, Assemble, Link, Disassemble, Generate, Soak, Export, Import, Replay, Occupancy, Simulate, Clock}

-- the files that it reads, in this order, each with the most bytes that it may have
abbrev pub files_of : Request → List NamedFile
files_of (Format description) = named description description_limit ∷ []
files_of (Check description) = named description description_limit ∷ []
files_of (Verilog description) = named description description_limit ∷ []
files_of (Assemble description source) = named description description_limit ∷ named source source_limit ∷ []
files_of (Link description objects) = named description description_limit ∷ map (λ object. named object object_limit) objects
files_of (Disassemble description image) = named description description_limit ∷ named image image_limit ∷ []
files_of (Generate description number count) = named description description_limit ∷ []
files_of (Soak description verilog number count edges) = named description description_limit ∷ named verilog module_limit ∷ []
files_of (Export format description image memory) = named description description_limit ∷ named image image_limit ∷ []
files_of (Import format description file memory) = named description description_limit ∷ named file memory_file_limit ∷ []
files_of (Replay dump) = named dump dump_limit ∷ []
files_of (Occupancy names edges) = run_files names description_limit
files_of (Simulate task names) = run_files names description_limit
files_of (Clock task names) = run_files names module_limit
