-- The requests of the code as plain ones.
use Rattle.std.specs.Prelude.{map, string_bytes}
use Rattle.command_words.specs.declared.commands.Command.{Command}
use Rattle.command_words.specs.declared.commands.Command.TheVariants as commands
use Rattle.lisa_outcomes.specs.RunViews.{names_of}
use Rattle.command_words.specs.Requests.{Request, Format, Check, Verilog, Assemble, Link, Disassemble, Generate, Soak, Export, Import, Replay, Occupancy, Simulate, Clock}

abbrev pub request_of : Command → Request
request_of (commands.Format description) = Format description.now
request_of (commands.Check description) = Check description.now
request_of (commands.Verilog description) = Verilog description.now
request_of (commands.Assemble description source) = Assemble description.now source.now
request_of (commands.Link description objects) = Link description.now (map string_bytes objects.now)
request_of (commands.Disassemble description image) = Disassemble description.now image.now
request_of (commands.Generate description number count) = Generate description.now number count
request_of (commands.Soak description verilog number count edges) = Soak description.now verilog.now number count edges
request_of (commands.Export format description image memory) = Export format description.now image.now memory.now
request_of (commands.Import format description file memory) = Import format description.now file.now memory.now
request_of (commands.Replay dump) = Replay dump.now
request_of (commands.Occupancy names edges) = Occupancy (names_of names) edges
request_of (commands.Simulate names task) = Simulate task (names_of names)
request_of (commands.Clock names task) = Clock task (names_of names)
