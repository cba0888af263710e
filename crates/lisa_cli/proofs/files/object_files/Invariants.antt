use Rattle.std.proofs.Common.{◌≡◌, ◌∷◌, map, take}
use Rattle.std.specs.Prelude.{string_bytes}
use Rattle.lisa_outcomes.specs.NamedFiles.{named}
use Rattle.lisa_outcomes.specs.FileViews.{named_of}
use Rattle.verilog_command.specs.checked_descriptions.Descriptions.{description_limit}
use Rattle.generator_commands.specs.assembler_commands.Links.{object_limit}
use Rattle.lisa_cli.proofs.files.object_files.Given as goal

abbrev pub invariant-loop-object : goal.invariant-loop-object
invariant-loop-object l =
    map named_of l.files.items ≡ named l.description description_limit ∷ map (λ object. named object object_limit) (map string_bytes (take l.object-index l.objects))
