-- The files of a run, as the code has them.
use Rattle.std.specs.Prelude.{option_map}
use Rattle.lisa_outcomes.specs.declared.run_files.RunNames.{RunNames as Names}
use Rattle.lisa_outcomes.specs.declared.run_files.RunBytes.{RunBytes as Bytes}
use Rattle.lisa_outcomes.specs.RunFiles.{RunNames, RunBytes}

abbrev pub names_of : Names → RunNames
names_of n = record { main = n.main.now; image = option_map (λ name. name.now) n.image; schedule = option_map (λ name. name.now) n.schedule }

abbrev pub bytes_of : Bytes → RunBytes
bytes_of b = record { main = b.main.now; image = option_map (λ bytes. bytes.now) b.image; schedule = option_map (λ bytes. bytes.now) b.schedule }
