-- The files of a command, as the code has them.
use Rattle.std.specs.Prelude.{ℕ, List, map}
use Rattle.std.specs.Global.{Vec}
use Rattle.lisa_outcomes.specs.declared.loading.NamedFile.{NamedFile as File}
use Rattle.lisa_outcomes.specs.NamedFiles.{NamedFile, named}

abbrev pub named_of : File → NamedFile
named_of file = named file.name.now file.limit

abbrev pub all_bytes : Vec (Vec ℕ) → List (List ℕ)
all_bytes all = map (λ bytes. bytes.items) all.items
