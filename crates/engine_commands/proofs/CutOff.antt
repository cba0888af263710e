-- What stands after a fault of the input stays so where nothing more is put.
use Rattle.std.proofs.Common.{List, [], ℕ, Bool, true, false, Option}
use Rattle.std.specs.Io.KnownBytes.{Keeps}
use Rattle.lisa_io.proofs.Known.{appends_kept}
use Rattle.lisa_engine.specs.Memory.{Memory}
use Rattle.lisa_engine.specs.Machines.{Machine, Course, course_of}
use Rattle.engine_commands.specs.declared.tasks.Task.{Task}
use Rattle.engine_commands.specs.Sessions.{IsCutOff}
use Rattle.engine_commands.specs.Tasks.{is_on_board, Driver, IsCutShort, IsCutUnder}
use Rattle.engine_commands.specs.Making.{IsCutMade}

pub cut_off_kept : (course : Course) (left rest before after sent : Option (List ℕ)) → Keeps after sent → IsCutOff course left rest before after → IsCutOff course left rest before sent
cut_off_kept course left rest before after sent keeps off =
    record { taken = off.taken; consumed = off.consumed; goes_on = record { on = off.goes_on.on; all = appends_kept _ _ _ _ off.goes_on.all keeps } }

pub cut_short_kept : (board : Bool) (m : Machine) (driver : Driver board) (left rest before after sent : Option (List ℕ)) → Keeps after sent
    → IsCutShort board m driver left rest before after → IsCutShort board m driver left rest before sent
cut_short_kept true m devices left rest before after sent keeps nothing = appends_kept before after sent [] nothing keeps
cut_short_kept false m lines left rest before after sent keeps off = cut_off_kept (course_of m lines) left rest before after sent keeps off

pub cut_under_kept : (task : Task) (m : Machine) (third : List ℕ) (left rest before after sent : Option (List ℕ)) → Keeps after sent
    → IsCutUnder task m third left rest before after → IsCutUnder task m third left rest before sent
cut_under_kept task m third left rest before after sent keeps cut =
    (cut.0, cut.1, cut_short_kept (is_on_board task) m cut.0 left rest before after sent keeps cut.2)

pub cut_made_kept : (task : Task) (wanted : Machine) (memories : List Memory) (third : List ℕ) (left rest before after sent : Option (List ℕ)) → Keeps after sent
    → IsCutMade task wanted memories third left rest before after → IsCutMade task wanted memories third left rest before sent
cut_made_kept task wanted memories third left rest before after sent keeps run = record {
  found = run.found;
  cut = cut_under_kept task wanted third left rest before after sent keeps run.cut;
}
