-- Three runs of the program: one that writes a module, one that prints what its description does, and one that prints what the module does.
use Rattle.std.specs.Prelude.{ℕ, ◌≡◌, ◌⊎◌, false, List, [], Some}
use Rattle.lisa_outcomes.specs.declared.status.Status.{Status}
use Rattle.lisa_outcomes.specs.declared.status.Status.TheVariants as statuses
use Rattle.lisa_outcomes.specs.Outcomes.{FileMap, Given}
use Rattle.lisa_outcomes.specs.RunFiles.{RunNames}
use Rattle.engine_commands.specs.declared.tasks.Task.{Task}
use Rattle.headline_laws.specs.Headline.{is_session, AreBytes}
use Rattle.headline_laws.specs.Files.{over_file}
use Rattle.command_words.specs.Requests.{Request, Verilog, Simulate, Clock, Asks}
use Rattle.lisa_cli.specs.Worlds.{World, IsKnown, NoneFailed}
use Rattle.lisa_cli.specs.Headline.{IsAnswer}

-- these files and this input
abbrev pub given : FileMap → (input : List ℕ) → Given
given files input = record { files = files; input = input }

-- a run over these files and this input, whose words ask for this, was done and printed this text, on an output that held nothing before
pub record IsPrinted (files : FileMap) (input : List ℕ) (words : List (List ℕ)) (request : Request) (text : List ℕ) : Type 0 where
  pub asks : Asks words request
  pub world : World
  pub known : IsKnown world request (given files input)
  pub empty : world.writes.out ≡ Some []
  pub printed : world.writes.out_after ≡ Some text
  pub done : IsAnswer world words statuses.Done

-- each run over these files and this input, whose words ask for this, and in which no call fails, is done and prints this text, unless memory
-- is wanted
abbrev pub Prints : FileMap → (input : List ℕ) → (words : List (List ℕ)) → Request → (text : List ℕ) → Type 0
Prints files input words request text =
    (w : World) (status : Status) → IsKnown w request (given files input) → w.writes.out ≡ Some [] → IsAnswer w words status → NoneFailed w request
    → (status ≡ statuses.Done) × (w.writes.out_after ≡ Some text) ⊎ (status ≡ statuses.NoMemory)

-- THE HEADLINE, of runs: where `verilog` on a file printed a text, and another file holds that text then, `clocktrace` on that file prints what
-- `trace` printed on the first, with the same image, schedule and number of edges; `clock` prints what `run` printed, `vvcd` what `vcd` printed,
-- and `vboard`, with the same input, what `board` printed.
abbrev pub RunsPrintAlike : (writing running clocking : List (List ℕ)) → Type 0
RunsPrintAlike writing running clocking =
    (before after : FileMap) (names : RunNames) (verilog written shown : List ℕ) → IsPrinted before [] writing (Verilog names.main) written
    → after names.main ≡ before names.main → after verilog ≡ Some written
    → (task : Task) → is_session task ≡ false → (input : List ℕ) → AreBytes input → IsPrinted after input running (Simulate task names) shown
    → Asks clocking (Clock task (over_file verilog names)) → Prints after input clocking (Clock task (over_file verilog names)) shown
