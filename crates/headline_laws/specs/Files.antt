-- The headline by files: what they hold, and what each command gives for them.
use Rattle.std.specs.Prelude.{ℕ, ◌≡◌, false, List, [], ◌∷◌, Some}
use Rattle.lisa_outcomes.specs.Outcomes.{Outcome, Finished, FileMap}
use Rattle.lisa_outcomes.specs.NamedFiles.{AfterFiles, named, file_at}
use Rattle.lisa_outcomes.specs.RunFiles.{RunNames, run_files, run_bytes}
use Rattle.engine_commands.specs.declared.tasks.Task.{Task}
use Rattle.verilog_command.specs.checked_descriptions.Descriptions.{AfterSpelling, description_limit}
use Rattle.description_commands.specs.Runs.{GivesRun}
use Rattle.module_commands.specs.Clocks.{module_limit, GivesClock}
use Rattle.verilog_command.specs.Modules.{WritesVerilog}
use Rattle.headline_laws.specs.Headline.{is_session, AreBytes}

-- `verilog` on a file gives this text
abbrev pub FileWrites : FileMap → (description text : List ℕ) → Type 0
FileWrites files description text = AfterFiles files (named description description_limit ∷ []) (λ bytes. AfterSpelling (file_at bytes 0) WritesVerilog) (Finished text)

-- what a task gives over the description of a run's files, and over the module
abbrev pub FilesRun : FileMap → Task → RunNames → (input : List ℕ) → Outcome → Type 0
FilesRun files task names input = AfterFiles files (run_files names description_limit) (λ bytes. GivesRun task (run_bytes names bytes) input)

abbrev pub FilesClock : FileMap → Task → RunNames → (input : List ℕ) → Outcome → Type 0
FilesClock files task names input = AfterFiles files (run_files names module_limit) (λ bytes. GivesClock task (run_bytes names bytes) input)

-- the same image and schedule or board, with this file in place of the description's
abbrev pub over_file : List ℕ → RunNames → RunNames
over_file name names = record { main = name; image = names.image; schedule = names.schedule }

-- THE HEADLINE: where `verilog` on a file gave a text, and another file holds that text then, `clocktrace` on that file prints what `trace` prints on
-- the first, with the same image, schedule and number of edges; `clock` what `run` prints, and `vvcd` what `vcd` prints; and `vboard`, with the same
-- board and input, what `board` prints.
abbrev pub FilesPrintAlike : Type 0
FilesPrintAlike =
    (before after : FileMap) (names : RunNames) (verilog text : List ℕ) → FileWrites before names.main text
    → after names.main ≡ before names.main → after verilog ≡ Some text
    → (task : Task) → is_session task ≡ false
    → (input shown : List ℕ) → AreBytes input → FilesRun after task names input (Finished shown) → FilesClock after task (over_file verilog names) input (Finished shown)

-- ---- and nothing else

-- what a task prints over a description is one text, and over a module
abbrev pub RunsPrintOne : Type 0
RunsPrintOne =
    (files : FileMap) (names : RunNames) (task : Task)
    → (input first second : List ℕ) → FilesRun files task names input (Finished first) → FilesRun files task names input (Finished second) → first ≡ second

abbrev pub ClocksPrintOne : Type 0
ClocksPrintOne =
    (files : FileMap) (names : RunNames) (task : Task)
    → (input first second : List ℕ) → FilesClock files task names input (Finished first) → FilesClock files task names input (Finished second) → first ≡ second
