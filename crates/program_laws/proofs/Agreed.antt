-- The headline of runs.
use Rattle.std.proofs.Common.{◌≡◌, ◌∙◌, ℕ, List, [], Some, ap, subst, inl, inr, ⊎_elim}
use Rattle.lisa_outcomes.specs.declared.status.Status.{Status}
use Rattle.lisa_outcomes.specs.declared.status.Status.TheVariants as statuses
use Rattle.lisa_outcomes.specs.Outcomes.{Finished, FileMap}
use Rattle.engine_commands.specs.declared.tasks.Task.{Task}
use Rattle.lisa_outcomes.specs.RunFiles.{RunNames}
use Rattle.headline_laws.specs.Files.{over_file, FilesClock, FilesPrintAlike}
use Rattle.command_words.specs.Requests.{Verilog, Simulate, Clock, Asks}
use Rattle.lisa_cli.specs.Worlds.{World, IsKnown}
use Rattle.lisa_cli.specs.Headline.{IsAnswer}
use Rattle.program_laws.specs.Agreements.{given, Prints, RunsPrintAlike}
use Rattle.program_laws.proofs.Clocked.{AreApart, one_text}
use Rattle.program_laws.proofs.Printed.{holds, AskForOne, done_gives, printed_gives}

module _ (unique : AreApart) (words : List (List ℕ)) (one : AskForOne words) (files : FileMap) (task : Task) (input : List ℕ) (names : RunNames) (shown : List ℕ) (asks : Asks words (Clock task names)) (gives : FilesClock files task names input (Finished shown)) where
  module _ (w : World) (known : IsKnown w (Clock task names) (given files input)) (empty : w.writes.out ≡ Some []) where
    -- a run that is done prints the text that is given
    done_prints : IsAnswer w words statuses.Done → w.writes.out_after ≡ Some shown
    done_prints answer =
        let done = done_gives w words (Clock task names) files input one asks known answer in
        holds w.writes.out w.writes.out_after done.0 empty done.2 ∙ ap (λ (text : List ℕ). Some text) (one_text unique files task names input done.0 shown done.1 gives)

  pub prints : Prints files input words (Clock task names) shown
  prints w status known empty answer none = ⊎_elim
      (λ d. inl (d, done_prints w known empty (subst (λ (s : Status). IsAnswer w words s) d answer)))
      (λ m. inr m)
      (answer.done_always (Clock task names) (given files input) shown asks known gives none)

pub agree : AreApart → FilesPrintAlike → (writing running clocking : List (List ℕ)) → AskForOne writing → AskForOne running → AskForOne clocking → RunsPrintAlike writing running clocking
agree unique alike writing running clocking one two three before after names verilog written shown wrote same held task plain input bytes ran asks =
    prints unique clocking three after task input (over_file verilog names) shown asks
    (alike before after names verilog written (printed_gives before [] writing (Verilog names.main) written one wrote) same held task plain input shown bytes (printed_gives after input running (Simulate task names) shown two ran))
