-- The headline by files.
use Rattle.std.proofs.Common.{◌≡◌, ◌≤◌, ◌∙◌, ℕ, false, List, ◌∷◌, length, Option, None, Some, refl, sym, subst}
use Rattle.lisa_outcomes.specs.Outcomes.{Finished, FileMap, IsFile, passed}
use Rattle.lisa_outcomes.specs.NamedFiles.{file_at}
use Rattle.lisa_outcomes.specs.RunFiles.{RunNames, RunBytes, run_bytes}
use Rattle.engine_commands.specs.declared.tasks.Task.{Task}
use Rattle.verilog_command.specs.checked_descriptions.Descriptions.{AfterSpelling}
use Rattle.description_commands.specs.Runs.{GivesRun}
use Rattle.module_commands.specs.Clocks.{module_limit, GivesClock}
use Rattle.verilog_command.specs.Modules.{WritesVerilog}
use Rattle.headline_laws.specs.Headline.{Writes, over, is_session, AreBytes}
use Rattle.headline_laws.specs.Files.{FileWrites, FilesRun, FilesClock, over_file}
use Rattle.headline_laws.proofs.Written.{AreUnique, written_so, print_alike}
use Rattle.headline_laws.proofs.Fitting.{AreLimited, text_fits}

-- the bytes of a file whose text `verilog` gave
pub record IsSource (files : FileMap) (name text : List ℕ) : Type 0 where
  pub bytes : List ℕ
  pub held : files name ≡ Some bytes
  pub writes : Writes bytes text

pub source_of : (files : FileMap) (name text : List ℕ) → FileWrites files name text → IsSource files name text
source_of files name text (passed {a = bytes} are gives) = record {
  bytes = are.0;
  held = are.3.0;
  writes = subst (λ (all : List (List ℕ)). AfterSpelling (file_at all 0) WritesVerilog (Finished text)) are.2 gives;
}

-- that text is no longer than a module may be
pub source_fits : AreUnique → AreLimited → {files : FileMap} {name text : List ℕ} → IsSource files name text → length text ≤ module_limit
source_fits unique limited {text = text} source =
    let run : RunBytes = record { main = source.bytes; image = None; schedule = None } in
    text_fits unique limited run text (written_so run text source.writes)

some_same : {T : Type 0} (x y : T) → Some x ≡ Some y → x ≡ y
some_same x y e = cc

-- the other bytes stay where they are
same_bytes : (main verilog : List ℕ) (image schedule : Option (List ℕ)) (first text : List ℕ) (others : List (List ℕ))
    → over text (run_bytes (record { main = main; image = image; schedule = schedule }) (first ∷ others)) ≡ run_bytes (record { main = verilog; image = image; schedule = schedule }) (text ∷ others)
same_bytes main verilog None schedule first text others = refl
same_bytes main verilog (Some image) schedule first text others = refl

module _ (unique : AreUnique) (before after : FileMap) (names : RunNames) (verilog text : List ℕ) (source : IsSource before names.main text) (same : after names.main ≡ before names.main) (held : IsFile after verilog module_limit text) where
  module _ (task : Task) (silent : is_session task ≡ false) (input shown : List ℕ) (bytes : AreBytes input) where
    -- over the bytes of the files
    over_bytes : (first : List ℕ) (others : List (List ℕ)) → first ≡ source.bytes → GivesRun task (run_bytes names (first ∷ others)) input (Finished shown)
        → GivesClock task (run_bytes (over_file verilog names) (text ∷ others)) input (Finished shown)
    over_bytes first others is gives =
        let run : RunBytes = run_bytes names (first ∷ others) in
        let writes : Writes run.main text = subst (λ (main : List ℕ). Writes main text) (sym is) source.writes in
        subst (λ (files : RunBytes). GivesClock task files input (Finished shown)) (same_bytes names.main verilog names.image names.schedule first text others)
        (print_alike unique run text (written_so run text writes) task silent input bytes shown gives)

    pub files_print_alike : FilesRun after task names input (Finished shown) → FilesClock after task (over_file verilog names) input (Finished shown)
    files_print_alike (passed {a = all} are gives) =
        let is : are.0 ≡ source.bytes = some_same are.0 source.bytes (sym are.3.0 ∙ same ∙ source.held) in
        passed {a = text ∷ are.1} (text, are.1, refl, held, are.4)
        (over_bytes are.0 are.1 is (subst (λ (all : List (List ℕ)). GivesRun task (run_bytes names all) input (Finished shown)) are.2 gives))
