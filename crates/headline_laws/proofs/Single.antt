-- What is printed for the bytes of files is one text.
use Rattle.std.proofs.Common.{◌≡◌, ◌∙◌, ℕ, Bool, true, false, List, [], ◌∷◌, Option, None, Some, Result, Ok, sym, ap, ap₂, subst}
use Rattle.lisa_tree.specs.Descriptions.{DescriptionTree}
use Rattle.lisa_reader.proofs.ByteLaws.{one_description}
use Rattle.lisa_engine.specs.Memory.{Memory}
use Rattle.lisa_engine.specs.ScheduleLine.{Line}
use Rattle.lisa_engine.specs.declared.parts.Item.{Item}
use Rattle.lisa_engine.specs.declared.schedule.ScheduleFault.{ScheduleFault}
use Rattle.lisa_board.specs.Boards.{Devices}
use Rattle.lisa_board.specs.declared.fault.BoardFault.{BoardFault}
use Rattle.lisa_object.specs.declared.parts.Stamped.{Stamped}
use Rattle.lisa_object.specs.Rules.{IsStamped}
use Rattle.lisa_object.specs.Texts.{image_text}
use Rattle.module_commands.proofs.verilog_reader_proofs.TextLaws.{one_spelled}
use Rattle.lisa_outcomes.specs.Outcomes.{Finished, FileMap, passed}
use Rattle.lisa_outcomes.specs.NamedFiles.{NamedFile, AreFiles}
use Rattle.lisa_outcomes.specs.RunFiles.{RunNames, RunBytes, run_files, run_bytes}
use Rattle.engine_commands.specs.declared.tasks.Task.{Task}
use Rattle.engine_commands.specs.Images.{IsImageOf, memories_of}
use Rattle.lisa_engine.specs.Machines.{Machine}
use Rattle.engine_commands.specs.Schedules.{schedule_bytes}
use Rattle.engine_commands.specs.Tasks.{is_on_board, Driver, IsDriver, GivesTask, GivesUnder}
use Rattle.engine_commands.specs.Making.{GivesMade}
use Rattle.verilog_command.specs.checked_descriptions.Checked.{Checked, AfterChecks}
use Rattle.verilog_command.specs.checked_descriptions.Descriptions.{description_limit}
use Rattle.description_commands.specs.Runs.{described_machine, GivesChecked, GivesRun}
use Rattle.module_commands.specs.Designs.{Design, IsDesign, clock_machine}
use Rattle.module_commands.specs.Clocks.{module_limit, GivesClock}
use Rattle.headline_laws.specs.Files.{FilesRun, FilesClock}
use Rattle.headline_laws.proofs.Meaning.{finished_same}
use Rattle.headline_laws.proofs.Written.{AreUnique}

-- ---- over a machine

lines_same : (a b : List Line) → ◌≡◌ {A = Result (List Line) ScheduleFault} (Ok a) (Ok b) → a ≡ b
lines_same a b e = cc

boards_same : (a b : Devices) → ◌≡◌ {A = Result Devices BoardFault} (Ok a) (Ok b) → a ≡ b
boards_same a b e = cc

-- bytes write one schedule, and one board
driver_one : (board : Bool) (items pins : List Item) (bytes : List ℕ) (x y : Driver board) → IsDriver board items pins bytes x → IsDriver board items pins bytes y → x ≡ y
driver_one true items pins bytes x y read again = boards_same x y (sym read ∙ again)
driver_one false items pins bytes x y read again = lines_same x y (sym read ∙ again)

module _ (task : Task) (input first second : List ℕ) where
  under_one : (m : Machine) (third : List ℕ) → GivesUnder task m third input (Finished first) → GivesUnder task m third input (Finished second) → first ≡ second
  under_one m third (passed {a = d} read x) (passed {a = e} again y) =
      finished_same first second
      (x ∙ sym (subst (λ (driver : Driver (is_on_board task)). GivesTask task m input driver (Finished second)) (driver_one (is_on_board task) m.items m.pins third e d again read) y))

  made_one : (wanted : Machine) (memories : List Memory) (third : List ℕ) → GivesMade task wanted memories third input (Finished first) → GivesMade task wanted memories third input (Finished second)
      → first ≡ second
  made_one wanted memories third (passed {a = m} made x) (passed {a = n} again y) =
      under_one wanted third (subst (λ (machine : Machine). GivesUnder task machine third input (Finished first)) made.1 x)
      (subst (λ (machine : Machine). GivesUnder task machine third input (Finished second)) again.1 y)

-- ---- images and files

-- a text is that of one image
abbrev pub ImagesUnique : Type 0
ImagesUnique = (s t : Stamped) → IsStamped s → IsStamped t → image_text s ≡ image_text t → s ≡ t

module _ (images : ImagesUnique) where
  image_one : (bytes : Option (List ℕ)) (x y : Option Stamped) → IsImageOf bytes x → IsImageOf bytes y → x ≡ y
  image_one None x y is other = is ∙ sym other
  image_one (Some bytes) x y is other = is.1 ∙ ap (λ (s : Stamped). Some s) (images is.0 other.0 is.2 other.2 (sym is.3 ∙ other.3)) ∙ sym other.1

  memories_one : (bytes : Option (List ℕ)) (x y : Option Stamped) (a b : List Memory) → IsImageOf bytes x → IsImageOf bytes y → a ≡ memories_of x → b ≡ memories_of y → a ≡ b
  memories_one bytes x y a b is other same again = same ∙ ap memories_of (image_one bytes x y is other) ∙ sym again

some_same : (a b : List ℕ) → Some a ≡ Some b → a ≡ b
some_same a b e = cc

files_one : (files : FileMap) (named : List NamedFile) (xs ys : List (List ℕ)) → AreFiles files named xs → AreFiles files named ys → xs ≡ ys
files_one files [] xs ys are again = are ∙ sym again
files_one files (file ∷ named) xs ys are again =
    are.2
    ∙ ap₂ (λ (x : List ℕ) (rest : List (List ℕ)). x ∷ rest) (some_same are.0 again.0 (sym are.3.0 ∙ again.3.0)) (files_one files named are.1 again.1 are.4 again.4)
    ∙ sym again.2

-- ---- over a module

module _ (images : ImagesUnique) (task : Task) (input first second : List ℕ) where
  design_one : (bytes : RunBytes) (d e : Design) → IsDesign bytes d → IsDesign bytes e → d ≡ e
  design_one bytes d e is other =
      let tree = one_spelled bytes.main d.tree e.tree is.accepted.spelling other.accepted.spelling in
      let memories = memories_one images bytes.image is.image other.image d.memories e.memories is.spelled other.spelled is.memories other.memories in
      λ i. record { tree = tree i; memories = memories i }

  clock_one : (bytes : RunBytes) → GivesClock task bytes input (Finished first) → GivesClock task bytes input (Finished second) → first ≡ second
  clock_one bytes (passed {a = d} is x) (passed {a = e} other y) =
      made_one task input first second (clock_machine d) d.memories (schedule_bytes bytes.schedule) x
      (subst (λ (design : Design). GivesMade task (clock_machine design) design.memories (schedule_bytes bytes.schedule) input (Finished second)) (design_one bytes e d other is) y)

  pub clocks_print_one : (files : FileMap) (names : RunNames) → FilesClock files task names input (Finished first) → FilesClock files task names input (Finished second) → first ≡ second
  clocks_print_one files names (passed {a = xs} are x) (passed {a = ys} again y) =
      clock_one (run_bytes names xs) x
      (subst (λ (all : List (List ℕ)). GivesClock task (run_bytes names all) input (Finished second)) (files_one files (run_files names module_limit) ys xs again are) y)

  -- ---- over a description

  module _ (checks : AreUnique) where
    checked_one : (bytes : RunBytes) (c : Checked) → GivesChecked task bytes input c (Finished first) → GivesChecked task bytes input c (Finished second) → first ≡ second
    checked_one bytes c (passed {a = m} image x) (passed {a = n} other y) =
        made_one task input first second (described_machine c m) m (schedule_bytes bytes.schedule) x
        (subst (λ (memories : List Memory). GivesMade task (described_machine c memories) memories (schedule_bytes bytes.schedule) input (Finished second))
        (memories_one images bytes.image other.image image.image n m other.spelled image.spelled other.are image.are) y)

    tree_one : (bytes : RunBytes) (d : DescriptionTree) → AfterChecks d (GivesChecked task bytes input) (Finished first) → AfterChecks d (GivesChecked task bytes input) (Finished second) → first ≡ second
    tree_one bytes d (passed {a = c} is x) (passed {a = e} other y) =
        checked_one bytes c x (subst (λ (checked : Checked). GivesChecked task bytes input checked (Finished second)) (checks.one d e c other is) y)

    run_one : (bytes : RunBytes) → GivesRun task bytes input (Finished first) → GivesRun task bytes input (Finished second) → first ≡ second
    run_one bytes (passed {a = d} spelled x) (passed {a = e} other y) =
        tree_one bytes d x (subst (λ (tree : DescriptionTree). AfterChecks tree (GivesChecked task bytes input) (Finished second)) (one_description bytes.main e d other spelled) y)

    pub runs_print_one : (files : FileMap) (names : RunNames) → FilesRun files task names input (Finished first) → FilesRun files task names input (Finished second) → first ≡ second
    runs_print_one files names (passed {a = xs} are x) (passed {a = ys} again y) =
        run_one (run_bytes names xs) x
        (subst (λ (all : List (List ℕ)). GivesRun task (run_bytes names all) input (Finished second)) (files_one files (run_files names description_limit) ys xs again are) y)
