-- What `clock` and `clocktrace` print is one text.
use Rattle.std.proofs.Common.{◌≡◌, ◌∙◌, ℕ, Bool, true, false, List, [], ◌∷◌, Option, None, Some, Result, Ok, sym, ap, subst}
use Rattle.lisa_object.specs.declared.parts.Stamped.{Stamped}
use Rattle.lisa_object.specs.Rules.{IsStamped}
use Rattle.lisa_object.specs.Texts.{image_text}
use Rattle.lisa_engine.specs.Memory.{Memory}
use Rattle.lisa_engine.specs.Schedules.{schedule_of}
use Rattle.lisa_engine.specs.declared.parts.Item.{Item}
use Rattle.lisa_board.specs.BoardLines.{board_of}
use Rattle.verilog_reader.proofs.TextLaws.{one_spelled}
use Rattle.lisa_outcomes.specs.Outcomes.{Finished, FileMap, passed}
use Rattle.lisa_outcomes.specs.NamedFiles.{NamedFile, AreFiles}
use Rattle.lisa_outcomes.specs.RunFiles.{RunNames, RunBytes, run_files, run_bytes}
use Rattle.engine_commands.specs.declared.tasks.Task.{Task}
use Rattle.engine_commands.specs.Images.{IsImageOf, memories_of}
use Rattle.lisa_engine.specs.Machines.{Machine}
use Rattle.engine_commands.specs.Schedules.{schedule_bytes}
use Rattle.engine_commands.specs.Tasks.{Driver, is_on_board, IsDriver, GivesTask, GivesUnder}
use Rattle.engine_commands.specs.Making.{GivesMade}
use Rattle.module_commands.specs.Designs.{Design, IsDesign, clock_machine}
use Rattle.module_commands.specs.Clocks.{module_limit, GivesClock}
use Rattle.headline_laws.specs.Files.{FilesClock}

pub some_same : {T : Type 0} (x y : T) → Some x ≡ Some y → x ≡ y
some_same x y e = cc

finished_same : (a b : List ℕ) → Finished a ≡ Finished b → a ≡ b
finished_same a b e = cc

same_value : {A F : Type 0} (r : Result A F) (a b : A) → r ≡ Ok a → r ≡ Ok b → a ≡ b
same_value {A = A} {F = F} r a b e f = let g : ◌≡◌ {A = Result A F} (Ok a) (Ok b) = sym e ∙ f in cc g

-- ---- over a machine

-- what drives the pins is one thing for the bytes of the third file
one_driver : (board : Bool) (items pins : List Item) (third : List ℕ) (a b : Driver board) → IsDriver board items pins third a → IsDriver board items pins third b → a ≡ b
one_driver true items pins third a b x y = same_value (board_of items pins third) a b x y
one_driver false items pins third a b x y = same_value (schedule_of pins third) a b x y

module _ (task : Task) (input : List ℕ) (a b : List ℕ) where
  one_under : (m : Machine) (third : List ℕ) → GivesUnder task m third input (Finished a) → GivesUnder task m third input (Finished b) → a ≡ b
  one_under m third (passed {a = driver} read gives) (passed {a = other} again more) =
      finished_same a b
      (gives ∙ sym (subst (λ (d : Driver (is_on_board task)). GivesTask task m input d (Finished b)) (one_driver (is_on_board task) m.items m.pins third other driver again read) more))

  one_made : (m : Machine) (memories : List Memory) (third : List ℕ) → GivesMade task m memories third input (Finished a) → GivesMade task m memories third input (Finished b) → a ≡ b
  one_made m memories third (passed {a = made} is gives) (passed {a = other} same more) =
      one_under m third (subst (λ (n : Machine). GivesUnder task n third input (Finished a)) is.1 gives) (subst (λ (n : Machine). GivesUnder task n third input (Finished b)) same.1 more)

-- ---- over a module and an image

-- texts are those of one image
abbrev pub AreApart : Type 0
AreApart = (s t : Stamped) → IsStamped s → IsStamped t → image_text s ≡ image_text t → s ≡ t

one_image : AreApart → (bytes : Option (List ℕ)) (s t : Option Stamped) → IsImageOf bytes s → IsImageOf bytes t → s ≡ t
one_image unique None s t x y = x ∙ sym y
one_image unique (Some bytes) s t x y = x.1 ∙ ap (λ (image : Stamped). Some image) (unique x.0 y.0 x.2 y.2 (sym x.3 ∙ y.3)) ∙ sym y.1

same_design : (d e : Design) → d.tree ≡ e.tree → d.memories ≡ e.memories → d ≡ e
same_design d e tree memories = λ i. record { tree = tree i; memories = memories i }

one_design : AreApart → (bytes : RunBytes) (d e : Design) → IsDesign bytes d → IsDesign bytes e → d ≡ e
one_design unique bytes d e x y =
    same_design d e (one_spelled bytes.main d.tree e.tree x.accepted.spelling y.accepted.spelling)
    (x.memories ∙ ap memories_of (one_image unique bytes.image x.image y.image x.spelled y.spelled) ∙ sym y.memories)

one_clock : AreApart → (task : Task) (bytes : RunBytes) (input a b : List ℕ) → GivesClock task bytes input (Finished a) → GivesClock task bytes input (Finished b) → a ≡ b
one_clock unique task bytes input a b (passed {a = d} is gives) (passed {a = e} other more) =
    one_made task input a b (clock_machine d) d.memories (schedule_bytes bytes.schedule) gives
    (subst (λ (x : Design). GivesMade task (clock_machine x) x.memories (schedule_bytes bytes.schedule) input (Finished b)) (one_design unique bytes e d other is) more)

-- ---- over files

same_first : (x y : List ℕ) (xs ys : List (List ℕ)) → x ≡ y → xs ≡ ys → x ∷ xs ≡ y ∷ ys
same_first x y xs ys e f = cc

pub one_files : (files : FileMap) (named : List NamedFile) (a b : List (List ℕ)) → AreFiles files named a → AreFiles files named b → a ≡ b
one_files files [] a b x y = x ∙ sym y
one_files files (file ∷ rest) a b x y =
    x.2 ∙ same_first x.0 y.0 x.1 y.1 (some_same x.0 y.0 (sym x.3.0 ∙ y.3.0)) (one_files files rest x.1 y.1 x.4 y.4) ∙ sym y.2

pub one_text : AreApart → (files : FileMap) (task : Task) (names : RunNames) (input a b : List ℕ) → FilesClock files task names input (Finished a) → FilesClock files task names input (Finished b) → a ≡ b
one_text unique files task names input a b (passed {a = bytes} are gives) (passed {a = others} again more) =
    one_clock unique task (run_bytes names bytes) input a b gives
    (subst (λ (all : List (List ℕ)). GivesClock task (run_bytes names all) input (Finished b)) (one_files files (run_files names module_limit) others bytes again are) more)
