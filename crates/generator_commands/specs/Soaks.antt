-- What `soak` gives.
use Rattle.std.specs.Prelude.{ℕ, ◌≡◌, List, [], ◌∷◌}
use Rattle.asm_source.specs.Plain.{PlainLine}
use Rattle.lisa_tree.specs.Descriptions.{DescriptionTree}
use Rattle.lisa_engine.specs.Memory.{Memory}
use Rattle.lisa_object.specs.Objects.{PlainObject}
use Rattle.assembler_commands.specs.lisa_assembler.Objects.{IsObjectOf}
use Rattle.verilog_text.specs.Trees.{ModuleTree}
use Rattle.verilog_text.specs.Faults.{VAccepts}
use Rattle.lisa_outcomes.specs.Outcomes.{Outcome, Finished, After}
use Rattle.engine_commands.specs.Images.{IsMissing}
use Rattle.engine_commands.specs.Making.{IsMade}
use Rattle.assembler_commands.specs.checked_descriptions.Descriptions.{AfterSpelling}
use Rattle.assembler_commands.specs.checked_descriptions.Checked.{Checked, AfterChecks}
use Rattle.description_commands.specs.Runs.{described_machine}
use Rattle.module_commands.specs.Designs.{IsUnreadModule, clock_machine}
use Rattle.assembler_commands.specs.Assembled.{AfterSource, IsUnassembled}
use Rattle.assembler_commands.specs.Links.{IsLinked, IsUnlinked, stamped}
use Rattle.generator_commands.specs.Generates.{AfterProgram}
use Rattle.generator_commands.specs.Reports.{report_text, report_of}

-- the outcome of a command that first reads a module
abbrev pub AfterModule : List ℕ → (ModuleTree → Outcome → Type 0) → Outcome → Type 0
AfterModule bytes Then = After (VAccepts bytes) (IsUnreadModule bytes) Then

-- of one that first links an object, of one that assembles lines before, and of one that reads them from a source
abbrev pub AfterLink : DescriptionTree → PlainObject → (List Memory → Outcome → Type 0) → Outcome → Type 0
AfterLink d object Then = After (IsLinked d (object ∷ [])) (IsUnlinked d (object ∷ [])) Then

abbrev pub AfterObject : DescriptionTree → List PlainLine → (List Memory → Outcome → Type 0) → Outcome → Type 0
AfterObject d lines Then = After (IsObjectOf d lines) (IsUnassembled d lines) (λ object. AfterLink d object Then)

abbrev pub AfterImage : DescriptionTree → (source : List ℕ) → (List Memory → Outcome → Type 0) → Outcome → Type 0
AfterImage d source Then = AfterSource source (λ lines. AfterObject d lines Then)

-- the summary of an image that is run over a description and over a module; the first memory that is none of the module's arrays is the
-- refusal
abbrev pub SoaksImage : Checked → ModuleTree → (count edges : ℕ) → List Memory → Outcome → Type 0
SoaksImage c m count edges memories =
    let clock = clock_machine (record { tree = m; memories = memories }) in
    After (IsMade clock memories) (IsMissing clock.arrays memories)
    (λ machine outcome. outcome ≡ Finished (report_text (report_of count edges (stamped c.tree memories) (described_machine c memories) machine)))

-- over a module: the program is drawn first, and then assembled and linked
abbrev pub SoaksModule : (number count edges : ℕ) → Checked → ModuleTree → Outcome → Type 0
SoaksModule number count edges c m = AfterProgram c.tree number count (λ source. AfterImage c.tree source (SoaksImage c m count edges))

-- over a description that is checked: the module is read first
abbrev pub SoaksChecked : (verilog : List ℕ) → (number count edges : ℕ) → Checked → Outcome → Type 0
SoaksChecked verilog number count edges c = AfterModule verilog (SoaksModule number count edges c)

-- over the bytes of a description and of a module: the description is read and checked first
abbrev pub GivesSoak : (description verilog : List ℕ) → (number count edges : ℕ) → Outcome → Type 0
GivesSoak description verilog number count edges = AfterSpelling description (λ d. AfterChecks d (SoaksChecked verilog number count edges))
