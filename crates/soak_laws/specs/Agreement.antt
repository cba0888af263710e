-- The module that `verilog` wrote of a description comes to the state of the description.
use Rattle.std.specs.Prelude.{ℕ, ◌≡◌, List}
use Rattle.lisa_outcomes.specs.Outcomes.{Finished}
use Rattle.verilog_command.specs.checked_descriptions.Descriptions.{AfterSpelling}
use Rattle.verilog_command.specs.Modules.{WritesVerilog}
use Rattle.generator_commands.specs.declared.reports.Report.{Report}
use Rattle.generator_commands.specs.Reports.{report_text}
use Rattle.generator_commands.specs.Soaks.{GivesSoak}

-- what `soak` tells then has one digest for both states
abbrev pub SoaksAgree : Type 0
SoaksAgree =
    (description verilog text : List ℕ) (number count edges : ℕ) → AfterSpelling description WritesVerilog (Finished verilog)
    → GivesSoak description verilog number count edges (Finished text) → (r : Report) × (text ≡ report_text r) × (r.clock ≡ r.state)
