use Rattle.verilog_text.specs.Trees.{module_tree}
use Rattle.verilog_text.specs.Faults.{VAccepts}
use Rattle.lisa_outcomes.proofs.Finding.{found_ok}
use Rattle.module_commands.specs.Designs.{IsUnreadModule}
use Rattle.module_commands.proofs.Modules.{unread_module}
use Rattle.module_commands.proofs.designs.module_of.Goals as goal

pub returns-in-Ok-clause-finds : goal.returns-in-Ok-clause-finds
returns-in-Ok-clause-finds c =
    found_ok module_tree (VAccepts c.args.bytes.now) (IsUnreadModule c.args.bytes.now) c.in-Ok.module c.in-Ok.ensures.found (λ m here. c.in-Ok.ensures.only m here) (λ refusal wrong. c.in-Ok.ensures.only_fault wrong.0 wrong.1)

pub returns-in-Err-clause-finds : goal.returns-in-Err-clause-finds
returns-in-Err-clause-finds c = rw c.unread.ensures (unread_module c.args.bytes.now c.in-Err.fault c.in-Err.ensures.fault c.in-Err.ensures.only)
