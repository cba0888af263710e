use Rattle.step_program.specs.Programs.{program_tree}
use Rattle.checked_descriptions.specs.ToolViews.{checked_of}
use Rattle.verilog_command.proofs.Texts.{text_is}
use Rattle.verilog_command.proofs.writing.module_text.Goals as goal

pub returns-in-Ok-program_text-clause-text : goal.returns-in-Ok-program_text-clause-text
returns-in-Ok-program_text-clause-text c = text_is (checked_of c.args.tools.now) (program_tree c.in-Ok.program) c.in-Ok.ensures.lowered _ c.in-Ok-program_text.ensures
