use Rattle.checked_descriptions.specs.ToolViews.{checked_of}
use Rattle.verilog_command.proofs.Replying.{text_replies, end_replies}
use Rattle.verilog_command.proofs.writing.write_module.Goals as goal

pub returns-in-Ok : goal.returns-in-Ok
returns-in-Ok g c = text_replies (checked_of c.args.tools.now) _ _ _ _ _ _ c.in-Ok.ensures.text (rw c.deref.ensures.value at c.write_text.ensures)

pub returns-in-Err : goal.returns-in-Err
returns-in-Err g c = end_replies (checked_of c.args.tools.now) c.in-Err.end _ _ c.in-Err.ensures.end
