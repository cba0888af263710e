use Rattle.verilog_module_reader.proofs.ModuleLaws.{lexed_fit}
use Rattle.verilog_module_reader.proofs.laws.lexed_tokens_fit.Goals as goal

pub returns : goal.returns
returns c = λ at bytes ts d. lexed_fit d
