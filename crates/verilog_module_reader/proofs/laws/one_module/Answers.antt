use Rattle.verilog_module_reader.proofs.ModuleLaws as laws
use Rattle.verilog_module_reader.proofs.laws.one_module.Goals as goal

pub returns : goal.returns
returns c = laws.one_module
