use Rattle.verilog_places.specs.Trees.{placed_module}
use Rattle.verilog_expression_reader.specs.Past.{placed_toks}
use Rattle.verilog_module_reader.proofs.ModuleLaws.{module_sound, read_is, fails_only}
use Rattle.verilog_module_reader.proofs.reading.read_placed.Goals as goal

pub returns-in-Ok-clause-found : goal.returns-in-Ok-clause-found
returns-in-Ok-clause-found c = let s = module_sound 128 (placed_toks c.args.tokens.now) (placed_module c.in-Ok.m) c.in-Ok.ensures.exact in record { spells = s.spells; deep = s.deep }

pub returns-in-Ok-clause-only : goal.returns-in-Ok-clause-only
returns-in-Ok-clause-only c = λ fit m s. read_is (placed_toks c.args.tokens.now) c.in-Ok.m m c.in-Ok.ensures.exact fit s

pub returns-in-Err-clause-only : goal.returns-in-Err-clause-only
returns-in-Err-clause-only c = λ fit m s. fails_only (placed_toks c.args.tokens.now) c.in-Err.missed c.fault.result m c.in-Err.ensures.exact c.fault.ensures.kind fit s
