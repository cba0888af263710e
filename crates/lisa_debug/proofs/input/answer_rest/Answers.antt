use Rattle.std.proofs.Common.{rules}
use Rattle.lisa_debug.proofs.Readings.{finishes_none, finishes_line, finishes_part}
use Rattle.lisa_debug.proofs.input.answer_rest.Goals as goal

pub returns-then-is_empty-clause-finishes : goal.returns-then-is_empty-clause-finishes
returns-then-is_empty-clause-finishes g c course start taken st had = finishes_none _ (search rules) st had

pub returns-in_err-line-clause-finishes : goal.returns-in_err-line-clause-finishes
returns-in_err-line-clause-finishes g c course start taken st had = finishes_part _ _ c.from_residual.ensures.1 (search rules) st had c.in_err-line.ensures.puts

pub returns-clause-finishes : goal.returns-clause-finishes
returns-clause-finishes g c course start taken st had = finishes_line _ (search rules) st had c.in_ok-line.ensures.puts
