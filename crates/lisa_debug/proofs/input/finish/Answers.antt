use Rattle.lisa_debug.proofs.Readings.{finishes_sent, finishes_exit}
use Rattle.lisa_debug.proofs.input.finish.Goals as goal

pub returns-in_err-answer_rest-clause-finishes : goal.returns-in_err-answer_rest-clause-finishes
returns-in_err-answer_rest-clause-finishes g c course start taken st had = finishes_exit _ _ c.from_residual.ensures.1 (c.in_err-answer_rest.ensures.finishes course start taken st had)

pub returns-clause-finishes : goal.returns-clause-finishes
returns-clause-finishes g c course start taken st had = finishes_sent _ (c.in_ok-answer_rest.ensures.finishes course start taken st had) c.flush_out.ensures.written
