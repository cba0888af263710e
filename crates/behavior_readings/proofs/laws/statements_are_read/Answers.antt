use Rattle.lisa_behav_reader.proofs.StmtComplete.{stmts_complete}
use Rattle.behavior_readings.proofs.FrontLaws.{statements_found}
use Rattle.behavior_readings.proofs.EndLaws.{statements_ended}
use Rattle.behavior_readings.proofs.laws.statements_are_read.Goals as goal

pub returns-clause-found : goal.returns-clause-found
returns-clause-found c = statements_found

pub returns-clause-ended : goal.returns-clause-ended
returns-clause-ended c = statements_ended

pub returns-clause-only : goal.returns-clause-only
returns-clause-only c = λ n ts rest all d deep e. stmts_complete d n rest deep e
