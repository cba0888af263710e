use Rattle.engine_commands.proofs.SessionEnds.{session_ended, session_failed}
use Rattle.engine_commands.proofs.sessions.answer_under.Goals as goal

pub returns-in-Ok-clause-ends : goal.returns-in-Ok-clause-ends
returns-in-Ok-clause-ends g c = session_ended _ _ _ _ _ _ _ _ _ c.in-Ok.field-0 c.in-Ok.ensures.ran c.in-Ok.ensures.gives c.in-Ok.ensures.causes

pub returns-in-Err-clause-ends : goal.returns-in-Err-clause-ends
returns-in-Err-clause-ends g c = rw c.session_end.ensures (session_failed _ _ _ _ _ _ _ _ _ c.in-Err.end c.in-Err.ensures.ran c.in-Err.ensures.gives c.in-Err.ensures.causes)

pub returns-in-Ok-clause-later : goal.returns-in-Ok-clause-later
returns-in-Ok-clause-later g c = c.in-Ok.ensures.causes.input_later

pub returns-in-Err-clause-later : goal.returns-in-Err-clause-later
returns-in-Err-clause-later g c = c.in-Err.ensures.causes.input_later
