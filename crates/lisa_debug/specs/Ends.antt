-- The end of a session at the end of an answer.
use Rattle.lisa_engine.specs.declared.trace.TraceEnd.{TraceEnd}
use Rattle.lisa_engine.specs.declared.trace.TraceEnd.TheVariants as answer
use Rattle.lisa_debug.specs.declared.ends.SessionEnd.{SessionEnd}
use Rattle.lisa_debug.specs.declared.ends.SessionEnd.TheVariants as session

abbrev pub session_end : TraceEnd → SessionEnd
session_end answer.WriteFault = session.WriteFault
session_end answer.NoMemory = session.NoMemory
