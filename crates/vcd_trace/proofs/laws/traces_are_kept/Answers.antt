use Rattle.vcd_trace.proofs.RunLaws.{traces}
use Rattle.vcd_trace.proofs.laws.traces_are_kept.Goals as goal

pub returns : goal.returns
returns c items state n long = traces items state n long
