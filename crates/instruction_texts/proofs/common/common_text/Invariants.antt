use Rattle.std.specs.Prelude.{drop}
use Rattle.instruction_texts.specs.Meetings.{weight}
use Rattle.instruction_texts.proofs.Searching.{Searching}
use Rattle.instruction_texts.proofs.common.common_text.Given as goal

abbrev pub invariant-meetings : goal.invariant-meetings
invariant-meetings l = Searching l.fn.first l.fn.second l.meetings.items l.number

abbrev pub decreases-meetings : goal.decreases-meetings
decreases-meetings l = weight l.fn.first (drop l.number l.meetings.items)
