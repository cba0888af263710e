use Rattle.std.proofs.Common.{length}
use Rattle.step_program.proofs.forming.+are_firsts.Given as goal

abbrev pub decreases-are_firsts : goal.decreases-are_firsts
decreases-are_firsts l = length l.items.now
