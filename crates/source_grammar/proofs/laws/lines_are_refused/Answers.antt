use Rattle.source_grammar.proofs.BrokenLines.{unknown_lines, broken_lines, bad_lines, no_other_flaw}
use Rattle.source_grammar.proofs.laws.lines_are_refused.Goals as goal

pub returns-clause-unknown : goal.returns-clause-unknown
returns-clause-unknown c = unknown_lines

pub returns-clause-expression : goal.returns-clause-expression
returns-clause-expression c = broken_lines

pub returns-clause-bad : goal.returns-clause-bad
returns-clause-bad c = bad_lines

pub returns-clause-no_other : goal.returns-clause-no_other
returns-clause-no_other c = no_other_flaw
