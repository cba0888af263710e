use Rattle.source_grammar.proofs.LineTexts.{line_found, line_only, line_single}
use Rattle.source_grammar.proofs.laws.lines_are_spelled.Goals as goal

pub returns-clause-found : goal.returns-clause-found
returns-clause-found c = line_found

pub returns-clause-only : goal.returns-clause-only
returns-clause-only c line labels part s = line_only s

pub returns-clause-single : goal.returns-clause-single
returns-clause-single c line labels others part other s t = line_single s t
