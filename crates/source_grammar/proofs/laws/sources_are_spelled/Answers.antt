use Rattle.std.specs.Str.Lines.{lines}
use Rattle.asm_source.specs.Source.{source_of}
use Rattle.source_grammar.proofs.SourceTexts.{lines_found, lines_only, fault_found, fault_only}
use Rattle.source_grammar.proofs.laws.sources_are_spelled.Goals as goal

pub returns-clause-said : goal.returns-clause-said
unfolding source_of
returns-clause-said c bytes all = (lines_found 1 (lines bytes) all, λ s. lines_only s)

pub returns-clause-fault : goal.returns-clause-fault
unfolding source_of
returns-clause-fault c bytes fault = (fault_found 1 (lines bytes) fault, λ s. fault_only s)
