use Rattle.lisa_section_reader.proofs.SyntaxLaws.{syntax_sound, syntax_there}
use Rattle.lisa_section_reader.proofs.laws.syntaxes_are_read.Goals as goal

pub returns-clause-found : goal.returns-clause-found
returns-clause-found c = λ ts x e. let t = syntax_sound ts x e in (t.parts, t.spells, t.stopped)

pub returns-clause-only : goal.returns-clause-only
returns-clause-only c = λ all rest d stops. syntax_there all rest d stops
