use Rattle.lisa_section_reader.proofs.CodingLaws.{coding_sound, coding_there}
use Rattle.lisa_section_reader.proofs.laws.codings_are_read.Goals as goal

pub returns-clause-found : goal.returns-clause-found
returns-clause-found c = λ ts x e. let t = coding_sound ts x e in (t.front, t.parts, t.spells)

pub returns-clause-only : goal.returns-clause-only
returns-clause-only c = λ ts rest part d stops. coding_there ts rest part d stops
