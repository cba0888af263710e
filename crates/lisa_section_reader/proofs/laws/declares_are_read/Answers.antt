use Rattle.lisa_section_reader.proofs.EachLaws.{to_items, from_items}
use Rattle.lisa_section_reader.proofs.DeclareLaws.{declares_sound, declares_there}
use Rattle.lisa_section_reader.proofs.laws.declares_are_read.Goals as goal

pub returns-clause-found : goal.returns-clause-found
returns-clause-found c = λ ts x e. let t = declares_sound ts x e in (t.front, t.parts, from_items t.spells, t.stopped)

pub returns-clause-only : goal.returns-clause-only
returns-clause-only c = λ ts rest all d stops. declares_there (to_items d) rest stops
