use Rattle.std.proofs.Common.{drop}
use Rattle.text_tables.specs.Openings.{Share}
use Rattle.text_tables.specs.Parts.{text_pieces}
use Rattle.text_tables.proofs.relations.Relations.may_share_text.Given as goal

abbrev pub invariant-parts : goal.invariant-parts
invariant-parts l = Share (text_pieces l.shared l.first) (text_pieces l.shared l.second) → Share (text_pieces l.shared (drop l.i l.first)) (text_pieces l.shared (drop l.i l.second))
