use Rattle.lisa_tree.specs.Descriptions.{DescriptionTree}
use Rattle.scene_paths.specs.lisa_forms.Parts.{AreFormsOf}
use Rattle.lowered_words.specs.Tables.{Holds}
use Rattle.lowered_words.proofs.Keeping.{ways_before}
use Rattle.lowered_words.proofs.making.all_ways.Given as goal

abbrev pub invariant-loop-number : goal.invariant-loop-number
invariant-loop-number l = (d : DescriptionTree) → AreFormsOf d l.forms → Holds d (ways_before d l.number) l.table.links.keys l.table.parts.items
