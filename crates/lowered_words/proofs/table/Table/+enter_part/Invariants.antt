-- The children before a place are there with their parts.
use Rattle.std.proofs.Common.{List}
use Rattle.lisa_tree.specs.Descriptions.{DescriptionTree}
use Rattle.instruction_forms.specs.Trees.{form_tree}
use Rattle.lowered_words.specs.Ways.{Way}
use Rattle.lowered_words.specs.Tables.{Enters}
use Rattle.lowered_words.proofs.Tabled.{Entering, all_from}
use Rattle.lowered_words.proofs.table.Table.+enter_part.Given as goal

abbrev pub invariant-loop-place : goal.invariant-loop-place
invariant-loop-place l =
    (d : DescriptionTree) (ways : List Way) (w : Way) → Enters d ways w l.fn.link (form_tree l.part) l.fn.self.links.keys l.fn.self.parts.items
    → Entering d w l.above l.place l.children l.self.links.keys l.self.parts.items (all_from d ways w l.part)
