use Rattle.std.proofs.Common.{◌≡◌, ◌+◌, ◌++◌, map, drop}
use Rattle.lisa_tree.specs.Descriptions.{DescriptionTree}
use Rattle.instruction_forms.specs.Trees.{in_turn, form_tree}
use Rattle.form_texts.specs.Segments.{AreTemplates}
use Rattle.form_texts.specs.Strings.{part_of}
use Rattle.form_texts.specs.Written.{inner_count, written_parts}
use Rattle.form_texts.proofs.form_symbols.+write.Given as goal

abbrev pub invariant-loop-child : goal.invariant-loop-child
invariant-loop-child l = record {
  parts : (d : DescriptionTree) → AreTemplates d l.templates
      → map (part_of l.templates.table.strings.items) l.parts.items ++ written_parts d l.end (in_turn (map form_tree (drop l.child-index l.child-items))) ≡ written_parts d l.inner (in_turn (map form_tree l.child-items));
  end : l.end + inner_count (in_turn (map form_tree (drop l.child-index l.child-items))) ≡ l.inner + inner_count (in_turn (map form_tree l.child-items));
}
