-- What an export leads to, where its file is imported.
use Rattle.std.specs.Prelude.{ℕ, ◌≡◌, List}
use Rattle.lisa_tree.specs.Descriptions.{DescriptionTree}
use Rattle.lisa_tree.specs.Texts.{SpellsText}
use Rattle.lisa_engine.specs.declared.parts.ArrayItem.{ArrayItem}
use Rattle.lisa_object.specs.Texts.{image_text}
use Rattle.lisa_object.specs.Rules.{IsStamped}
use Rattle.lisa_object.specs.declared.parts.Stamped.{Stamped}
use Rattle.hex_files.specs.declared.formats.MemoryFormat.{MemoryFormat}
use Rattle.lisa_outcomes.specs.Outcomes.{Finished}
use Rattle.memory_commands.specs.DescriptionMemories.{IsMemory}
use Rattle.memory_commands.specs.Exports.{part_for}
use Rattle.memory_commands.specs.Imports.{image_alone, GivesImport}

-- the file that was written of an image's memory is read again as an image of that memory alone, with the cells that the image has there
pub record IsPassed (format : MemoryFormat) (description image name file : List ℕ) : Type 0 where
  pub tree : DescriptionTree
  pub spelled : SpellsText description tree
  pub first : Stamped
  pub stamped : IsStamped first
  pub is_image : image ≡ image_text first
  pub memory : ArrayItem
  pub named : IsMemory tree name memory
  pub gives : GivesImport format description file name (Finished (image_text (image_alone tree (part_for first.image memory))))
