-- Programs of several sources: what `asm` gives of each, and the image that they are.
use Rattle.std.specs.Prelude.{ℕ, ◌≡◌, List, [], ◌∷◌}
use Rattle.asm_source.specs.Plain.{PlainLine}
use Rattle.lisa_tree.specs.Descriptions.{DescriptionTree}
use Rattle.lisa_tree.specs.Texts.{SpellsText}
use Rattle.lisa_engine.specs.Memory.{Memory}
use Rattle.lisa_object.specs.Texts.{image_text}
use Rattle.placed_programs.specs.Entries.{Entry}
use Rattle.source_promises.specs.lisa_assembler.Sources.{SourceCell}
use Rattle.lisa_outcomes.specs.Outcomes.{Finished}
use Rattle.source_promises.specs.Programs.{AreSources, source_image}
use Rattle.assembler_commands.specs.Assembled.{IsSource, GivesObject}
use Rattle.assembler_commands.specs.Links.{stamped}

-- `asm` gives these objects of these sources, one of each
abbrev pub GivesObjects : (description : List ℕ) → (sources objects : List (List ℕ)) → Type 0
GivesObjects description [] [] = Unit {0}
GivesObjects description (source ∷ sources) (object ∷ objects) = GivesObject description source (Finished object) × GivesObjects description sources objects
GivesObjects description [] (object ∷ objects) = ⊥
GivesObjects description (source ∷ sources) [] = ⊥

-- the lines that sources say
abbrev pub AreLines : List (List ℕ) → List (List PlainLine) → Type 0
AreLines [] [] = Unit {0}
AreLines (source ∷ sources) (ls ∷ all) = IsSource source ls × AreLines sources all
AreLines [] (ls ∷ all) = ⊥
AreLines (source ∷ sources) [] = ⊥

-- the sources are placed one behind the other in the description's memories, and each cell is what its line says
pub record IsSourceImage (d : DescriptionTree) (sources : List (List ℕ)) (image : List Memory) : Type 0 where
  pub lines : List (List PlainLine)
  pub parts : List (List (Entry SourceCell))
  pub said : AreLines sources lines
  pub are : AreSources d lines parts
  pub is : image ≡ source_image d parts

-- the text of the image of sources, by the description that bytes spell
pub record IsImageText (description : List ℕ) (sources : List (List ℕ)) (text : List ℕ) : Type 0 where
  pub tree : DescriptionTree
  pub image : List Memory
  pub spelled : SpellsText description tree
  pub placed : IsSourceImage tree sources image
  pub is : text ≡ image_text (stamped tree image)
