-- Programs of several sources, with the objects of each.
use Rattle.std.specs.Prelude.{List, [], ◌∷◌, map}
use Rattle.lisa_tree.specs.Descriptions.{DescriptionTree}
use Rattle.asm_source.specs.Plain.{PlainLine}
use Rattle.lisa_object.specs.Objects.{PlainObject}
use Rattle.lisa_engine.specs.Memory.{Memory}
use Rattle.placed_programs.specs.Entries.{Entry, PlainCell, entries_of}
use Rattle.placed_programs.specs.Placed.{placed_image, object_sense}
use Rattle.lisa_assembler.specs.Memories.{memory_items}
use Rattle.lisa_assembler.specs.Sources.{SourceCell, IsSourceOf}
use Rattle.lisa_assembler.specs.Objects.{IsObjectOf, source_sense}

-- these are the entries of each source
abbrev pub AreSources : DescriptionTree → List (List PlainLine) → List (List (Entry SourceCell)) → Type 0
AreSources d [] [] = Unit {0}
AreSources d (ls ∷ sources) (es ∷ parts) = IsSourceOf d ls es × AreSources d sources parts
AreSources d _ _ = ⊥

-- these are the objects of each source
abbrev pub AreObjects : DescriptionTree → List (List PlainLine) → List PlainObject → Type 0
AreObjects d [] [] = Unit {0}
AreObjects d (ls ∷ sources) (o ∷ objects) = IsObjectOf d ls o × AreObjects d sources objects
AreObjects d _ _ = ⊥

-- the image of sources: each cell is what its line says
abbrev pub source_image : DescriptionTree → List (List (Entry SourceCell)) → List Memory
source_image d parts = placed_image (source_sense d) (memory_items d) parts

abbrev pub object_parts : List PlainObject → List (List (Entry PlainCell))
object_parts objects = map (λ o. entries_of o.lines) objects

-- the image of objects
abbrev pub object_image : DescriptionTree → List PlainObject → List Memory
object_image d objects = placed_image object_sense (memory_items d) (object_parts objects)
