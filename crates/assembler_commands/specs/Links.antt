-- What `link` gives.
use Rattle.std.specs.Prelude.{ℕ, ◌≡◌, List, None, Some}
use Rattle.lisa_tree.specs.Descriptions.{DescriptionTree}
use Rattle.description_digest.specs.Digests.{digest_of}
use Rattle.lisa_engine.specs.Memory.{Memory}
use Rattle.lisa_object.specs.Objects.{PlainObject}
use Rattle.lisa_object.specs.Texts.{image_text}
use Rattle.lisa_object.specs.declared.parts.Stamped.{Stamped}
use Rattle.lisa_object.specs.declared.faults.LinkFault.{LinkFault}
use Rattle.placed_programs.specs.Placed.{object_sense, placed_image}
use Rattle.object_links.specs.LineNames.{parts_of}
use Rattle.object_links.specs.LinkFaults.{link_fault}
use Rattle.source_promises.specs.lisa_assembler.Memories.{memory_items}
use Rattle.lisa_outcomes.specs.declared.status.Refusal.{Refusal}
use Rattle.lisa_outcomes.specs.declared.status.Refusal.TheVariants as refusals
use Rattle.lisa_outcomes.specs.Outcomes.{Outcome, Finished, After}
use Rattle.checked_descriptions.specs.Descriptions.{AfterSpelling}
use Rattle.checked_descriptions.specs.Checked.{Checked, AfterChecks}
use Rattle.assembler_commands.specs.DescriptionObjects.{AfterObjects}

-- the most bytes of an object
abbrev pub object_limit : ℕ
object_limit = 50331648

-- the image of objects in which no condition is broken: they are placed one behind the other in the description's memories
pub record IsLinked (d : DescriptionTree) (objects : List PlainObject) (image : List Memory) : Type 0 where
  pub whole : link_fault (memory_items d) (parts_of objects) ≡ None
  pub is : image ≡ placed_image object_sense (memory_items d) (parts_of objects)

-- the first fault of the first condition that is broken
abbrev pub IsUnlinked : DescriptionTree → List PlainObject → Refusal → Type 0
IsUnlinked d objects refusal = (fault : LinkFault) × (link_fault (memory_items d) (parts_of objects) ≡ Some fault) × (refusal ≡ refusals.Link fault)

-- an image with the description's digest
abbrev pub stamped : DescriptionTree → List Memory → Stamped
stamped d image = record { digest = digest_of d; image = image }

-- the text of the image of objects
abbrev pub Links : DescriptionTree → List PlainObject → Outcome → Type 0
Links d objects = After (IsLinked d objects) (IsUnlinked d objects) (λ image outcome. outcome ≡ Finished (image_text (stamped d image)))

-- over a description that is checked
abbrev pub LinksChecked : List (List ℕ) → Checked → Outcome → Type 0
LinksChecked files c = AfterObjects c.tree files (Links c.tree)

-- over the bytes of a description and of objects: the description is read and checked first, and then the objects
abbrev pub GivesLink : (description : List ℕ) → (objects : List (List ℕ)) → Outcome → Type 0
GivesLink description objects = AfterSpelling description (λ d. AfterChecks d (LinksChecked objects))
