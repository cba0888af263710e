-- An image that is read, and the description that it is for.
use Rattle.std.specs.Prelude.{◌≡◌, ◌≢◌, List}
use Rattle.lisa_tree.specs.Descriptions.{DescriptionTree}
use Rattle.description_digest.specs.Digests.{digest_of}
use Rattle.lisa_engine.specs.Memory.{Memory}
use Rattle.lisa_object.specs.declared.parts.Stamped.{Stamped}
use Rattle.lisa_object.specs.declared.faults.ImageFault.TheVariants as images
use Rattle.lisa_outcomes.specs.declared.status.Refusal.{Refusal}
use Rattle.lisa_outcomes.specs.declared.status.Refusal.TheVariants as refusals

-- its memories, where it is for this description
abbrev pub IsMade : DescriptionTree → Stamped → List Memory → Type 0
IsMade d image memories = (image.digest ≡ digest_of d) × (memories ≡ image.image)

-- it is for another one
abbrev pub IsMadeElsewhere : DescriptionTree → Stamped → Refusal → Type 0
IsMadeElsewhere d image refusal = (image.digest ≢ digest_of d) × (refusal ≡ refusals.Image (images.OtherDescription image.digest (digest_of d)))
