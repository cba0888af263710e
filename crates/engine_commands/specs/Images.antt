-- The image of a run.
use Rattle.std.specs.Prelude.{ℕ, ◌+◌, ◌≤◌, ◌≡◌, ◌≢◌, ◌==◌, List, [], Option, Some, None, count_by}
use Rattle.lisa_engine.specs.Memory.{Memory}
use Rattle.lisa_engine.specs.Images.{missing_memory}
use Rattle.lisa_engine.specs.declared.parts.ArrayItem.{ArrayItem}
use Rattle.lisa_object.specs.Rules.{IsStamped}
use Rattle.lisa_object.specs.Texts.{image_text}
use Rattle.lisa_object.specs.declared.parts.Stamped.{Stamped}
use Rattle.lisa_object.specs.declared.faults.ImageFault.TheVariants as images
use Rattle.lisa_outcomes.specs.declared.status.Refusal.{Refusal}
use Rattle.lisa_outcomes.specs.declared.status.Refusal.TheVariants as refusals

-- the image that bytes spell, where there are any
abbrev pub IsImageOf : Option (List ℕ) → Option Stamped → Type 0
IsImageOf None found = found ≡ None
IsImageOf (Some bytes) found = (image : Stamped) × (found ≡ Some image) × IsStamped image × (bytes ≡ image_text image)

-- bytes that spell none; the line is only bounded, by the lines of the bytes
abbrev pub IsNoImage : Option (List ℕ) → Refusal → Type 0
IsNoImage None refusal = ⊥
IsNoImage (Some bytes) refusal = ((image : Stamped) → IsStamped image → bytes ≢ image_text image) × ((line : ℕ) × (line ≤ 1 + count_by (λ b. b == 10) bytes) × (refusal ≡ refusals.Image (images.NotAnImage line)))

-- an image that is left out has no memories
abbrev pub memories_of : Option Stamped → List Memory
memories_of None = []
memories_of (Some image) = image.image

-- the first of its memories that is none of a machine's arrays
abbrev pub IsMissing : List ArrayItem → List Memory → Refusal → Type 0
IsMissing arrays memories refusal = (name : List ℕ) × (missing_memory arrays memories ≡ Some name) × (refusal ≡ refusals.Image (images.NoSuchMemory name))
