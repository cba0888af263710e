-- The image of a description.
use Rattle.std.specs.Prelude.{ℕ, ◌≡◌, ◌≢◌, ◌⊎◌, List, Option, Some, None}
use Rattle.lisa_tree.specs.Descriptions.{DescriptionTree}
use Rattle.description_digest.specs.Digests.{digest_of}
use Rattle.lisa_engine.specs.Memory.{Memory}
use Rattle.lisa_object.specs.declared.parts.Stamped.{Stamped}
use Rattle.lisa_object.specs.declared.faults.ImageFault.TheVariants as images
use Rattle.lisa_outcomes.specs.declared.status.Refusal.{Refusal}
use Rattle.lisa_outcomes.specs.declared.status.Refusal.TheVariants as refusals
use Rattle.lisa_outcomes.specs.Outcomes.{Outcome, After}
use Rattle.engine_commands.specs.Images.{IsImageOf, IsNoImage, memories_of}

-- it has the description's digest, where it isn't left out
abbrev pub HasDigest : DescriptionTree → Option Stamped → Type 0
HasDigest d None = Unit {0}
HasDigest d (Some image) = image.digest ≡ digest_of d

-- the memories of an image for this description; one that is left out has none
pub record IsImageFor (d : DescriptionTree) (bytes : Option (List ℕ)) (memories : List Memory) : Type 0 where
  pub image : Option Stamped
  pub spelled : IsImageOf bytes image
  pub digest : HasDigest d image
  pub are : memories ≡ memories_of image

-- the image of another description
abbrev pub IsForAnother : DescriptionTree → Option (List ℕ) → Refusal → Type 0
IsForAnother d bytes refusal = (image : Stamped) × IsImageOf bytes (Some image) × (image.digest ≢ digest_of d)
    × (refusal ≡ refusals.Image (images.OtherDescription image.digest (digest_of d)))

abbrev pub IsNoImageFor : DescriptionTree → Option (List ℕ) → Refusal → Type 0
IsNoImageFor d bytes refusal = IsNoImage bytes refusal ⊎ IsForAnother d bytes refusal

-- the outcome of a command that first reads an image for this description
abbrev pub AfterImage : DescriptionTree → Option (List ℕ) → (List Memory → Outcome → Type 0) → Outcome → Type 0
AfterImage d bytes Then = After (IsImageFor d bytes) (IsNoImageFor d bytes) Then
