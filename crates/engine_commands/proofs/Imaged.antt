-- Reading an image as a step of a command.
use Rattle.std.proofs.Common.{◌≡◌, ◌∙◌, sym, ap, refl, List, ℕ, Option, Some, None, Ok, Err}
use Rattle.lisa_object.specs.Rules.{IsStamped}
use Rattle.lisa_object.specs.Texts.{image_text}
use Rattle.lisa_object.specs.Gives.{IsThis, IsRefusal}
use Rattle.lisa_object.specs.declared.parts.Stamped.{Stamped}
use Rattle.lisa_object.specs.declared.faults.ImageFault.{ImageFault}
use Rattle.lisa_object.specs.declared.faults.ImageFault.TheVariants as images
use Rattle.lisa_outcomes.specs.declared.status.Refusal.TheVariants as refusals
use Rattle.lisa_outcomes.specs.Stages.{Finds}
use Rattle.lisa_outcomes.proofs.Finding.{found_ok, found_memory, found_refused}
use Rattle.lisa_outcomes.proofs.Refusals.{image_refusal}
use Rattle.engine_commands.specs.Images.{IsImageOf, IsNoImage}
use Rattle.engine_commands.specs.Unread.{unread_image}

-- an image that is left out
pub left_out : Finds (λ (image : Option Stamped). image) (IsImageOf None) (IsNoImage None) (Ok None)
left_out = found_ok (λ (image : Option Stamped). image) (IsImageOf None) (IsNoImage None) None refl (λ other is. sym is) (λ refusal wrong. wrong)

-- the image was read
pub imaged : (bytes : List ℕ) (image : Stamped) → IsStamped image × (bytes ≡ image_text image) → ((s : Stamped) → IsStamped s → bytes ≡ image_text s → IsThis s (Ok image))
    → Finds (λ (found : Option Stamped). found) (IsImageOf (Some bytes)) (IsNoImage (Some bytes)) (Ok (Some image))
imaged bytes image here only = found_ok (λ (found : Option Stamped). found) (IsImageOf (Some bytes)) (IsNoImage (Some bytes)) (Some image)
    (image, refl, here.0, here.1) (λ other is. ap Some (only is.0 is.2 is.3) ∙ sym is.1) (λ refusal wrong. wrong.0 image here.0 here.1)

-- it wasn't
pub unimaged : (bytes : List ℕ) (fault : ImageFault) → IsRefusal bytes fault → ((s : Stamped) → IsStamped s → bytes ≡ image_text s → IsThis s (Err fault))
    → Finds (λ (found : Option Stamped). found) (IsImageOf (Some bytes)) (IsNoImage (Some bytes)) (Err (unread_image fault))
unimaged bytes images.NoMemory refusal only = found_memory (λ (found : Option Stamped). found) (IsImageOf (Some bytes)) (IsNoImage (Some bytes))
unimaged bytes (images.NotAnImage line) refusal only = found_refused (λ (found : Option Stamped). found) (IsImageOf (Some bytes)) (IsNoImage (Some bytes)) (refusals.Image (images.NotAnImage line))
    (image_refusal (images.NotAnImage line) (λ e. cc)) (λ image stamped same. only image stamped same, (line, refusal, refl)) (λ found is. only is.0 is.2 is.3)
unimaged bytes (images.OtherDescription kept expected) refusal only = absurd refusal
unimaged bytes (images.NoSuchMemory name) refusal only = absurd refusal
