-- The parts of the verdict on `main`.
use Rattle.std.proofs.Common.{◌≡◌, ◌∙◌, ap, ℕ, Bool, Option, not, ◌||◌}
use Rattle.std.specs.Option.{is_some}
use Rattle.lisa_tree.specs.Descriptions.{DescriptionTree}
use Rattle.description_places.specs.Places.{first, description_places}
use Rattle.lisa_tree.specs.Operations.{number_of}
use Rattle.stage_checks.specs.Controls.{main_name}
use Rattle.stage_checks.specs.Closing.{closes_well}
use Rattle.stage_checks.specs.Backward.{main_fits, skipping, bad_main}

pub same_verdict : (d : DescriptionTree) (free : ℕ → Bool) (fits ends skips broken : Bool) (main : Option ℕ) → broken ≡ (not fits || (not ends || skips)) → main ≡ number_of d main_name
    → fits ≡ main_fits d main → ends ≡ closes_well d → skips ≡ is_some (first (skipping d free) (description_places d)) → broken ≡ bad_main d free
same_verdict d free fits ends skips broken main b m f e s =
    b
    ∙ ap (λ (x : Bool). not x || (not ends || skips)) (f ∙ ap (main_fits d) m)
    ∙ ap (λ (x : Bool). not (main_fits d (number_of d main_name)) || (not x || skips)) e
    ∙ ap (λ (x : Bool). not (main_fits d (number_of d main_name)) || (not (closes_well d) || x)) s
