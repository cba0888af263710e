use Rattle.std.proofs.Common.{◌≡◌, Some, sym, ap, ◌∙◌}
use Rattle.std.specs.Prelude.{◌==◌}
use Rattle.std.specs.List.{slice_split}
use Rattle.lisa_object.specs.ImageReading.{image_of}
use Rattle.lisa_object.proofs.Options.{some_is}
use Rattle.lisa_object.proofs.ImageWhole.{only}
use Rattle.lisa_object.proofs.laws.images_are_unique.Goals as goal

pub returns : goal.returns
returns c = λ s t h k e. some_is s t (sym (only s h) ∙ ap (λ text. image_of (slice_split (λ b. b == 10) text)) e ∙ only t k)
