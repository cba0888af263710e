use Rattle.std.proofs.Common.{◌≡◌, Some, sym, ap, ◌∙◌}
use Rattle.std.specs.Prelude.{◌==◌}
use Rattle.std.specs.List.{slice_split}
use Rattle.lisa_object.specs.ObjectReading.{object_of}
use Rattle.lisa_object.proofs.Options.{some_is}
use Rattle.lisa_object.proofs.ObjectWhole.{only}
use Rattle.lisa_object.proofs.laws.objects_are_unique.Goals as goal

pub returns : goal.returns
returns c = λ o p h k e. some_is o p (sym (only o h) ∙ ap (λ text. object_of (slice_split (λ b. b == 10) text)) e ∙ only p k)
