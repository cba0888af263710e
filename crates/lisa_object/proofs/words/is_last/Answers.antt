use Rattle.std.proofs.Common.{◌∙◌}
use Rattle.std.specs.Prelude.{◌==◌}
use Rattle.lisa_object.proofs.PartLaws.{last_is}
use Rattle.lisa_object.proofs.words.is_last.Goals as goal

pub returns-in-Some : goal.returns-in-Some
returns-in-Some c = rw c.in-Some.is (c.is_empty.ensures ∙ last_is (λ b. b == 10) c.in-Some.text.now)
