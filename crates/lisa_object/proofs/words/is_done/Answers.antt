use Rattle.std.proofs.Common.{sym}
use Rattle.std.specs.Prelude.{◌==◌}
use Rattle.lisa_object.proofs.PartLaws.{some_part}
use Rattle.lisa_object.proofs.words.is_done.Goals as goal

pub returns-in-Some : goal.returns-in-Some
returns-in-Some c = rw c.in-Some.is (sym (some_part (λ b. b == 32) c.in-Some.field-0.now))
