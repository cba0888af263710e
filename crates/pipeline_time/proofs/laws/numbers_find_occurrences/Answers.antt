use Rattle.pipeline_time.proofs.Steps.{numbers_find}
use Rattle.pipeline_time.proofs.laws.numbers_find_occurrences.Goals as goal

pub returns : goal.returns
returns g c core sound = numbers_find core sound
