use Rattle.lowered_resources.proofs.Reading.{read}
use Rattle.lowered_resources.proofs.laws.resources_are_read.Goals as goal

pub returns : goal.returns
returns c d places p accepted first lasts are known below scene scope before pins m now h all = read d accepted places p first lasts are before pins m now h known below scene scope all
