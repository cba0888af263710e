use Rattle.use_promises.proofs.lisa_machine_proofs.Sound.{sound}
use Rattle.lisa_meaning.proofs.Sufficing.{occurrences_end}
use Rattle.lisa_meaning.proofs.laws.levels_suffice.Goals as goal

pub returns : goal.returns
returns c d accepted = occurrences_end d (sound d accepted)
