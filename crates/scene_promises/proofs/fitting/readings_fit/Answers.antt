use Rattle.lisa_machine.proofs.Sound.{sound}
use Rattle.lisa_meaning.specs.Scenes.{running}
use Rattle.scene_promises.proofs.Readable.{behavior_fits, fits_behind, fits_behind_all}
use Rattle.scene_promises.proofs.fitting.readings_fit.Goals as goal

pub returns-clause-begins : goal.returns-clause-begins
returns-clause-begins c = λ d pins contents fit pins_fit. record { memory = fit; kept = fit.registers; pins = pins_fit; locals = tt }

pub returns-clause-behaves : goal.returns-clause-behaves
returns-clause-behaves c = λ d scene m fit. behavior_fits d scene m fit

pub returns-clause-statements : goal.returns-clause-statements
returns-clause-statements c = λ d accepted more scene scope a m stand fit. fits_behind d (sound d accepted) more scene (running scene) scope a m stand fit

pub returns-clause-bodies : goal.returns-clause-bodies
returns-clause-bodies c = λ d accepted more scene scope all m stand fit. fits_behind_all d (sound d accepted) more scene (running scene) scope all m stand fit
