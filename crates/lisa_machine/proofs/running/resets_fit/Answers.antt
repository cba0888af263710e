use Rattle.std.proofs.Common.{inl, refl, ◌∙◌}
use Rattle.lisa_machine.proofs.Sound.{sound}
use Rattle.lisa_machine.proofs.Standing.{operation_stands}
use Rattle.lisa_machine.proofs.Forward.{reset_fits, name_is}
use Rattle.lisa_machine.proofs.running.resets_fit.Goals as goal

pub returns : goal.returns
returns c = λ d accepted o operation is named. reset_fits d (sound d accepted).resets o operation (name_is d o operation is ∙ named) (operation_stands d o operation is _ (inl refl))
