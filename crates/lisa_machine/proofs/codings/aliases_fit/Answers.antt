use Rattle.std.proofs.Common.{inl, refl}
use Rattle.lisa_machine.proofs.Sound.{sound}
use Rattle.lisa_machine.proofs.Standing.{operation_stands}
use Rattle.lisa_machine.proofs.Fitting.{alias_fits}
use Rattle.lisa_machine.proofs.codings.aliases_fit.Goals as goal

pub returns : goal.returns
returns c = λ d accepted o operation is alias. let s = sound d accepted in alias_fits d s.known s.stand s.uses o operation alias (operation_stands d o operation is _ (inl refl))
