use Rattle.std.proofs.Common.{subst}
use Rattle.lisa_machine.specs.description_types.Tables.{Known}
use Rattle.lisa_machine.specs.kind_checks.WrongKinds.{wrong_kind}
use Rattle.lisa_machine.specs.Freedom.{IsFree}
use Rattle.lisa_machine.proofs.Sound.{sound}
use Rattle.lisa_machine.proofs.description_types_proofs.OneKnown.{one_known}
use Rattle.use_promises.proofs.Given.{values_given}
use Rattle.use_promises.proofs.valued.values_are_given.Goals as goal

pub returns : goal.returns
returns c = λ d accepted known kinds i shape typed.
    let w = sound d accepted in
    let uses = subst (λ (k : Known). IsFree (wrong_kind k d) d) (one_known d w.known known w.kinds kinds) w.uses in
    values_given d known kinds w.names w.stand uses shape i typed
