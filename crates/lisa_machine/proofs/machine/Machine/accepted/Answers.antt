use Rattle.std.proofs.Common.{subst}
use Rattle.lisa_tree.specs.declared.descriptions.Description.{Description}
use Rattle.lisa_tree.specs.Descriptions.{description_tree}
use Rattle.lisa_machine.specs.Verdicts.{IsAccepted}
use Rattle.lisa_machine.specs.Machines.{IsSpelled}
use Rattle.lisa_machine.proofs.Verdicts.{accepted_is_sound}
use Rattle.lisa_machine.proofs.machine.Machine.accepted.Goals as goal

pub returns : goal.returns
returns c =
    let accepted = subst (λ (e : Description). IsAccepted (description_tree e)) c.self.view_is c.self.invariant.0 in
    record {
      accepted = accepted;
      sound = accepted_is_sound (description_tree c.args.self.now) accepted;
      spelled = subst (λ (e : Description). IsSpelled (description_tree e)) c.self.view_is c.self.invariant.2;
    }
