use Rattle.std.proofs.Common.{subst}
use Rattle.description_types.specs.Tables.{Known}
use Rattle.description_types.proofs.OneKnown.{one_known}
use Rattle.kind_checks.specs.WrongKinds.{wrong_kind}
use Rattle.lisa_machine.specs.Freedom.{IsFree}
use Rattle.lisa_machine.proofs.Falling.{node_ranks}
use Rattle.lisa_machine.proofs.Sound.{sound}
use Rattle.scene_promises.proofs.Shared.{types_along, assignables_along, expressed, placed}
use Rattle.scene_promises.proofs.naming.facts_go_along.Goals as goal

pub returns-clause-types : goal.returns-clause-types
returns-clause-types c = λ d accepted known kinds i j s means type.
    let w = sound d accepted in
    let uses = subst (λ (k : Known). IsFree (wrong_kind k d) d) (one_known d w.known known w.kinds kinds) w.uses in
    types_along d known kinds w.names w.stand uses s means type

pub returns-clause-assignables : goal.returns-clause-assignables
returns-clause-assignables c = λ d accepted known kinds i j means assigned.
    let w = sound d accepted in
    let uses = subst (λ (k : Known). IsFree (wrong_kind k d) d) (one_known d w.known known w.kinds kinds) w.uses in
    assignables_along d known kinds w.names w.stand uses means assigned

pub returns-clause-expressions : goal.returns-clause-expressions
returns-clause-expressions c = λ d accepted known kinds i j n o e s means is which plain type.
    let w = sound d accepted in
    let uses = subst (λ (k : Known). IsFree (wrong_kind k d) d) (one_known d w.known known w.kinds kinds) w.uses in
    expressed d known kinds w.names w.stand uses (node_ranks d w.circles) s i j n o e means is which plain type

pub returns-clause-places : goal.returns-clause-places
returns-clause-places c = λ d accepted known kinds i j n o e means is which plain assigned.
    let w = sound d accepted in
    let uses = subst (λ (k : Known). IsFree (wrong_kind k d) d) (one_known d w.known known w.kinds kinds) w.uses in
    placed d known kinds w.names w.stand uses i j n o e means is which plain assigned
