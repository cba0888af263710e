use Rattle.std.proofs.Common.{◌≡◌, ◌∙◌, ℕ, Option, None, Some, arith, sym, ap}
use Rattle.std.specs.Prelude.{option_map, slice_get}
use Rattle.std.specs.Borrow.{Bor}
use Rattle.lisa_tree.specs.declared.descriptions.Resource.{Resource}
use Rattle.lisa_tree.specs.Descriptions as trees
use Rattle.lisa_tree.specs.Descriptions.{resource_tree}
use Rattle.scene_paths.specs.Lookups.{tree_of}
use Rattle.lowered_resources.proofs.Numbers.{register_low, pin_low}
use Rattle.lowered_resources.proofs.Coded.{number_within, register_least, register_most, clocked_least, clocked_most, pin_least, pin_most}
use Rattle.lowered_resources.proofs.resources.Resources.resource.Goals as goal

pub overflow_cast-place : goal.overflow_cast-place
overflow_cast-place g c =
    let low = register_low (tree_of c.args.self.now.described.now) c.args.self.now.few c.args.number c.before-place.result.registers c.before-place.ensures.registers in
    omega (arith, low)

pub operand_in-requires-clause-least : goal.operand_in-requires-clause-least
operand_in-requires-clause-least g c =
    let d = tree_of c.args.self.now.described.now in
    let is : slice_get d.resources c.args.number ≡ Some (trees.Register c.in-Some-Register-default-default-default-None.field-0-0 c.in-Some-Register-default-default-default-None.shape c.in-Some-Register-default-default-default-None.field-0-2 None) =
    sym c.resource.ensures ∙ ap (option_map (λ (r : Bor Resource). resource_tree r.now)) c.in-Some-Register-default-default-default-None.is ∙ ap (λ (r : Resource). Some (resource_tree r)) c.in-Some-Register-default-default-default-None.field-0-is
    ∙ ap (λ (depth : Option ℕ). Some (trees.Register c.in-Some-Register-default-default-default-None.field-0-0 c.in-Some-Register-default-default-default-None.shape c.in-Some-Register-default-default-default-None.field-0-2 depth)) c.in-Some-Register-default-default-default-None.field-0-3-is in
    register_least d c.accepted.ensures c.args.number c.in-Some-Register-default-default-default-None.shape c.in-Some-Register-default-default-default-None.field-0-2 c.in-Some-Register-default-default-default-None.field-0-0 is

pub operand_in-requires-clause-most : goal.operand_in-requires-clause-most
operand_in-requires-clause-most g c =
    let d = tree_of c.args.self.now.described.now in
    let is : slice_get d.resources c.args.number ≡ Some (trees.Register c.in-Some-Register-default-default-default-None.field-0-0 c.in-Some-Register-default-default-default-None.shape c.in-Some-Register-default-default-default-None.field-0-2 None) =
    sym c.resource.ensures ∙ ap (option_map (λ (r : Bor Resource). resource_tree r.now)) c.in-Some-Register-default-default-default-None.is ∙ ap (λ (r : Resource). Some (resource_tree r)) c.in-Some-Register-default-default-default-None.field-0-is
    ∙ ap (λ (depth : Option ℕ). Some (trees.Register c.in-Some-Register-default-default-default-None.field-0-0 c.in-Some-Register-default-default-default-None.shape c.in-Some-Register-default-default-default-None.field-0-2 depth)) c.in-Some-Register-default-default-default-None.field-0-3-is in
    register_most d c.accepted.ensures c.args.number c.in-Some-Register-default-default-default-None.shape c.in-Some-Register-default-default-default-None.field-0-2 c.in-Some-Register-default-default-default-None.field-0-0 is

pub before-place-requires-in-Some-Clocked : goal.before-place-requires-in-Some-Clocked
before-place-requires-in-Some-Clocked g c =
    let d = tree_of c.args.self.now.described.now in
    let is : slice_get d.resources c.args.number ≡ Some (trees.Clocked c.in-Some-Clocked.field-0-0 c.in-Some-Clocked.shape c.in-Some-Clocked.field-0-2) =
    sym c.resource.ensures ∙ ap (option_map (λ (r : Bor Resource). resource_tree r.now)) c.in-Some-Clocked.is ∙ ap (λ (r : Resource). Some (resource_tree r)) c.in-Some-Clocked.field-0-is in
    number_within d c.args.number (trees.Clocked c.in-Some-Clocked.field-0-0 c.in-Some-Clocked.shape c.in-Some-Clocked.field-0-2) is

pub overflow_cast-place-in-Some-Clocked : goal.overflow_cast-place-in-Some-Clocked
overflow_cast-place-in-Some-Clocked g c =
    let low = register_low (tree_of c.args.self.now.described.now) c.args.self.now.few c.args.number c.before-place-in-Some-Clocked.result.registers c.before-place-in-Some-Clocked.ensures.registers in
    omega (arith, low)

pub operand_in-requires-in-Some-Clocked-clause-least : goal.operand_in-requires-in-Some-Clocked-clause-least
operand_in-requires-in-Some-Clocked-clause-least g c =
    let d = tree_of c.args.self.now.described.now in
    let is : slice_get d.resources c.args.number ≡ Some (trees.Clocked c.in-Some-Clocked.field-0-0 c.in-Some-Clocked.shape c.in-Some-Clocked.field-0-2) =
    sym c.resource.ensures ∙ ap (option_map (λ (r : Bor Resource). resource_tree r.now)) c.in-Some-Clocked.is ∙ ap (λ (r : Resource). Some (resource_tree r)) c.in-Some-Clocked.field-0-is in
    clocked_least d c.accepted.ensures c.args.number c.in-Some-Clocked.shape c.in-Some-Clocked.field-0-2 c.in-Some-Clocked.field-0-0 is

pub operand_in-requires-in-Some-Clocked-clause-most : goal.operand_in-requires-in-Some-Clocked-clause-most
operand_in-requires-in-Some-Clocked-clause-most g c =
    let d = tree_of c.args.self.now.described.now in
    let is : slice_get d.resources c.args.number ≡ Some (trees.Clocked c.in-Some-Clocked.field-0-0 c.in-Some-Clocked.shape c.in-Some-Clocked.field-0-2) =
    sym c.resource.ensures ∙ ap (option_map (λ (r : Bor Resource). resource_tree r.now)) c.in-Some-Clocked.is ∙ ap (λ (r : Resource). Some (resource_tree r)) c.in-Some-Clocked.field-0-is in
    clocked_most d c.accepted.ensures c.args.number c.in-Some-Clocked.shape c.in-Some-Clocked.field-0-2 c.in-Some-Clocked.field-0-0 is

pub before-place-requires-in-Some-Pin : goal.before-place-requires-in-Some-Pin
before-place-requires-in-Some-Pin g c =
    let d = tree_of c.args.self.now.described.now in
    let is : slice_get d.resources c.args.number ≡ Some (trees.Pin c.in-Some-Pin.shape c.in-Some-Pin.field-0-1) =
    sym c.resource.ensures ∙ ap (option_map (λ (r : Bor Resource). resource_tree r.now)) c.in-Some-Pin.is ∙ ap (λ (r : Resource). Some (resource_tree r)) c.in-Some-Pin.field-0-is in
    number_within d c.args.number (trees.Pin c.in-Some-Pin.shape c.in-Some-Pin.field-0-1) is

pub overflow_cast-place-in-Some-Pin : goal.overflow_cast-place-in-Some-Pin
overflow_cast-place-in-Some-Pin g c =
    let low = pin_low (tree_of c.args.self.now.described.now) c.args.self.now.few c.args.number c.before-place-in-Some-Pin.result.pins c.before-place-in-Some-Pin.ensures.pins in
    omega (arith, low)

pub operand_in-requires-in-Some-Pin-clause-least : goal.operand_in-requires-in-Some-Pin-clause-least
operand_in-requires-in-Some-Pin-clause-least g c =
    let d = tree_of c.args.self.now.described.now in
    let is : slice_get d.resources c.args.number ≡ Some (trees.Pin c.in-Some-Pin.shape c.in-Some-Pin.field-0-1) =
    sym c.resource.ensures ∙ ap (option_map (λ (r : Bor Resource). resource_tree r.now)) c.in-Some-Pin.is ∙ ap (λ (r : Resource). Some (resource_tree r)) c.in-Some-Pin.field-0-is in
    pin_least d c.accepted.ensures c.args.number c.in-Some-Pin.shape c.in-Some-Pin.field-0-1 is

pub operand_in-requires-in-Some-Pin-clause-most : goal.operand_in-requires-in-Some-Pin-clause-most
operand_in-requires-in-Some-Pin-clause-most g c =
    let d = tree_of c.args.self.now.described.now in
    let is : slice_get d.resources c.args.number ≡ Some (trees.Pin c.in-Some-Pin.shape c.in-Some-Pin.field-0-1) =
    sym c.resource.ensures ∙ ap (option_map (λ (r : Bor Resource). resource_tree r.now)) c.in-Some-Pin.is ∙ ap (λ (r : Resource). Some (resource_tree r)) c.in-Some-Pin.field-0-is in
    pin_most d c.accepted.ensures c.args.number c.in-Some-Pin.shape c.in-Some-Pin.field-0-1 is
