use Rattle.std.proofs.Common.{◌≡◌, ◌∙◌, ℕ, Option, None, Some, sym, ap}
use Rattle.std.specs.Prelude.{option_map, slice_get}
use Rattle.std.specs.Borrow.{Bor}
use Rattle.lisa_tree.specs.declared.descriptions.Resource.{Resource}
use Rattle.lisa_tree.specs.Descriptions as trees
use Rattle.lisa_tree.specs.Descriptions.{resource_tree}
use Rattle.moment_stores.specs.Stores.{moment_of}
use Rattle.scene_paths.specs.Lookups.{tree_of}
use Rattle.behavior_runs.specs.Views.{moment_seen}
use Rattle.behavior_runs.proofs.Reading.{same_fits, number_within, register_least, register_most, register_fits, clocked_least, clocked_most, clocked_fits, pin_least, pin_most, pin_fits}
use Rattle.behavior_runs.proofs.view.View.resource.Goals as goal

pub shaped-requires-clause-least : goal.shaped-requires-clause-least
shaped-requires-clause-least c =
    let d = tree_of c.described-described.result.now in
    let is : slice_get d.resources c.args.number ≡ Some (trees.Register c.in-Some-Register-default-default-default-None.field-0-0 c.in-Some-Register-default-default-default-None.shape c.in-Some-Register-default-default-default-None.field-0-2 None) = sym c.resource.ensures ∙ ap (option_map (λ (r : Bor Resource). resource_tree r.now)) c.in-Some-Register-default-default-default-None.is ∙ ap (λ (r : Resource). Some (resource_tree r)) c.in-Some-Register-default-default-default-None.field-0-is ∙ ap (λ (depth : Option ℕ). Some (trees.Register c.in-Some-Register-default-default-default-None.field-0-0 c.in-Some-Register-default-default-default-None.shape c.in-Some-Register-default-default-default-None.field-0-2 depth)) c.in-Some-Register-default-default-default-None.field-0-3-is in
    register_least d c.accepted.ensures c.args.number c.in-Some-Register-default-default-default-None.shape c.in-Some-Register-default-default-default-None.field-0-2 c.in-Some-Register-default-default-default-None.field-0-0 is

pub shaped-requires-clause-most : goal.shaped-requires-clause-most
shaped-requires-clause-most c =
    let d = tree_of c.described-described.result.now in
    let is : slice_get d.resources c.args.number ≡ Some (trees.Register c.in-Some-Register-default-default-default-None.field-0-0 c.in-Some-Register-default-default-default-None.shape c.in-Some-Register-default-default-default-None.field-0-2 None) = sym c.resource.ensures ∙ ap (option_map (λ (r : Bor Resource). resource_tree r.now)) c.in-Some-Register-default-default-default-None.is ∙ ap (λ (r : Resource). Some (resource_tree r)) c.in-Some-Register-default-default-default-None.field-0-is ∙ ap (λ (depth : Option ℕ). Some (trees.Register c.in-Some-Register-default-default-default-None.field-0-0 c.in-Some-Register-default-default-default-None.shape c.in-Some-Register-default-default-default-None.field-0-2 depth)) c.in-Some-Register-default-default-default-None.field-0-3-is in
    register_most d c.accepted.ensures c.args.number c.in-Some-Register-default-default-default-None.shape c.in-Some-Register-default-default-default-None.field-0-2 c.in-Some-Register-default-default-default-None.field-0-0 is

pub shaped-requires-clause-fits : goal.shaped-requires-clause-fits
shaped-requires-clause-fits c =
    let d = tree_of c.described-described.result.now in
    let is : slice_get d.resources c.args.number ≡ Some (trees.Register c.in-Some-Register-default-default-default-None.field-0-0 c.in-Some-Register-default-default-default-None.shape c.in-Some-Register-default-default-default-None.field-0-2 None) = sym c.resource.ensures ∙ ap (option_map (λ (r : Bor Resource). resource_tree r.now)) c.in-Some-Register-default-default-default-None.is ∙ ap (λ (r : Resource). Some (resource_tree r)) c.in-Some-Register-default-default-default-None.field-0-is ∙ ap (λ (depth : Option ℕ). Some (trees.Register c.in-Some-Register-default-default-default-None.field-0-0 c.in-Some-Register-default-default-default-None.shape c.in-Some-Register-default-default-default-None.field-0-2 depth)) c.in-Some-Register-default-default-default-None.field-0-3-is in
    let fit = same_fits _ d (moment_of c.args.self.now.store.now) (sym c.described-described.ensures) c.args.self.now.fits in
    register_fits d (moment_of c.args.self.now.store.now) fit c.args.number c.in-Some-Register-default-default-default-None.shape c.in-Some-Register-default-default-default-None.field-0-2 c.before-in-Some-Register-default-default-default-None.result.registers c.register.result c.in-Some-Register-default-default-default-None.field-0-0 is c.before-in-Some-Register-default-default-default-None.ensures.registers c.register.ensures

pub before-requires-in-Some-Clocked : goal.before-requires-in-Some-Clocked
before-requires-in-Some-Clocked c =
    let d = tree_of c.described-described.result.now in
    let is : slice_get d.resources c.args.number ≡ Some (trees.Clocked c.in-Some-Clocked.field-0-0 c.in-Some-Clocked.shape c.in-Some-Clocked.field-0-2) = sym c.resource.ensures ∙ ap (option_map (λ (r : Bor Resource). resource_tree r.now)) c.in-Some-Clocked.is ∙ ap (λ (r : Resource). Some (resource_tree r)) c.in-Some-Clocked.field-0-is in
    number_within d c.args.number (trees.Clocked c.in-Some-Clocked.field-0-0 c.in-Some-Clocked.shape c.in-Some-Clocked.field-0-2) is

pub shaped-requires-in-Some-Clocked-clause-least : goal.shaped-requires-in-Some-Clocked-clause-least
shaped-requires-in-Some-Clocked-clause-least c =
    let d = tree_of c.described-described.result.now in
    let is : slice_get d.resources c.args.number ≡ Some (trees.Clocked c.in-Some-Clocked.field-0-0 c.in-Some-Clocked.shape c.in-Some-Clocked.field-0-2) = sym c.resource.ensures ∙ ap (option_map (λ (r : Bor Resource). resource_tree r.now)) c.in-Some-Clocked.is ∙ ap (λ (r : Resource). Some (resource_tree r)) c.in-Some-Clocked.field-0-is in
    clocked_least d c.accepted.ensures c.args.number c.in-Some-Clocked.shape c.in-Some-Clocked.field-0-2 c.in-Some-Clocked.field-0-0 is

pub shaped-requires-in-Some-Clocked-clause-most : goal.shaped-requires-in-Some-Clocked-clause-most
shaped-requires-in-Some-Clocked-clause-most c =
    let d = tree_of c.described-described.result.now in
    let is : slice_get d.resources c.args.number ≡ Some (trees.Clocked c.in-Some-Clocked.field-0-0 c.in-Some-Clocked.shape c.in-Some-Clocked.field-0-2) = sym c.resource.ensures ∙ ap (option_map (λ (r : Bor Resource). resource_tree r.now)) c.in-Some-Clocked.is ∙ ap (λ (r : Resource). Some (resource_tree r)) c.in-Some-Clocked.field-0-is in
    clocked_most d c.accepted.ensures c.args.number c.in-Some-Clocked.shape c.in-Some-Clocked.field-0-2 c.in-Some-Clocked.field-0-0 is

pub shaped-requires-in-Some-Clocked-clause-fits : goal.shaped-requires-in-Some-Clocked-clause-fits
shaped-requires-in-Some-Clocked-clause-fits c =
    let d = tree_of c.described-described.result.now in
    let is : slice_get d.resources c.args.number ≡ Some (trees.Clocked c.in-Some-Clocked.field-0-0 c.in-Some-Clocked.shape c.in-Some-Clocked.field-0-2) = sym c.resource.ensures ∙ ap (option_map (λ (r : Bor Resource). resource_tree r.now)) c.in-Some-Clocked.is ∙ ap (λ (r : Resource). Some (resource_tree r)) c.in-Some-Clocked.field-0-is in
    let fit = same_fits _ d (moment_of c.args.self.now.store.now) (sym c.described-described.ensures) c.args.self.now.fits in
    clocked_fits d (moment_of c.args.self.now.store.now) fit c.args.number c.in-Some-Clocked.shape c.in-Some-Clocked.field-0-2 c.before-in-Some-Clocked.result.registers c.kept.result c.in-Some-Clocked.field-0-0 is c.before-in-Some-Clocked.ensures.registers c.kept.ensures

pub before-requires-in-Some-Pin : goal.before-requires-in-Some-Pin
before-requires-in-Some-Pin c =
    let d = tree_of c.described-described.result.now in
    let is : slice_get d.resources c.args.number ≡ Some (trees.Pin c.in-Some-Pin.shape c.in-Some-Pin.field-0-1) = sym c.resource.ensures ∙ ap (option_map (λ (r : Bor Resource). resource_tree r.now)) c.in-Some-Pin.is ∙ ap (λ (r : Resource). Some (resource_tree r)) c.in-Some-Pin.field-0-is in
    number_within d c.args.number (trees.Pin c.in-Some-Pin.shape c.in-Some-Pin.field-0-1) is

pub shaped-requires-in-Some-Pin-clause-least : goal.shaped-requires-in-Some-Pin-clause-least
shaped-requires-in-Some-Pin-clause-least c =
    let d = tree_of c.described-described.result.now in
    let is : slice_get d.resources c.args.number ≡ Some (trees.Pin c.in-Some-Pin.shape c.in-Some-Pin.field-0-1) = sym c.resource.ensures ∙ ap (option_map (λ (r : Bor Resource). resource_tree r.now)) c.in-Some-Pin.is ∙ ap (λ (r : Resource). Some (resource_tree r)) c.in-Some-Pin.field-0-is in
    pin_least d c.accepted.ensures c.args.number c.in-Some-Pin.shape c.in-Some-Pin.field-0-1 is

pub shaped-requires-in-Some-Pin-clause-most : goal.shaped-requires-in-Some-Pin-clause-most
shaped-requires-in-Some-Pin-clause-most c =
    let d = tree_of c.described-described.result.now in
    let is : slice_get d.resources c.args.number ≡ Some (trees.Pin c.in-Some-Pin.shape c.in-Some-Pin.field-0-1) = sym c.resource.ensures ∙ ap (option_map (λ (r : Bor Resource). resource_tree r.now)) c.in-Some-Pin.is ∙ ap (λ (r : Resource). Some (resource_tree r)) c.in-Some-Pin.field-0-is in
    pin_most d c.accepted.ensures c.args.number c.in-Some-Pin.shape c.in-Some-Pin.field-0-1 is

pub shaped-requires-in-Some-Pin-clause-fits : goal.shaped-requires-in-Some-Pin-clause-fits
shaped-requires-in-Some-Pin-clause-fits c =
    let d = tree_of c.described-described.result.now in
    let is : slice_get d.resources c.args.number ≡ Some (trees.Pin c.in-Some-Pin.shape c.in-Some-Pin.field-0-1) = sym c.resource.ensures ∙ ap (option_map (λ (r : Bor Resource). resource_tree r.now)) c.in-Some-Pin.is ∙ ap (λ (r : Resource). Some (resource_tree r)) c.in-Some-Pin.field-0-is in
    let fit = same_fits _ d (moment_of c.args.self.now.store.now) (sym c.described-described.ensures) c.args.self.now.fits in
    pin_fits d (moment_of c.args.self.now.store.now) fit c.args.number c.in-Some-Pin.shape c.in-Some-Pin.field-0-1 c.before-in-Some-Pin.result.pins c.pin.result is c.before-in-Some-Pin.ensures.pins c.pin.ensures
