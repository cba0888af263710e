-- What an edge over a store keeps.
use Rattle.std.proofs.Common.{◌≡◌, ◌≤◌, ◌+◌, List, [], ap, sym, subst, ◌∙◌, arith}
use Rattle.lisa_tree.specs.declared.descriptions.Description.{Description}
use Rattle.lisa_engine.specs.Touches.{put_back}
use Rattle.lisa_engine.specs.declared.parts.Touch.{Touch}
use Rattle.activation_plans.specs.lisa_meaning.Moments.{Contents}
use Rattle.behavior_runs.specs.moment_stores.declared.store.Store.{Store}
use Rattle.behavior_runs.specs.scene_paths.Lookups.{tree_of}
use Rattle.behavior_runs.specs.Rooms.{room_for}
use Rattle.behavior_runs.specs.moment_stores.Stores.{description_of, local_count, local_room, image_of, memory_of, cells_before, touches_of, KeepsMachine, KeepsPlace}
use Rattle.lisa_sim.specs.Bodies.{Kept}

abbrev pub kept_in : Description → Store → Kept
kept_in d store = record { described = d; image = image_of store; before = cells_before store }

abbrev pub begun_in : Description → Store → Kept
begun_in d store = record { described = d; image = image_of store; before = (memory_of store).cells }

pub begun_same : (d : Description) (old new : Store) → KeepsMachine old new → touches_of new ≡ [] → memory_of new ≡ memory_of old → kept_in d new ≡ begun_in d old
begun_same d old new keeps none memory =
    let before : cells_before new ≡ (memory_of old).cells =
    ap (λ (touches : List Touch). put_back touches (memory_of new).cells) none ∙ ap (λ (c : Contents). c.cells) memory in
    λ i. record { described = d; image = keeps.image i; before = before i }

pub kept_same : (d : Description) (old new : Store) → KeepsPlace old new → kept_in d new ≡ kept_in d old
kept_same d old new keeps = λ i. record { described = d; image = keeps.machine.image i; before = keeps.before i }

pub kept_still : (d e : Description) (old new : Store) → KeepsPlace old new → e ≡ d → kept_in e new ≡ kept_in d old
kept_still d e old new keeps same = λ i. record { described = same i; image = keeps.machine.image i; before = keeps.before i }

-- a store is of a description's machine, and has room for the locals of its behaviours
abbrev pub Fits : Description → Store → Type 0
Fits d store = (description_of store ≡ tree_of d) × (local_count store + room_for (tree_of d) ≤ local_room store)

pub fits_still : (d e : Description) (old new : Store) → KeepsPlace old new → local_count new ≡ local_count old → e ≡ d → Fits d old → Fits e new
fits_still d e old new keeps count same fits =
    let room = keeps.machine.room in
    let has = fits.1 in
    let still : Fits d new = (keeps.machine.description ∙ fits.0, omega (arith, count, room, has)) in
    subst (λ (x : Description). Fits x new) (sym same) still
