-- Room for locals, and what stays, from step to step.
use Rattle.std.proofs.Common.{◌≡◌, ℕ, zero, suc, ◌+◌, ◌-◌, ◌*◌, ◌<◌, ◌≤◌, ap, ◌∙◌, arith}
use Rattle.lisa_tree.specs.Descriptions.{DescriptionTree}
use Rattle.moment_stores.specs.declared.store.Store.{Store}
use Rattle.moment_stores.specs.Stores.{local_count, local_room, KeepsMachine, KeepsPlace, Keeps}
use Rattle.behavior_runs.specs.Rooms.{most_locals}
use Rattle.behavior_runs.specs.Running.{HasRoom}

-- fewer locals need less room
pub fewer : (d : DescriptionTree) (levels a b : ℕ) (store : Store) → HasRoom d levels a store → b ≤ a → HasRoom d levels b store
fewer d levels a b store has less =
    let room : local_count store + a + levels * most_locals d ≤ local_room store = has.room in
    record { description = has.description; room = omega (arith, room, less) }

-- what was declared meanwhile is no longer wanted
pub left_room : (d : DescriptionTree) (levels a b : ℕ) (old new : Store) → HasRoom d levels a old → Keeps old new → local_count new + b ≤ local_count old + a → HasRoom d levels b new
left_room d levels a b old new has keeps less =
    let room : local_count old + a + levels * most_locals d ≤ local_room old = has.room in
    let same : local_room new ≡ local_room old = keeps.place.machine.room in
    record { description = keeps.place.machine.description ∙ has.description; room = omega (arith, room, same, less) }

-- a body has the room of a level
pub body_room : (d : DescriptionTree) (levels a : ℕ) (old new : Store) → HasRoom d levels 0 old → KeepsPlace old new → local_count new ≡ local_count old → a ≤ most_locals d → 0 < levels → HasRoom d (levels - 1) a new
body_room d zero a old new has keeps same within some = absurd (omega arith)
body_room d (suc k) a old new has keeps same within some =
    let room : local_count old + 0 + suc k * most_locals d ≤ local_room old = has.room in
    let kept : local_room new ≡ local_room old = keeps.machine.room in
    let one : suc k - 1 ≡ k = omega arith in
    let less : (suc k - 1) * most_locals d ≡ k * most_locals d = ap (λ (n : ℕ). n * most_locals d) one in
    let more : suc k * most_locals d ≡ k * most_locals d + most_locals d = omega arith in
    record { description = keeps.machine.description ∙ has.description; room = omega (arith, room, kept, same, within, less, more) }

pub same_machine : (a b c : Store) → KeepsMachine a b → KeepsMachine b c → KeepsMachine a c
same_machine a b c first second = record { description = second.description ∙ first.description; image = second.image ∙ first.image; room = second.room ∙ first.room }

pub same_place : (a b c : Store) → KeepsPlace a b → KeepsPlace b c → KeepsPlace a c
same_place a b c first second = record { machine = same_machine a b c first.machine second.machine; before = second.before ∙ first.before }

pub same_all : (a b c : Store) → Keeps a b → Keeps b c → Keeps a c
same_all a b c first second = record { place = same_place a b c first.place second.place; outer = second.outer ∙ first.outer }
