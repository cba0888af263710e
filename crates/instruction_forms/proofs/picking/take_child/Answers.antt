use Rattle.std.proofs.Common.{◌≡◌, ◌/◌, ◌∙◌, ℕ, List, Some, sym, ap}
use Rattle.least_fixed_points.specs.Settles.{entry}
use Rattle.coding_tables.specs.coding_checks.Widths.{choice_named}
use Rattle.instruction_forms.specs.Picks.{pick, told}
use Rattle.instruction_forms.proofs.Walking.{taken}
use Rattle.instruction_forms.proofs.picking.take_child.Goals as goal

pub nonzero_div-number : goal.nonzero_div-number
nonzero_div-number g c =
    let d = g.N.Names.tree c.args.sources.now.names.now in
    let named : choice_named d c.args.operation c.args.name.now ≡ Some c.in-Some.choice = sym c.choice_named.ensures ∙ c.in-Some.is in
    let t = taken d (entry c.args.sources.now.counts.now) c.args.sources.now.counted c.args.operation c.args.name.now c.in-Some.choice named c.args.walk.now.left c.requires.split.0 c.args.walk.now.number c.requires.split.1 c.requires.within c.requires.few in
    rw c.of_choice.ensures t.some

pub nonzero_rem-walk : goal.nonzero_rem-walk
nonzero_rem-walk g c =
    let d = g.N.Names.tree c.args.sources.now.names.now in
    let named : choice_named d c.args.operation c.args.name.now ≡ Some c.in-Some.choice = sym c.choice_named.ensures ∙ c.in-Some.is in
    let t = taken d (entry c.args.sources.now.counts.now) c.args.sources.now.counted c.args.operation c.args.name.now c.in-Some.choice named c.args.walk.now.left c.requires.split.0 c.args.walk.now.number c.requires.split.1 c.requires.within c.requires.few in
    rw c.of_choice.ensures t.some

pub returns-clause-left : goal.returns-clause-left
returns-clause-left g c =
    let d = g.N.Names.tree c.args.sources.now.names.now in
    let named : choice_named d c.args.operation c.args.name.now ≡ Some c.in-Some.choice = sym c.choice_named.ensures ∙ c.in-Some.is in
    let t = taken d (entry c.args.sources.now.counts.now) c.args.sources.now.counted c.args.operation c.args.name.now c.in-Some.choice named c.args.walk.now.left c.requires.split.0 c.args.walk.now.number c.requires.split.1 c.requires.within c.requires.few in
    λ m e. ap (λ (k : ℕ). c.args.walk.now.left / k) c.of_choice.ensures ∙ t.rest m e

pub returns-clause-pick : goal.returns-clause-pick
returns-clause-pick g c =
    let d = g.N.Names.tree c.args.sources.now.names.now in
    let named : choice_named d c.args.operation c.args.name.now ≡ Some c.in-Some.choice = sym c.choice_named.ensures ∙ c.in-Some.is in
    let t = taken d (entry c.args.sources.now.counts.now) c.args.sources.now.counted c.args.operation c.args.name.now c.in-Some.choice named c.args.walk.now.left c.requires.split.0 c.args.walk.now.number c.requires.split.1 c.requires.within c.requires.few in
    let q = c.args.walk.now.number / (c.args.walk.now.left / c.of_choice.result) in
    c.pick_among.ensures
    ∙ ap (λ (ks : List ℕ). pick (told (entry c.args.sources.now.counts.now)) ks q c.args.walk.now.high) c.alternatives_at-operations.ensures
    ∙ t.same q c.args.walk.now.high
