use Rattle.std.proofs.Common.{[], ◌∙◌, arith}
use Rattle.lisa_tree.specs.Descriptions.{description_tree}
use Rattle.behavior_runs.specs.scene_paths.Lookups.{tree_of}
use Rattle.lisa_sim.specs.Bodies.{lasting_of}
use Rattle.lisa_sim.specs.Runnings.{CanRun}
use Rattle.lisa_sim.proofs.Begun.{plan_counted}
use Rattle.lisa_sim.proofs.Going.{shows_state}
use Rattle.lisa_sim.proofs.Keeping.{begins}
use Rattle.lisa_sim.proofs.runner.Runner.make.Goals as goal

pub make_pipeline-requires-clause-sound : goal.make_pipeline-requires-clause-sound
make_pipeline-requires-clause-sound c = c.cores_are_sound.ensures (description_tree c.args.machine.now) c.accepted.ensures.accepted c.requires.forms.has_forms

pub make_pipeline-requires-clause-few : goal.make_pipeline-requires-clause-few
make_pipeline-requires-clause-few c =
    let d = description_tree c.args.machine.now in
    let limits = (c.sizes_are_limited.ensures d c.requires.forms.has_forms).2.few_occurrences in
    let count = plan_counted d c.in-Ok.parts.plan c.in-Ok.ensures.plan (c.trees_are_occurrences.ensures d c.accepted.ensures.accepted) in
    omega (arith, limits, count)

pub invariant_of-result : goal.invariant_of-result
invariant_of-result c =
    let d = description_tree c.args.machine.now in
    let parts = c.in-Ok.parts in
    let made = c.in-Ok.ensures in
    let p = c.in_ok-pipeline.pipeline in
    let e = c.in_ok-pipeline.ensures in
    let count = plan_counted d parts.plan made.plan (c.trees_are_occurrences.ensures d c.accepted.ensures.accepted) in
    let runs : CanRun d c.args.image.now = record {
      accepted = c.accepted.ensures.accepted;
      sound = c.cores_are_sound.ensures d c.accepted.ensures.accepted c.requires.forms.has_forms;
      few = (c.sizes_are_limited.ensures d c.requires.forms.has_forms).2.few_stages;
      rules = c.requires.image;
      found = e.found;
    } in
    begins d (tree_of p.edge.store.described) c.args.image.now p.edge.store.image parts.plan parts.places.items (lasting_of p.edge.store) p.edge.queues p.words e.tree e.image runs made.places e.equipped (e.equipped.as_many ∙ count) e.shows

pub returns-clause-first : goal.returns-clause-first
returns-clause-first c =
    let d = description_tree c.args.machine.now in
    let parts = c.in-Ok.parts in
    let p = c.in_ok-pipeline.pipeline in
    let e = c.in_ok-pipeline.ensures in
    let runs : CanRun d c.args.image.now = record {
      accepted = c.accepted.ensures.accepted;
      sound = c.cores_are_sound.ensures d c.accepted.ensures.accepted c.requires.forms.has_forms;
      few = (c.sizes_are_limited.ensures d c.requires.forms.has_forms).2.few_stages;
      rules = c.requires.image;
      found = e.found;
    } in
    shows_state d c.args.image.now runs parts.places.items c.in-Ok.ensures.places (lasting_of p.edge.store) p.edge.queues p.words [] e.shows
