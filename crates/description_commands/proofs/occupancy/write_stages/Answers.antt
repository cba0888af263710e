use Rattle.std.proofs.Common.{◌≡◌, ◌∙◌, ap, subst, map}
use Rattle.lisa_tree.specs.Descriptions.{DescriptionTree, description_tree, resource_tree}
use Rattle.lisa_tree.specs.Resources.{stages, stages_in}
use Rattle.lisa_engine.specs.Machines.{course_of, entries_to}
use Rattle.lisa_sim.specs.lisa_meaning.States.{after_edges}
use Rattle.lisa_sim.specs.Simulators.{image_of}
use Rattle.lisa_outcomes.proofs.Writing.{ok_put, failed_put}
use Rattle.description_commands.specs.Occupied.{IsOccupancy}
use Rattle.description_commands.proofs.Watching.{machine, text_same}
use Rattle.description_commands.proofs.occupancy.write_stages.Goals as goal

pub returns-in-Ok-put_stages : goal.returns-in-Ok-put_stages
returns-in-Ok-put_stages g c =
    let first = c.args.simulator.now in
    let lines = c.args.schedule.now in
    let d = description_tree c.args.tools.now.machine in
    let counted = subst (λ (t : DescriptionTree). IsOccupancy t (after_edges t (image_of first) (entries_to (course_of (machine first) lines) c.args.edges)).past c.count_edges-counts.result) c.requires.description c.count_edges-counts.ensures in
    let is : c.pipeline_stages-stages.result.now ≡ stages d =
    c.pipeline_stages-stages.ensures ∙ ap (λ r. stages_in (map resource_tree r)) (c.deref.ensures.value ∙ ap (λ x. x.resources.items) c.description.ensures) in
    ok_put _ _ _ _ _ _ _ (text_same d _ c.count_edges-counts.result c.pipeline_stages-stages.result.now counted is c.requires.tools.forms.limits.few_stages) (rw c.in-Ok-put_stages.is at c.put_stages.ensures)

pub returns : goal.returns
returns g c =
    let first = c.args.simulator.now in
    let lines = c.args.schedule.now in
    let d = description_tree c.args.tools.now.machine in
    let counted = subst (λ (t : DescriptionTree). IsOccupancy t (after_edges t (image_of first) (entries_to (course_of (machine first) lines) c.args.edges)).past c.count_edges-counts.result) c.requires.description c.count_edges-counts.ensures in
    let is : c.pipeline_stages-stages.result.now ≡ stages d =
    c.pipeline_stages-stages.ensures ∙ ap (λ r. stages_in (map resource_tree r)) (c.deref.ensures.value ∙ ap (λ x. x.resources.items) c.description.ensures) in
    failed_put _ _ _ _ _ _ _ (text_same d _ c.count_edges-counts.result c.pipeline_stages-stages.result.now counted is c.requires.tools.forms.limits.few_stages) (rw c.in-Err-put_stages.is at c.put_stages.ensures)
