use Rattle.std.proofs.Common.{ap, sym, subst, ◌∙◌}
use Rattle.lisa_tree.specs.Descriptions.{DescriptionTree, description_tree}
use Rattle.behavior_runs.specs.Rooms.{room_for}
use Rattle.pipeline_time.specs.Sound.{IsSound}
use Rattle.pipeline_runs.specs.Turns.{IsPlanOf}
use Rattle.activation_plans.specs.lisa_meaning.Cores.{core_of}
use Rattle.lisa_sim.proofs.parts.make_pipeline.Goals as goal

pub make-requires-clause-sound : goal.make-requires-clause-sound
make-requires-clause-sound c = subst (λ (t : DescriptionTree). IsSound (core_of t)) (sym c.requires.tree) c.requires.sound

pub make-requires-clause-planned : goal.make-requires-clause-planned
make-requires-clause-planned c = subst (λ (t : DescriptionTree). IsPlanOf (core_of t) c.args.plan.now) (sym c.requires.tree) c.requires.planned
