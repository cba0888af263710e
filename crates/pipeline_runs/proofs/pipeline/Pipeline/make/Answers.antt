use Rattle.std.proofs.Common.{List, map, sym, ap, ◌∙◌, subst}
use Rattle.std.specs.List.{AllByRecursion}
use Rattle.lisa_activation.specs.declared.placing.Placing.{Placing}
use Rattle.lisa_activation.specs.Queued.{AreQueuesFor}
use Rattle.pipeline_runs.specs.declared.tree.Occurrence.{Occurrence}
use Rattle.pipeline_runs.specs.Pipelines.{IsStaged}
use Rattle.pipeline_runs.proofs.Places.{all_staged, equipped}
use Rattle.pipeline_runs.proofs.pipeline.Pipeline.make.Goals as goal

pub placings-requires : goal.placings-requires
placings-requires g c =
    subst (λ (xs : List Occurrence). AllByRecursion IsStaged xs) (sym c.deref.ensures.value)
    (all_staged (g.B.Behaves.core c.args.store) c.requires.sound c.args.plan.now c.requires.planned)

pub returns-clause-equipped : goal.returns-clause-equipped
returns-clause-equipped g c =
    let levels = c.in_ok-placings.ensures in
    let queues = c.in_ok-queues.queues in
    equipped (g.B.Behaves.core c.args.store) c.requires.sound c.args.plan.now c.requires.planned c.in_ok-placings.placings.items
    (levels.own ∙ ap (λ (xs : List Occurrence). map (λ o. o.level) xs) c.deref.ensures.value)
    (levels.above ∙ ap (λ (xs : List Occurrence). map (λ o. o.above) xs) c.deref.ensures.value)
    queues
    (subst (λ (ps : List Placing). AreQueuesFor ps queues) c.deref-2.ensures.value c.in_ok-queues.ensures.tables)
