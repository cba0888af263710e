use Rattle.std.proofs.Common.{ap, ◌∙◌}
use Rattle.lisa_tree.specs.declared.descriptions.Description.{Description}
use Rattle.activation_plans.specs.lisa_meaning.Cores.{behave, core_of}
use Rattle.behavior_runs.specs.scene_paths.Lookups.{tree_of}
use Rattle.lisa_sim.specs.Bodies.{Seen, kept_of}
use Rattle.lisa_sim.proofs.Lasting.{fits_still, kept_still}
use Rattle.lisa_sim.proofs.edges.BodyBehaves.behave.Goals as goal

pub invariant_of-self : goal.invariant_of-self
invariant_of-self c =
    let e = c.see_and_behave.ensures in
    fits_still c.self.inside.chooser c.see_and_behave.new.chooser c.self.inside.store c.see_and_behave.new.store e.keeps.place e.count e.chooser c.self.invariant

pub returns-clause-kept : goal.returns-clause-kept
returns-clause-kept c =
    let e = c.see_and_behave.ensures in
    kept_still c.self.inside.chooser c.see_and_behave.new.chooser c.self.inside.store c.see_and_behave.new.store e.keeps.place e.chooser
    ∙ ap kept_of c.self.view_is

pub returns-clause-moment : goal.returns-clause-moment
returns-clause-moment c = c.see_and_behave.ensures.moment ∙ ap (λ (b : Seen). behave (tree_of b.described) c.args.number c.args.word b.moment) c.self.view_is

pub returns-clause-core : goal.returns-clause-core
returns-clause-core c = ap (λ (x : Description). core_of (tree_of x)) (c.see_and_behave.ensures.chooser ∙ ap (λ (b : Seen). b.described) c.self.view_is)
