use Rattle.std.proofs.Common.{◌≡◌, ◌∙◌, false, sym, ap}
use Rattle.lisa_tree.specs.Descriptions.{DescriptionTree}
use Rattle.scene_paths.specs.lisa_meaning.Scenes.{declared, is_label}
use Rattle.scene_paths.specs.Paths.{link_of, links_of}
use Rattle.scene_paths.specs.Sights.{form_of, scene_at}
use Rattle.behavior_runs.specs.Views.{view_tree}
use Rattle.behavior_runs.proofs.Names.{child_declared}
use Rattle.behavior_runs.proofs.view.View.declared.Goals as goal

pub returns-else-is_label : goal.returns-else-is_label
returns-else-is_label c =
    let view = c.args.self.now in
    let here = c.in-Some.here in
    let n = c.args.name.now in
    let other : is_label (declared (view_tree view) here.operation n) ≡ false =
    ap (λ (d : DescriptionTree). is_label (declared d here.operation n)) (sym c.described.ensures) ∙ ap is_label (sym c.declared.ensures) ∙ sym c.is_label.ensures ∙ c.if-is_label.false in
    λ below. child_declared below (view_tree view) (scene_at view.sight c.args.home) n (links_of (view_tree view) (form_of view.sight) c.args.home) (link_of here) c.in-Some.ensures other
