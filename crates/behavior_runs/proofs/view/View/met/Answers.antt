use Rattle.std.proofs.Common.{◌≡◌, ◌∙◌, false, sym, ap}
use Rattle.lisa_tree.specs.Descriptions.{DescriptionTree}
use Rattle.lisa_tree.specs.Declarations.{is_reference, what_at}
use Rattle.scene_paths.specs.lisa_meaning.Scenes.{is_label}
use Rattle.scene_paths.specs.Paths.{links_of}
use Rattle.scene_paths.specs.Sights.{form_of, scene_at}
use Rattle.behavior_runs.specs.Views.{view_tree}
use Rattle.behavior_runs.proofs.Names.{child_met}
use Rattle.behavior_runs.proofs.view.View.met.Goals as goal

pub returns-else-is_reference : goal.returns-else-is_reference
returns-else-is_reference c =
    let view = c.args.self.now in
    let d = view_tree view in
    let what : c.what-what.result ≡ what_at d c.args.entry = c.what-what.ensures ∙ ap (λ (t : DescriptionTree). what_at t c.args.entry) c.described.ensures in
    let label : is_label (what_at d c.args.entry) ≡ false = ap is_label (sym what) ∙ sym c.is_label.ensures ∙ c.if-is_label.false in
    let reference : is_reference (what_at d c.args.entry) ≡ false = ap is_reference (sym what) ∙ sym c.is_reference.ensures ∙ c.if-is_reference.false in
    λ below. child_met below d (scene_at view.sight c.args.path.now) c.args.name.now c.args.entry (links_of d (form_of view.sight) c.args.path.now) c.requires label reference
