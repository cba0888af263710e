use Rattle.std.proofs.Common.{◌∙◌, Option, sym, ap, ap₂}
use Rattle.std.specs.Prelude.{option_map}
use Rattle.lisa_tree.specs.Descriptions.{DescriptionTree}
use Rattle.lisa_meaning.specs.activation_trees.Starting.{plain_named}
use Rattle.lisa_meaning.specs.Scenes.{Link, chosen, onto}
use Rattle.scene_paths.specs.Sights.{sight_tree, form_of}
use Rattle.scene_paths.specs.Paths.{link_of, links_of}
use Rattle.scene_paths.proofs.paths.child_of.Goals as goal

pub returns-in-None : goal.returns-in-None
returns-in-None c = ap (λ (o : Option Link). onto o (links_of (sight_tree c.args.sight.now) (form_of c.args.sight.now) c.args.home.now)) (sym (ap (option_map link_of) c.in-None.is) ∙ c.chosen.ensures ∙ ap₂ chosen (c.plain_named-all.ensures ∙ ap (λ (t : DescriptionTree). plain_named t c.args.here.operation c.args.name.now) c.described.ensures) c.child_part.ensures)

pub returns-in-Some : goal.returns-in-Some
returns-in-Some c = ap (λ (o : Option Link). onto o (links_of (sight_tree c.args.sight.now) (form_of c.args.sight.now) c.args.home.now)) (sym (ap (option_map link_of) c.in-Some.is) ∙ c.chosen.ensures ∙ ap₂ chosen (c.plain_named-all.ensures ∙ ap (λ (t : DescriptionTree). plain_named t c.args.here.operation c.args.name.now) c.described.ensures) c.child_part.ensures)
