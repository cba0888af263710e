use Rattle.std.proofs.Common.{◌∙◌, sym, ap}
use Rattle.std.specs.Prelude.{option_map}
use Rattle.scene_paths.specs.Sights.{sight_tree, form_of}
use Rattle.scene_paths.specs.Paths.{link_of, links_of}
use Rattle.scene_paths.proofs.Homes.{below_none, below_some}
use Rattle.scene_paths.proofs.paths.child.Goals as goal

pub returns-in-None : goal.returns-in-None
returns-in-None c = sym (below_none (sight_tree c.args.sight.now) (form_of c.args.sight.now) c.args.name.now (links_of (sight_tree c.args.sight.now) (form_of c.args.sight.now) c.args.home.now) (sym c.here.ensures ∙ ap (option_map link_of) c.in-None.is))

pub returns-in-Some : goal.returns-in-Some
returns-in-Some c = c.child_of.ensures ∙ sym (below_some (sight_tree c.args.sight.now) (form_of c.args.sight.now) c.args.name.now (links_of (sight_tree c.args.sight.now) (form_of c.args.sight.now) c.args.home.now) (link_of c.in-Some.here) (sym c.here.ensures ∙ ap (option_map link_of) c.in-Some.is))
