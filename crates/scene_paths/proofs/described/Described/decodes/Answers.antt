use Rattle.std.proofs.Common.{◌∙◌, ap}
use Rattle.std.specs.Prelude.{is_some}
use Rattle.lisa_tree.specs.Descriptions.{description_tree}
use Rattle.scene_paths.proofs.Decoding.{found_is}
use Rattle.scene_paths.proofs.described.Described.decodes.Goals as goal

pub returns : goal.returns
returns c = c.is_some.ensures ∙ ap is_some (found_is (description_tree c.args.self.now) c.coding.result.now c.coding.ensures c.args.word c.form_of.result c.form_of.ensures)
