use Rattle.lisa_tree.specs.Descriptions.{description_tree}
use Rattle.scene_paths.proofs.Decoding.{decoded_within}
use Rattle.scene_paths.proofs.sight.Sight.with.Goals as goal

pub invariant_of-result : goal.invariant_of-result
invariant_of-result c = record { within = decoded_within (description_tree c.args.described.now) c.args.word c.form_of.result (c.form_of.ensures (description_tree c.args.described.now) c.coding.ensures) }
