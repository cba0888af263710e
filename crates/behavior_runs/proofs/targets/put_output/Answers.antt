use Rattle.std.proofs.Common.{◌∙◌, sym}
use Rattle.lisa_tree.specs.Descriptions.{description_tree}
use Rattle.behavior_runs.proofs.Registered.{field_least, field_most}
use Rattle.behavior_runs.proofs.targets.put_output.Goals as goal

pub word_for-word-requires-clause-least : goal.word_for-word-requires-clause-least
word_for-word-requires-clause-least c = field_least (description_tree c.described-described.result.now) c.accepted.ensures c.in-Some-field_place.place c.in-Some-shape_at.shape (sym c.shape_at.ensures ∙ c.in-Some-shape_at.is)

pub word_for-word-requires-clause-most : goal.word_for-word-requires-clause-most
word_for-word-requires-clause-most c = field_most (description_tree c.described-described.result.now) c.accepted.ensures c.in-Some-field_place.place c.in-Some-shape_at.shape (sym c.shape_at.ensures ∙ c.in-Some-shape_at.is)
