use Rattle.lowered_layouts.proofs.lowered_words_proofs.Choices.{part_is}
use Rattle.lowered_edges.proofs.Scenes.{scene_is}
use Rattle.lowered_edges.proofs.laws.scenes_stand.Goals as goal

pub returns : goal.returns
returns c d types width k w = scene_is d types width (part_is d) k w
