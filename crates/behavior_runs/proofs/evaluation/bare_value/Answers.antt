use Rattle.std.proofs.Common.{◌∙◌, ap}
use Rattle.lisa_tree.specs.Expressions.{expr_tree}
use Rattle.typed_values.specs.Words.{typed_word}
use Rattle.moment_stores.specs.description_sizes.Texts.{levels}
use Rattle.scene_paths.specs.lisa_meaning.Moments.{bare}
use Rattle.moment_stores.specs.Stores.{moment_of}
use Rattle.behavior_runs.specs.Views.{moment_seen}
use Rattle.behavior_runs.proofs.Scenes.{value_whole}
use Rattle.behavior_runs.proofs.evaluation.bare_value.Goals as goal

pub returns : goal.returns
returns c =
    value_whole c.levels-levels.result c.args.sight c.bare.result.sight (bare (moment_of c.args.store.now)) (moment_seen c.bare.result) c.args.path.now (expr_tree c.args.expression.now) (typed_word c.value_at.result)
    (c.levels-levels.ensures ∙ ap levels c.described.ensures) (c.bare.ensures.sight ∙ c.new.ensures.sight) ((c.bare.ensures.moment ∙ ap bare c.new.ensures.moment)) c.value_at.ensures
