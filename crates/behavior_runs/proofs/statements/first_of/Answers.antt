use Rattle.std.proofs.Common.{◌∙◌, ap, sym, Option, option_map}
use Rattle.lisa_words.specs.declared.words.Kind.{Kind}
use Rattle.lisa_tree.specs.declared.expressions.Expr.{Expr}
use Rattle.lisa_tree.specs.Expressions.{expr_tree}
use Rattle.typed_values.specs.Words.{TypedWord, as_shape}
use Rattle.typed_values.specs.Effects.{first_of}
use Rattle.scene_paths.specs.lisa_meaning.Values.{reader_of}
use Rattle.moment_stores.specs.Stores.{moment_of}
use Rattle.scene_paths.specs.Sights.{sight_tree, scene_at}
use Rattle.behavior_runs.proofs.statements.first_of.Goals as goal

pub returns-in-Some : goal.returns-in-Some
returns-in-Some c =
    let taken = c.in_kind.ensures ∙ ap (λ (given : Kind → TypedWord). given c.args.shape.kind) c.whole-given.ensures in
    c.as_shape.ensures
    ∙ ap (λ (v : TypedWord). as_shape c.args.shape v) taken
    ∙ sym (ap (λ (e : Option Expr). first_of c.args.shape (reader_of (sight_tree c.args.sight) (scene_at c.args.sight c.args.path.now) (moment_of c.args.store.now)) (option_map expr_tree e)) c.in-Some.is)
