use Rattle.std.proofs.Common.{◌∙◌, ap, sym, Option, option_map}
use Rattle.lisa_words.specs.declared.words.Kind.{Kind}
use Rattle.lisa_tree.specs.declared.expressions.Expr.{Expr}
use Rattle.lisa_tree.specs.Expressions.{expr_tree}
use Rattle.typed_values.specs.Words.{TypedWord, as_shape}
use Rattle.typed_values.specs.Effects.{first_of}
use Rattle.typed_values.proofs.effects.first_of.Goals as goal

pub returns-in-Some : goal.returns-in-Some
returns-in-Some g c =
    let taken = c.in_kind.ensures ∙ ap (λ (given : Kind → TypedWord). given c.args.shape.kind) c.whole-given.ensures in
    c.as_shape.ensures
    ∙ ap (λ (v : TypedWord). as_shape c.args.shape v) taken
    ∙ sym (ap (λ (e : Option Expr). first_of c.args.shape ((g.D.Does.doing c.args.doing.now).reader (g.D.Does.moment c.args.state.now)) (option_map expr_tree e)) c.in-Some.is)
