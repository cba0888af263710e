use Rattle.std.proofs.Common.{◌∙◌, ap, sym, Option, option_map}
use Rattle.lisa_words.specs.declared.words.Kind.{Kind}
use Rattle.lisa_tree.specs.declared.expressions.Expr.{Expr}
use Rattle.lisa_tree.specs.Expressions.{expr_tree}
use Rattle.lowered_values.specs.Operands.{Operand}
use Rattle.lowered_values.specs.Templates.{as_shape}
use Rattle.lowered_statements.specs.Stated.{first_of}
use Rattle.lowered_statements.specs.Code.{base, scope_of}
use Rattle.lowered_statements.proofs.pieces.first_of.Goals as goal

pub returns-in_ok-as_shape-in-Some-clause-out : goal.returns-in_ok-as_shape-in-Some-clause-out
returns-in_ok-as_shape-in-Some-clause-out g c =
    let reads = (g.L.Lowers.scenes c.args.lowers.now).reads c.args.scene.now in
    let taken = c.in_kind.ensures ∙ ap (λ (given : Kind → Operand). given c.args.shape.kind) c.in_ok-given-in-Some.ensures.out in
    c.in_ok-as_shape-in-Some.ensures
    ∙ ap (λ (x : Operand). as_shape c.args.shape x) taken
    ∙ sym (ap (λ (e : Option Expr). (first_of reads (scope_of c.args.locals.now) (base c.args.draft.now) c.args.shape (option_map expr_tree e)).out) c.in-Some.is)
