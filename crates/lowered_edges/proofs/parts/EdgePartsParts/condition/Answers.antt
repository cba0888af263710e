use Rattle.std.specs.Prelude.{option_map}
use Rattle.std.specs.Borrow.{Bor}
use Rattle.lisa_tree.specs.declared.expressions.Expr.{Expr}
use Rattle.lisa_tree.specs.Expressions.{expr_tree}
use Rattle.lowered_values.specs.Code.{plain}
use Rattle.lowered_edges.specs.Code.{parts_tree, parts_places, parts_types}
use Rattle.lowered_edges.proofs.Parting.{condition_held}
use Rattle.lowered_edges.proofs.parts.EdgePartsParts.condition.Goals as goal

pub returns : goal.returns
returns c =
    let p = c.args.self.now in
    condition_held (parts_tree p) (parts_types p) p.width (parts_places p) c.args.number c.args.test c.args.row (option_map (λ (x : Bor Expr). expr_tree x.now) c.condition_of-condition.result) (plain c.in_ok-value.value)
    c.args.draft.now c.condition_value.new.draft c.hold_test.new.draft c.in_ok-test.test c.condition_of-condition.ensures c.in_ok-value.ensures.draft c.in_ok-value.ensures.out c.in_ok-test.ensures.draft
    c.in_ok-test.ensures.out
