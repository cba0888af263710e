use Rattle.std.proofs.Common.{List, map, sym, subst}
use Rattle.instruction_texts.specs.declared.shapes.Shape.{Shape}
use Rattle.lisa_syntax.specs.Orders.{AreOrdersOf}
use Rattle.lisa_syntax.proofs.making.kept.Goals as goal

pub invariant_of-result-clause-ordered : goal.invariant_of-result-clause-ordered
invariant_of-result-clause-ordered c = subst (λ (us : List (List Shape)). AreOrdersOf us (map (λ v. v.items) c.args.texts.orders.items)) (sym c.in_ok-table.ensures) c.requires.ordered
