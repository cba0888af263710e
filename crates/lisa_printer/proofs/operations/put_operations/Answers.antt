use Rattle.std.proofs.Common.{List, map, refl, arith}
use Rattle.std.specs.List.{flat_map}
use Rattle.lisa_tree.specs.Descriptions.{operation_tree}
use Rattle.lisa_printer.specs.CanonicalTokens.{operation_tokens}
use Rattle.lisa_tree.specs.declared.descriptions.Operation.{Operation}
use Rattle.lisa_printer.proofs.LoopLaws.{one_more}
use Rattle.lisa_printer.proofs.operations.put_operations.Goals as goal

pub loop-operation-preserved : goal.loop-operation-preserved
loop-operation-preserved c =
    one_more (λ (xs : List Operation). flat_map operation_tokens (map operation_tree xs)) (λ (x : Operation). operation_tokens (operation_tree x)) (λ x xs. refl)
    c.args.all.now c.loop-operation.operation-index c.operation-item.result c.loop-operation.page c.put_operation.new.page _ (omega arith) c.operation-item.is c.loop-operation.invariant c.in_ok-put_operation.ensures
