use Rattle.std.proofs.Common.{List, map, refl, arith}
use Rattle.std.specs.List.{flat_map}
use Rattle.lisa_tree.specs.declared.descriptions.Resource.{Resource}
use Rattle.lisa_tree.specs.Descriptions.{resource_tree}
use Rattle.lisa_printer.specs.CanonicalTokens.{resource_tokens}
use Rattle.lisa_printer.proofs.LoopLaws.{one_more}
use Rattle.lisa_printer.proofs.resources.put_resources.Goals as goal

pub loop-resource-preserved : goal.loop-resource-preserved
loop-resource-preserved c =
    one_more (λ (xs : List Resource). flat_map resource_tokens (map resource_tree xs)) (λ (x : Resource). resource_tokens (resource_tree x)) (λ x xs. refl)
    c.args.all.now c.loop-resource.resource-index c.resource-item.result c.loop-resource.page c.put_resource.new.page _ (omega arith) c.resource-item.is c.loop-resource.invariant c.in_ok-put_resource.ensures
