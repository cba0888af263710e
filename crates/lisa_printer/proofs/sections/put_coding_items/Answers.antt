use Rattle.std.proofs.Common.{List, refl, arith}
use Rattle.std.specs.List.{flat_map}
use Rattle.lisa_printer.specs.CanonicalTokens.{coding_item_tokens}
use Rattle.lisa_tree.specs.declared.descriptions.CodingItem.{CodingItem}
use Rattle.lisa_printer.proofs.LoopLaws.{one_more}
use Rattle.lisa_printer.proofs.sections.put_coding_items.Goals as goal

pub loop-item-preserved : goal.loop-item-preserved
loop-item-preserved c =
    one_more (λ (xs : List CodingItem). flat_map coding_item_tokens xs) (λ (x : CodingItem). coding_item_tokens x) (λ x xs. refl)
    c.args.all.now c.loop-item.item-index c.item-item.result c.loop-item.page c.put_coding_item.new.page _ (omega arith) c.item-item.is c.loop-item.invariant c.in_ok-put_coding_item.ensures
