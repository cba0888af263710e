use Rattle.std.proofs.Common.{◌++◌, List, arith}
use Rattle.std.proofs.Common.{sym, append_assoc}
use Rattle.lisa_tree.specs.DescriptionGrammar.{joint_tokens, syntax_part_tokens, syntax_tokens}
use Rattle.lisa_tree.specs.declared.descriptions.SyntaxItem.{SyntaxItem}
use Rattle.lisa_printer.proofs.LoopLaws.{one_more}
use Rattle.lisa_printer.proofs.sections.put_syntax.Goals as goal

pub loop-item-preserved : goal.loop-item-preserved
loop-item-preserved c =
    one_more (λ (xs : List SyntaxItem). syntax_tokens xs) (λ (x : SyntaxItem). joint_tokens x.joined ++ syntax_part_tokens x.part) (λ x xs. sym (append_assoc (joint_tokens x.joined) (syntax_part_tokens x.part) (syntax_tokens xs)))
    c.args.all.now c.loop-item.item-index c.item-item.result c.loop-item.page c.put_syntax_item.new.page _ (omega arith) c.item-item.is c.loop-item.invariant c.in_ok-put_syntax_item.ensures
