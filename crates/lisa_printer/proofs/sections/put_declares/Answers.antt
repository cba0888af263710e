use Rattle.std.proofs.Common.{List, map, refl, arith}
use Rattle.std.specs.List.{flat_map}
use Rattle.lisa_tree.specs.Descriptions.{declare_tree}
use Rattle.lisa_printer.specs.CanonicalTokens.{declare_tokens}
use Rattle.lisa_tree.specs.declared.descriptions.Declare.{Declare}
use Rattle.lisa_printer.proofs.LoopLaws.{one_more}
use Rattle.lisa_printer.proofs.sections.put_declares.Goals as goal

pub loop-declare-preserved : goal.loop-declare-preserved
loop-declare-preserved c =
    one_more (λ (xs : List Declare). flat_map declare_tokens (map declare_tree xs)) (λ (x : Declare). declare_tokens (declare_tree x)) (λ x xs. refl)
    c.args.all.now c.loop-declare.declare-index c.declare-item.result c.loop-declare.page c.put_declare.new.page _ (omega arith) c.declare-item.is c.loop-declare.invariant c.in_ok-put_declare.ensures
