use Rattle.std.proofs.Common.{List, map, refl, arith}
use Rattle.std.specs.List.{flat_map}
use Rattle.lisa_tree.specs.Descriptions.{section_tree}
use Rattle.lisa_printer.specs.CanonicalTokens.{section_tokens}
use Rattle.lisa_tree.specs.declared.descriptions.Section.{Section}
use Rattle.lisa_printer.proofs.LoopLaws.{one_more}
use Rattle.lisa_printer.proofs.sections.put_sections.Goals as goal

pub loop-section-preserved : goal.loop-section-preserved
loop-section-preserved c =
    one_more (λ (xs : List Section). flat_map section_tokens (map section_tree xs)) (λ (x : Section). section_tokens (section_tree x)) (λ x xs. refl)
    c.args.all.now c.loop-section.section-index c.section-item.result c.loop-section.page c.put_section.new.page _ (omega arith) c.section-item.is c.loop-section.invariant c.in_ok-put_section.ensures
