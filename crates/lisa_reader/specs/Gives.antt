-- What the readers of sections and operations answer.
use Rattle.std.specs.Prelude.{◌≡◌, List, map, Option, option_map}
use Rattle.std.specs.Borrow.{Bor}
use Rattle.std.specs.Global.{Vec}
use Rattle.lisa_tree.specs.declared.tokens.Token.{Token}
use Rattle.lisa_tree.specs.declared.descriptions.Section.{Section}
use Rattle.lisa_tree.specs.declared.descriptions.Operation.{Operation}
use Rattle.lisa_tree.specs.declared.descriptions.Resource.{Resource}
use Rattle.lisa_tree.specs.Descriptions.{SectionTree, OperationTree, ResourceTree, section_tree, operation_tree, resource_tree}
use Rattle.lisa_tree.specs.Grammar.{Toks}
use Rattle.lisa_tree.specs.Tokens.{toks}
use Rattle.lisa_reader.specs.Reading.{Part}

abbrev pub seen_section : Section × Bor (List Token) → SectionTree × Toks
seen_section x = (section_tree x.0, toks x.1.now)

abbrev pub seen_part : Option Section × Bor (List Token) → Part × Toks
seen_part x = (option_map section_tree x.0, toks x.1.now)

abbrev pub seen_sections : Vec Section × Bor (List Token) → List SectionTree × Toks
seen_sections x = (map section_tree x.0.items, toks x.1.now)

abbrev pub seen_operation : Operation × Bor (List Token) → OperationTree × Toks
seen_operation x = (operation_tree x.0, toks x.1.now)

abbrev pub seen_resources : Vec Resource × Bor (List Token) → List ResourceTree × Toks
seen_resources x = (map resource_tree x.0.items, toks x.1.now)
