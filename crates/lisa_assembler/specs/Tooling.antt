-- What the sources of a description are assembled by.
use Rattle.std.specs.Prelude.{◌≡◌, map}
use Rattle.lisa_tree.specs.Descriptions.{DescriptionTree, description_tree}
use Rattle.lisa_syntax.specs.lisa_forms.Parts.{AreFormsOf}
use Rattle.lisa_syntax.specs.lisa_forms.Codings.{IsCodingOf}
use Rattle.lisa_syntax.specs.Parts.{IsSyntaxOf}
use Rattle.lisa_assembler.specs.declared.tools.Tools.{Tools}
use Rattle.lisa_assembler.specs.Fields.{AreFieldBits}
use Rattle.lisa_assembler.specs.Memories.{memory_items}

-- the forms, codings, texts and memories of a description, and the bits of its forms' fields
pub record AreToolsOf (d : DescriptionTree) (t : Tools) : Type 0 where
  pub forms : AreFormsOf d t.forms.now
  pub coding : IsCodingOf d t.coding.now
  pub syntax : IsSyntaxOf d t.syntax.now
  pub memories : t.memories.all.now ≡ memory_items d
  pub fields : AreFieldBits d (map (λ row. row.items) t.fields.items)

-- the tools are those of the description of their machine
abbrev pub AreTools : Tools → Type 0
AreTools t = AreToolsOf (description_tree t.machine.now) t
