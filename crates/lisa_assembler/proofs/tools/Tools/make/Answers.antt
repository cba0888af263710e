use Rattle.std.proofs.Common.{◌∙◌, List, refl, sym, subst}
use Rattle.lisa_tree.specs.Descriptions.{description_tree}
use Rattle.instruction_forms.specs.declared.form.Form.{Form}
use Rattle.instruction_forms.specs.Described.{AreForms}
use Rattle.lisa_assembler.proofs.tools.Tools.make.Goals as goal

pub returns : goal.returns
returns c =
    let d = description_tree c.args.machine.now in
    let are : AreForms d c.forms.result.now = subst (λ (fs : List Form). AreForms d fs) (sym c.forms.ensures.is) c.requires.forms.all_forms in (
      refl,
      record {
        forms = c.requires.forms;
        coding = c.requires.coding;
        syntax = c.requires.syntax;
        memories = c.in_ok-memories.ensures ∙ c.requires.memories;
        fields = c.in_ok-fields.ensures d are;
      },
    )
