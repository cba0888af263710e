use Rattle.std.proofs.Common.{IfOk, sym, subst}
use Rattle.lisa_tree.specs.Descriptions.{DescriptionTree}
use Rattle.lisa_forms.specs.instruction_forms.Described.{AreForms}
use Rattle.lisa_forms.specs.form_texts.Instructions.{AreTexts}
use Rattle.lisa_syntax.proofs.parts.text_parts.Goals as goal

pub texts-requires : goal.texts-requires
texts-requires c = record { forms = subst (λ (d : DescriptionTree). AreForms d c.args.forms.now) (sym c.in_ok-tables.ensures) c.requires }

pub returns : goal.returns
returns c = subst (λ (d : DescriptionTree). IfOk c.texts.result (AreTexts d)) c.in_ok-tables.ensures c.texts.ensures
