use Rattle.std.proofs.Common.{sym, subst, inr, List}
use Rattle.lisa_tree.specs.declared.descriptions.Description.{Description}
use Rattle.lisa_tree.specs.Descriptions.{description_tree}
use Rattle.lisa_forms.specs.instruction_forms.declared.form.Form.{Form}
use Rattle.lisa_forms.specs.instruction_forms.Described.{AreForms}
use Rattle.lisa_syntax.proofs.Made.{texts_sized, texts_level, texts_few, texts_ordered, none_ambiguous, first_ambiguous, made}
use Rattle.lisa_syntax.proofs.syntax.Syntax.make.Goals as goal

pub text_parts-requires : goal.text_parts-requires
text_parts-requires c = subst (λ (x : Description). AreForms (description_tree x) c.forms.result.now) (sym c.description.ensures) (subst (λ (fs : List Form). AreForms (description_tree c.args.machine.now) fs) (sym c.forms.ensures.is) c.requires.forms.all_forms)

pub first_shared-requires : goal.first_shared-requires
first_shared-requires c = texts_sized c.args.machine.now c.description.result.now c.description.ensures c.in_ok-texts.texts c.in_ok-texts.ensures c.accepted.ensures.accepted c.requires.forms.has_forms

pub kept-requires-clause-sized : goal.kept-requires-clause-sized
kept-requires-clause-sized c = texts_sized c.args.machine.now c.description.result.now c.description.ensures c.in_ok-texts.texts c.in_ok-texts.ensures c.accepted.ensures.accepted c.requires.forms.has_forms

pub kept-requires-clause-level : goal.kept-requires-clause-level
kept-requires-clause-level c = texts_level c.args.machine.now c.description.result.now c.description.ensures c.in_ok-texts.texts c.in_ok-texts.ensures c.accepted.ensures.accepted c.requires.forms.has_forms

pub kept-requires-clause-few : goal.kept-requires-clause-few
kept-requires-clause-few c = texts_few c.args.machine.now c.description.result.now c.description.ensures c.in_ok-texts.texts c.in_ok-texts.ensures c.accepted.ensures.accepted c.requires.forms.has_forms c.requires.forms.limits.few_forms

pub returns-in_ok-ambiguity-in-Some-clause-fault :
    goal.returns-in_ok-ambiguity-in-Some-clause-fault
returns-in_ok-ambiguity-in-Some-clause-fault c =
    inr (first_ambiguous c.args.machine.now c.description.result.now c.description.ensures c.in_ok-texts.texts c.in_ok-texts.ensures c.accepted.ensures.accepted c.requires.forms.has_forms
    c.in_ok-shared.field-0 c.in_ok-shared.ensures c.in-Some.shared c.in-Some.is c.in_ok-ambiguity-in-Some.field-0 c.in_ok-ambiguity-in-Some.ensures)

pub returns-in_ok-kept-in-None-clause-plain : goal.returns-in_ok-kept-in-None-clause-plain
returns-in_ok-kept-in-None-clause-plain c =
    none_ambiguous c.args.machine.now c.description.result.now c.description.ensures c.in_ok-texts.texts c.in_ok-texts.ensures c.accepted.ensures.accepted c.requires.forms.has_forms
    c.in_ok-shared.field-0 c.in_ok-shared.ensures c.in-None.is

pub kept-requires-clause-ordered : goal.kept-requires-clause-ordered
kept-requires-clause-ordered c = texts_ordered c.args.machine.now c.description.result.now c.description.ensures c.in_ok-texts.texts c.in_ok-texts.ensures c.accepted.ensures.accepted c.requires.forms.has_forms

pub returns-in_ok-kept-in-None-clause-syntax : goal.returns-in_ok-kept-in-None-clause-syntax
returns-in_ok-kept-in-None-clause-syntax c =
    made c.args.machine.now c.description.result.now c.description.ensures c.in_ok-texts.texts c.in_ok-texts.ensures c.accepted.ensures.accepted c.requires.forms.has_forms
    (none_ambiguous c.args.machine.now c.description.result.now c.description.ensures c.in_ok-texts.texts c.in_ok-texts.ensures c.accepted.ensures.accepted c.requires.forms.has_forms c.in_ok-shared.field-0 c.in_ok-shared.ensures c.in-None.is)
    c.in_ok-kept-in-None.field-0 c.in_ok-kept-in-None.ensures.shapes c.in_ok-kept-in-None.ensures.orders
