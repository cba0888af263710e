use Rattle.std.proofs.Common.{◌∙◌, Some, sym, ap}
use Rattle.std.specs.Prelude.{option_map}
use Rattle.std.specs.Borrow.{Bor}
use Rattle.lisa_meaning.specs.instruction_forms.declared.form.Form.{Form}
use Rattle.lisa_meaning.specs.instruction_forms.Trees.{FormTree, form_tree}
use Rattle.scene_paths.specs.Sights.{sight_tree}
use Rattle.scene_paths.proofs.Decoding.{seen_within, seen_fields, seen_part, kept_count}
use Rattle.scene_paths.proofs.sight.Sight.part.Goals as goal

pub part-requires-clause-form : goal.part-requires-clause-form
part-requires-clause-form c = seen_within (sight_tree c.args.self.now) c.forms-forms.result.now c.coding-coding.result.now c.accepted.ensures c.forms-forms.ensures c.coding-coding.ensures c.args.self.now.form c.in-Some.form c.in-Some.is c.args.self.now.within

pub part-requires-clause-occurrence : goal.part-requires-clause-occurrence
part-requires-clause-occurrence c = kept_count (sight_tree c.args.self.now) c.forms-forms.result.now c.args.occurrence c.forms-forms.ensures c.requires

pub new-requires : goal.new-requires
new-requires c = seen_fields (sight_tree c.args.self.now) c.forms-forms.result.now c.coding-coding.result.now c.accepted.ensures c.forms-forms.ensures c.coding-coding.ensures c.args.self.now.form c.in-Some.form c.in-Some.is c.args.self.now.within c.args.occurrence c.part.result c.part.ensures c.in-Some-part.part c.in-Some-part.is

pub returns-in-None-part : goal.returns-in-None-part
returns-in-None-part c = sym (ap (option_map (λ (x : Bor Form). form_tree x.now)) c.in-None-part.is) ∙ seen_part (sight_tree c.args.self.now) c.forms-forms.result.now c.coding-coding.result.now c.accepted.ensures c.forms-forms.ensures c.coding-coding.ensures c.args.self.now.form c.in-Some.form c.in-Some.is c.args.self.now.within c.args.occurrence c.part.result c.part.ensures

pub returns-in-Some-part : goal.returns-in-Some-part
returns-in-Some-part c = ap (λ (t : FormTree). Some t) c.new.ensures ∙ sym (ap (option_map (λ (x : Bor Form). form_tree x.now)) c.in-Some-part.is) ∙ seen_part (sight_tree c.args.self.now) c.forms-forms.result.now c.coding-coding.result.now c.accepted.ensures c.forms-forms.ensures c.coding-coding.ensures c.args.self.now.form c.in-Some.form c.in-Some.is c.args.self.now.within c.args.occurrence c.part.result c.part.ensures
