use Rattle.std.proofs.Common.{◌∙◌, Some, ap}
use Rattle.lisa_meaning.specs.instruction_forms.Trees.{FormTree}
use Rattle.scene_paths.specs.Sights.{sight_tree}
use Rattle.scene_paths.proofs.Decoding.{seen_within, whole_fields, whole_is}
use Rattle.scene_paths.proofs.sight.Sight.whole.Goals as goal

pub form-requires : goal.form-requires
form-requires c = seen_within (sight_tree c.args.self.now) c.forms-forms.result.now c.coding-coding.result.now c.accepted.ensures c.forms-forms.ensures c.coding-coding.ensures c.args.self.now.form c.in-Some.form c.in-Some.is c.args.self.now.within

pub new-requires : goal.new-requires
new-requires c = whole_fields (sight_tree c.args.self.now) c.forms-forms.result.now c.coding-coding.result.now c.accepted.ensures c.forms-forms.ensures c.coding-coding.ensures c.args.self.now.form c.in-Some.form c.in-Some.is c.args.self.now.within c.form.result.now c.form.ensures.is

pub returns-in-Some : goal.returns-in-Some
returns-in-Some c = ap (λ (t : FormTree). Some t) c.new.ensures ∙ whole_is (sight_tree c.args.self.now) c.forms-forms.result.now c.coding-coding.result.now c.accepted.ensures c.forms-forms.ensures c.coding-coding.ensures c.args.self.now.form c.in-Some.form c.in-Some.is c.args.self.now.within c.form.result.now c.form.ensures.is
