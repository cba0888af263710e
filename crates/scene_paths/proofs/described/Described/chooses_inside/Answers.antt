use Rattle.lisa_tree.specs.Descriptions.{description_tree}
use Rattle.scene_paths.proofs.Decoding.{found_within, none_chooses, form_chooses, occurrence_within}
use Rattle.scene_paths.proofs.described.Described.chooses_inside.Goals as goal

pub chooses-requires-clause-form : goal.chooses-requires-clause-form
chooses-requires-clause-form c = found_within (description_tree c.args.self.now) c.coding.result.now c.coding.ensures c.args.word c.form_of.result c.form_of.ensures c.forms.result.now c.in-Some.form c.forms.ensures c.in-Some.is

pub chooses-requires-clause-occurrence : goal.chooses-requires-clause-occurrence
chooses-requires-clause-occurrence c = occurrence_within (description_tree c.args.self.now) c.forms.result.now c.args.number c.args.own c.forms.ensures c.requires.there

pub returns-in-None : goal.returns-in-None
returns-in-None c = none_chooses (description_tree c.args.self.now) c.coding.result.now c.coding.ensures c.args.word c.form_of.result c.form_of.ensures c.args.number c.args.own c.requires.there c.requires.past c.in-None.is

pub returns-in-Some : goal.returns-in-Some
returns-in-Some c =
    form_chooses (description_tree c.args.self.now) c.coding.result.now c.coding.ensures c.args.word c.form_of.result c.form_of.ensures c.args.number c.in-Some.form c.args.own c.chooses.result c.requires.there
    c.requires.past c.in-Some.is (c.chooses.ensures (description_tree c.args.self.now) c.forms.ensures)
