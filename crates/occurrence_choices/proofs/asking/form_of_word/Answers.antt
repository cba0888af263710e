use Rattle.scene_paths.proofs.Decoding.{found_is, decoded_within}
use Rattle.occurrence_choices.proofs.asking.form_of_word.Goals as goal

pub returns-clause-form : goal.returns-clause-form
returns-clause-form c d is = found_is d c.args.coding.now is c.args.word c.form_of.result c.form_of.ensures

pub returns-clause-within : goal.returns-clause-within
returns-clause-within c d is = decoded_within d c.args.word c.form_of.result (c.form_of.ensures d is)
