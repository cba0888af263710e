use Rattle.occurrence_choices.proofs.choices.Choices.form_of.Goals as goal

pub returns-else-word-self-clause-form : goal.returns-else-word-self-clause-form
returns-else-word-self-clause-form c = c.args.self.now.of_coding c.args.word c.form_of.result c.form_of.ensures

pub returns-else-word-self-clause-within : goal.returns-else-word-self-clause-within
returns-else-word-self-clause-within c = c.args.self.now.inside c.args.word c.form_of.result c.form_of.ensures
