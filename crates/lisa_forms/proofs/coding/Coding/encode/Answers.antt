use Rattle.lisa_forms.proofs.Fielded.{form_within, values_within, same_values}
use Rattle.lisa_forms.proofs.Encoded.{word_is, fields_are, decoded_as, covered_as}
use Rattle.lisa_forms.proofs.coding.Coding.encode.Goals as goal

pub word_with-requires-clause-form : goal.word_with-requires-clause-form
word_with-requires-clause-form c =
    let v = c.requires.values in
    form_within v.0 c.args.self.now v.1 c.args.form v.2.within

pub word_with-requires-clause-within : goal.word_with-requires-clause-within
word_with-requires-clause-within c =
    let v = c.requires.values in
    values_within v.0 c.args.self.now v.1 c.args.form c.args.fields.now v.2

pub returns-clause-word : goal.returns-clause-word
returns-clause-word c = λ d is.
    let v = c.requires.values in
    word_is d c.args.form c.args.fields.now c.args.self.now c.word_with.result is c.word_with.ensures (same_values d c.args.self.now is v.0 c.args.form c.args.fields.now v.1 v.2)

pub returns-clause-fields : goal.returns-clause-fields
returns-clause-fields c = λ d is.
    let v = c.requires.values in
    fields_are d c.args.form c.args.fields.now c.args.self.now c.word_with.result is c.word_with.ensures (same_values d c.args.self.now is v.0 c.args.form c.args.fields.now v.1 v.2)

pub returns-clause-decoded : goal.returns-clause-decoded
returns-clause-decoded c = λ d is.
    let v = c.requires.values in
    decoded_as d c.args.form c.args.fields.now c.args.self.now c.word_with.result is c.word_with.ensures (same_values d c.args.self.now is v.0 c.args.form c.args.fields.now v.1 v.2)

pub returns-clause-covered : goal.returns-clause-covered
returns-clause-covered c = λ d is.
    let v = c.requires.values in
    covered_as d c.args.form c.args.fields.now c.args.self.now c.word_with.result is c.word_with.ensures (same_values d c.args.self.now is v.0 c.args.form c.args.fields.now v.1 v.2)
