use Rattle.lisa_forms.proofs.Known.{plain_known, covered_known, one_form}
use Rattle.lisa_forms.proofs.decoding.words_are_decoded.Goals as goal

pub returns-clause-plain : goal.returns-clause-plain
returns-clause-plain c = plain_known

pub returns-clause-covered : goal.returns-clause-covered
returns-clause-covered c = covered_known

pub returns-clause-one : goal.returns-clause-one
returns-clause-one c = one_form
