use Rattle.pattern_tables.proofs.Treed.{decoded_tree, decoded_form, only_decoded, none_decoded}
use Rattle.pattern_tables.proofs.laws.decoded_words_have_one_tree.Goals as goal

pub returns-clause-found : goal.returns-clause-found
returns-clause-found c = decoded_tree

pub returns-clause-form : goal.returns-clause-form
returns-clause-form c = decoded_form

pub returns-clause-only : goal.returns-clause-only
returns-clause-only c = only_decoded

pub returns-clause-none : goal.returns-clause-none
returns-clause-none c = none_decoded
