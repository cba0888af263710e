use Rattle.tree_fields.proofs.Read.{whole_read, child_read, values_read}
use Rattle.tree_fields.proofs.laws.parts_are_read_from_words.Goals as goal

pub returns-clause-whole : goal.returns-clause-whole
returns-clause-whole c = λ table ks word o own fits has. whole_read table word ks o own fits has

pub returns-clause-child : goal.returns-clause-child
returns-clause-child c = λ table word o low i k t own is e. child_read table word o low i k t own is e

pub returns-clause-values : goal.returns-clause-values
returns-clause-values c = λ table word o low t is. values_read table word o low t is
