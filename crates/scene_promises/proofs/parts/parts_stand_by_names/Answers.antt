use Rattle.coding_tables.specs.Codings.{coding_table}
use Rattle.scene_promises.proofs.Formed.{child_stands, label_is, whole_stands}
use Rattle.scene_promises.proofs.parts.parts_stand_by_names.Goals as goal

pub returns-clause-whole : goal.returns-clause-whole
returns-clause-whole c = λ d coding word k is one.
    whole_stands d coding word k (λ ks o own fits has. c.parts_are_read_from_words.ensures.whole (coding_table d) ks word o own fits has) is one

pub returns-clause-child : goal.returns-clause-child
returns-clause-child c = λ d word o low n t k own is e.
    child_stands d word o low n t k own (λ i f. c.parts_are_read_from_words.ensures.child (coding_table d) word o low i k t own is f) e

pub returns-clause-label : goal.returns-clause-label
returns-clause-label c = λ d word o low n t v is e. label_is d word o low n t v (c.parts_are_read_from_words.ensures.values (coding_table d) word o low t is) e
