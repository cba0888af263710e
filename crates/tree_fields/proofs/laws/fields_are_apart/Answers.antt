use Rattle.tree_fields.proofs.Ranges.{all_apart}
use Rattle.tree_fields.proofs.Clear.{mask_clear, pattern_clear}
use Rattle.tree_fields.proofs.laws.fields_are_apart.Goals as goal

pub returns-clause-fields : goal.returns-clause-fields
returns-clause-fields c = λ table items f. all_apart table f items

pub returns-clause-mask : goal.returns-clause-mask
returns-clause-mask c = λ table items f. mask_clear table f items

pub returns-clause-pattern : goal.returns-clause-pattern
returns-clause-pattern c = λ table items f. pattern_clear table f items
