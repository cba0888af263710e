use Rattle.lowered_words.proofs.Agreeing.{agree}
use Rattle.lowered_words.proofs.Labelled.{label_is, label_stands}
use Rattle.lowered_words.proofs.laws.parts_agree.Goals as goal

pub returns-clause-forms : goal.returns-clause-forms
returns-clause-forms c d width wide f g w x y i j a b = agree d width wide f g w x y i j a b

pub returns-clause-labels : goal.returns-clause-labels
returns-clause-labels c d width wide word f part w n has is = label_is d width wide word f part w n has is

pub returns-clause-stand : goal.returns-clause-stand
returns-clause-stand c d width accepted wide w n f is = label_stands d width accepted wide w n f is
