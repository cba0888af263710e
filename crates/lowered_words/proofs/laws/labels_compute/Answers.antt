use Rattle.lowered_words.proofs.Labelled.{label_computes, label_formed}
use Rattle.lowered_words.proofs.laws.labels_compute.Goals as goal

pub returns-clause-values : goal.returns-clause-values
returns-clause-values c d width accepted wide p before pins base from word w n f part now row room lies has fits is reached =
    label_computes d width p accepted wide base from before pins word w n f part now row room lies has fits is reached

pub returns-clause-formed : goal.returns-clause-formed
returns-clause-formed c d width accepted wide p base from w n row lies = label_formed d width p accepted wide base from w n row lies
