use Rattle.lowered_resources.proofs.Resting.{puts_rest}
use Rattle.lowered_resources.proofs.Assigning.{puts_lead}
use Rattle.lowered_resources.proofs.PutForms.{puts_formed}
use Rattle.lowered_resources.proofs.laws.assignments_assign.Goals as goal

pub returns-clause-rest : goal.returns-clause-rest
returns-clause-rest c d places p before pins reads stores o scope target x scratch idles = puts_rest p before pins d places reads stores o scope x scratch idles target

pub returns-clause-assign : goal.returns-clause-assign
returns-clause-assign c d places p before pins accepted first lasts are call reads stores scene scope guard from target x v more m now place index is guards one given stand lies h =
    puts_lead d places p first lasts are before pins call scene scope from is accepted guard guards x v m now one given stand h reads stores more target place index

pub returns-clause-formed : goal.returns-clause-formed
returns-clause-formed c d places p accepted first lasts are reads stores o scope guard from target x place computed is guards given lies =
    puts_formed d places p first lasts are scope guard from guards accepted x given reads stores o is target place computed
