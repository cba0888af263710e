use Rattle.std.proofs.Common.{refl}
use Rattle.lisa_tree.specs.Resources.{stage_at}
use Rattle.lowered_resources.specs.Places.{Stall, Flush}
use Rattle.lowered_resources.proofs.Standing.{stage_level}
use Rattle.lowered_resources.proofs.Resting.{told_rest}
use Rattle.lowered_resources.proofs.Assigning.{stall_leads, flush_leads}
use Rattle.lowered_resources.proofs.PutForms.{level_formed}
use Rattle.lowered_resources.proofs.laws.controls_act.Goals as goal

pub returns-clause-rest : goal.returns-clause-rest
returns-clause-rest c d places p before pins n = (told_rest p before pins d places Stall n, told_rest p before pins d places Flush n)

pub returns-clause-act : goal.returns-clause-act
returns-clause-act c d places p before pins first lasts are call scene scope n = (
  λ guard from m now is guards one lies h. stall_leads d places p first lasts are before pins call scene scope from is guard m now one h (stage_at d n) (λ s e. stage_level d n s e),
  λ guard from m now is guards one lies h. flush_leads d places p first lasts are before pins call scene scope from is guard m now one h (stage_at d n) (λ s e. stage_level d n s e),
)

pub returns-clause-formed : goal.returns-clause-formed
returns-clause-formed c d places p first lasts are scope n = (
  λ guard from is guards lies. level_formed d places p first lasts are scope guard from guards Stall (λ level. refl) (stage_at d n) (λ s e. stage_level d n s e),
  λ guard from is guards lies. level_formed d places p first lasts are scope guard from guards Flush (λ level. refl) (stage_at d n) (λ s e. stage_level d n s e),
)
