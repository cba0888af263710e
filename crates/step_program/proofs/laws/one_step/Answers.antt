use Rattle.std.proofs.Common.{Bool, ap, cond}
use Rattle.std.proofs.lemmas.Bool.{eq-eqb, ne_eqb}
use Rattle.step_program.specs.Effects.{value, taken}
use Rattle.step_program.proofs.laws.one_step.Goals as goal

pub returns-clause-idle : goal.returns-clause-idle
returns-clause-idle c p before pins now move e =
    ap (λ (b : Bool). cond b now (taken p before pins now move.aim (value p before pins now move.value))) (eq-eqb (value p before pins now move.guard) 0 e)

pub returns-clause-taken : goal.returns-clause-taken
returns-clause-taken c p before pins now move e =
    ap (λ (b : Bool). cond b now (taken p before pins now move.aim (value p before pins now move.value))) (ne_eqb (value p before pins now move.guard) 0 e)
