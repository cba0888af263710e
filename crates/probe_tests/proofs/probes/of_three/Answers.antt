use Rattle.std.proofs.Common.{◌≤◌, ◌+◌, ℕ, subst}
use Rattle.pattern_tables.specs.Probes.{look_ups}
use Rattle.probe_tests.proofs.probes.of_three.Goals as goal

pub returns : goal.returns
unfolding look_ups
returns g c = subst (λ (n : ℕ). c.form_in.new.steps ≤ c.args.steps.now + look_ups n) c.requires c.form_in.ensures.cost
