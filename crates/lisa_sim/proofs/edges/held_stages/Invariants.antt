-- The bits of the stages so far.
use Rattle.std.proofs.Common.{◌≡◌, ◌&&◌, ℕ, suc, nat_lt}
use Rattle.activation_bits.specs.Members.{has}
use Rattle.pipeline_time.specs.Edges.{is_held}
use Rattle.behavior_runs.specs.moment_stores.Stores.{moment_of}
use Rattle.lisa_sim.proofs.edges.held_stages.Given as goal

abbrev pub invariant-each : goal.invariant-each
invariant-each l = (s : ℕ) → has l.stages s ≡ (nat_lt s l.stage && is_held (moment_of l.store).stalled (suc s))
