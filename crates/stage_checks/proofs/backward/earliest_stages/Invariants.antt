use Rattle.std.proofs.Common.{◌≡◌, ℕ, ◌<◌, length}
use Rattle.lisa_tree.specs.Declarations.{plain_at}
use Rattle.stage_checks.specs.Spreading.{entry}
use Rattle.stage_checks.specs.Backward.{IsEarliest}
use Rattle.stage_checks.proofs.backward.earliest_stages.Given as goal

abbrev pub invariant-loop-choice : goal.invariant-loop-choice
invariant-loop-choice g l = record {
  len : length l.stages.items ≡ l.choice;
  each : (c : ℕ) → c < l.choice → IsEarliest (g.N.Names.tree l.names) (plain_at (g.N.Names.tree l.names) c) (entry l.stages.items c);
}
