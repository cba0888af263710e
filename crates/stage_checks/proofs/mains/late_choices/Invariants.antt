use Rattle.std.proofs.Common.{◌≡◌, ℕ, ◌<◌, length}
use Rattle.lisa_tree.specs.Declarations.{plain_at}
use Rattle.graph_paths.specs.Paths.{saw}
use Rattle.stage_checks.specs.Backward.{any_late}
use Rattle.stage_checks.proofs.mains.late_choices.Given as goal

abbrev pub invariant-loop-choice : goal.invariant-loop-choice
invariant-loop-choice g l = record {
  len : length l.late.items ≡ l.choice;
  each : (c : ℕ) → c < l.choice → saw l.late.items c ≡ any_late (g.N.Names.tree l.names) (plain_at (g.N.Names.tree l.names) c);
}
