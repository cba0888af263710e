-- What was found so far and what is left are before a stage where one of all is.
use Rattle.std.proofs.Common.{◌≡◌, ℕ, Option, ◌||◌, drop}
use Rattle.std.specs.List.{list_any}
use Rattle.lisa_tree.specs.Operations.{own_stage}
use Rattle.stage_checks.specs.Controls.{is_before}
use Rattle.stage_checks.proofs.backward.earliest.Given as goal

abbrev pub invariant-loop-operation : goal.invariant-loop-operation
invariant-loop-operation g l = (late : Option ℕ) →
    (is_before l.found late || list_any (λ a. is_before (own_stage (g.N.Names.tree l.names) a) late) (drop l.operation-index l.operations))
    ≡ list_any (λ a. is_before (own_stage (g.N.Names.tree l.names) a) late) l.operations
