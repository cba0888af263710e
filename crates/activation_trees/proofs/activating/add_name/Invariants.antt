use Rattle.std.proofs.Common.{◌≡◌, ◌++◌, ℕ, drop, map}
use Rattle.stage_checks.specs.Graphs.{names_in}
use Rattle.activation_trees.proofs.activating.add_name.Given as goal

abbrev pub invariant-loop-alternative : goal.invariant-loop-alternative
invariant-loop-alternative g l =
    names_in l.row.items ++ map (λ (x : ℕ). l.name) (drop l._alternative-index l._alternative-items) ≡ names_in l.fn.row.items ++ map (λ (x : ℕ). l.name) l._alternative-items
