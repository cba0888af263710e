use Rattle.std.proofs.Common.{◌≡◌, ℕ, ◌+◌, length, take, ◌||◌, ◌&&◌}
use Rattle.std.specs.Option.{is_none}
use Rattle.graph_paths.specs.Paths.{is_in}
use Rattle.least_fixed_points.specs.Settles.{entry, missing}
use Rattle.meant_declarations.specs.Walks.{kept}
use Rattle.meant_declarations.proofs.walking.Walk.come_to_all.Given as goal

abbrev pub invariant-loop-node : goal.invariant-loop-node
invariant-loop-node l = record {
  count : length l.self.found.items ≡ length l.fn.self.found.items;
  found : (b : ℕ) → entry l.self.found.items b ≡ kept (entry l.fn.self.found.items b) (is_in b (take l.node-index l.nodes)) l.origin;
  work : (b : ℕ) → is_in b l.self.work.items ≡ (is_in b l.fn.self.work.items || (is_in b (take l.node-index l.nodes) && is_none (entry l.fn.self.found.items b)));
  steps : missing l.self.found.items + length l.self.work.items ≡ missing l.fn.self.found.items + length l.fn.self.work.items;
}
