use Rattle.std.proofs.Common.{◌≡◌, ◌<◌, ℕ, true, Some, map}
use Rattle.std.specs.Rc.{rc_value}
use Rattle.graph_paths.specs.Paths.{saw}
use Rattle.lisa_tree.specs.declared.declared.What.TheVariants as whats
use Rattle.lisa_tree.specs.Declarations.{what_at}
use Rattle.text_counts.specs.Gathering.{IsGathered}
use Rattle.text_counts.proofs.references.Meanings.make.Given as goal

abbrev pub invariant-loop-node : goal.invariant-loop-node
invariant-loop-node g l = IsGathered (g.N.Names.tree l.names) (map rc_value l.lists.items) l.done.items

abbrev pub invariant-loop-number : goal.invariant-loop-number
invariant-loop-number g l = record {
  gathered : IsGathered (g.N.Names.tree l.names) (map rc_value l.lists.items) l.done.items;
  done : (i : ℕ) → i < l.number → what_at (g.N.Names.tree l.names) i ≡ Some whats.Reference → saw l.done.items i ≡ true;
}
