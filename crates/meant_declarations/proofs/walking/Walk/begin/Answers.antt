use Rattle.std.proofs.Common.{◌∙◌, ◌+◌, ◌&&◌, ◌||◌, ap, ℕ, Bool, nat_eq, length}
use Rattle.graph_paths.specs.Paths.{is_in, saw}
use Rattle.least_fixed_points.specs.Settles.{entry}
use Rattle.meant_declarations.specs.Walks.{kept}
use Rattle.meant_declarations.proofs.Walks.{begun_entry, begun_work}
use Rattle.meant_declarations.proofs.walking.Walk.begin.Goals as goal

pub loop-node-preserved : goal.loop-node-preserved
loop-node-preserved c = record {
  count = c.in_ok-add.ensures.count ∙ ap (λ (k : ℕ). k + 1) c.loop-node.invariant.count;
  found = λ b. c.in_ok-add.ensures.found b ∙ ap (λ (t : Bool). kept (entry c.loop-node.walk.found.items b) (t && nat_eq b (length c.loop-node.walk.found.items)) b) c.is_marked.ensures ∙ ap (λ (n : ℕ). kept (entry c.loop-node.walk.found.items b) (saw c.args.starts.now c.loop-node.node && nat_eq b n) b) c.loop-node.invariant.count ∙ begun_entry c.args.starts.now c.loop-node.node b (entry c.loop-node.walk.found.items b) (c.loop-node.invariant.found b);
  work = λ b. c.in_ok-add.ensures.work b ∙ ap (λ (t : Bool). is_in b c.loop-node.walk.work.items || (t && nat_eq b (length c.loop-node.walk.found.items))) c.is_marked.ensures ∙ ap (λ (n : ℕ). is_in b c.loop-node.walk.work.items || (saw c.args.starts.now c.loop-node.node && nat_eq b n)) c.loop-node.invariant.count ∙ begun_work c.args.starts.now c.loop-node.node b (is_in b c.loop-node.walk.work.items) (c.loop-node.invariant.work b);
}
