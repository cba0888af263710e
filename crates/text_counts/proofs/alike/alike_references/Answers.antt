use Rattle.std.proofs.Common.{rules}
use Rattle.graph_paths.specs.Paths.{targets}
use Rattle.text_counts.proofs.Along.{none_alike, one_alike}
use Rattle.text_counts.proofs.alike.alike_references.Goals as goal

pub loop-number-init : goal.loop-number-init
loop-number-init g c = record {
  count = search (rules, c.new-alike.ensures.items);
  alike = none_alike (g.N.Names.tree c.args.names.now) (targets c.args.meanings.now) _ c.new-alike.ensures.items;
}

pub loop-number-preserved : goal.loop-number-preserved
loop-number-preserved g c =
    let d = g.N.Names.tree c.args.names.now in
    record {
      count = search (rules, c.in_ok-push.ensures.items);
      alike = rw c.in_ok-push.ensures.items (one_alike d (targets c.args.meanings.now) c.loop-number.alike.items _ c.alike_to.result c.loop-number.invariant.count c.loop-number.invariant.alike c.alike_to.ensures);
    }
