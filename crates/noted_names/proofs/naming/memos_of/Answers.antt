use Rattle.std.proofs.Common.{rules, arith}
use Rattle.noted_names.proofs.Noting.{one_memo, one_right, operations_counted, standing_noted}
use Rattle.noted_names.proofs.naming.memos_of.Goals as goal

pub each-preserved : goal.each-preserved
each-preserved g c =
    let d = g.N.Names.tree c.args.names.now in
    let i = c.each.invariant in
    record {
      len = search (rules, c.in_ok-push.ensures.items);
      right = one_right d c.each.memos.items c.push.new.self.items c.each.operation c.in_ok-memo_of.field-0 i.len i.right c.in_ok-memo_of.ensures.right c.in_ok-push.ensures.items;
      noted = one_memo d c.each.memos.items c.push.new.self.items c.each.operation c.in_ok-memo_of.field-0 i.len i.noted c.in_ok-memo_of.ensures.noted c.in_ok-push.ensures.items;
    }

pub returns-clause-noted : goal.returns-clause-noted
returns-clause-noted g c =
    standing_noted (g.N.Names.tree c.args.names.now) c.each.memos.items c.each.invariant.noted
    (omega (arith, c.each-test.false, c.each.invariant.len, c.len-operation-end.ensures, operations_counted c.description.result.now (g.N.Names.tree c.args.names.now) c.description.ensures, c.description.result.now.operations.ok.0))
