use Rattle.std.proofs.Common.{◌≡◌, ◌≤◌, ◌+◌, ◌++◌, drop}
use Rattle.std.specs.Vec.{vec_len, vec_capacity}
use Rattle.verilog_clock.specs.Compiled.{rows, acts_updates, acts_most}
use Rattle.verilog_clock.proofs.Lists.{act_size, acts_size}
use Rattle.verilog_clock.proofs.edges.+collected.Given as goal

abbrev pub invariant-collect-each : goal.invariant-collect-each
invariant-collect-each l = record {
  left : l.updates.items ++ acts_updates l.values (rows l.cells) (drop l.act-index l.acts) ≡ l.initial.updates.items ++ acts_updates l.values (rows l.cells) l.acts;
  len : vec_len l.updates + acts_most (drop l.act-index l.acts) ≤ vec_len l.initial.updates + acts_most l.acts;
  room : vec_capacity l.initial.updates ≤ vec_capacity l.updates;
}

abbrev pub decreases-collect : goal.decreases-collect
decreases-collect l = acts_size l.acts.now

abbrev pub decreases-collect_one : goal.decreases-collect_one
decreases-collect_one l = act_size l.act.now
