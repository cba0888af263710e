use Rattle.std.proofs.Common.{◌≡◌, ◌+◌, drop}
use Rattle.verilog_clock.specs.Compiled.{acts_most}
use Rattle.verilog_clock.proofs.Lists.{act_size, acts_size}
use Rattle.verilog_clock.proofs.firsts.+counted.Given as goal

abbrev pub invariant-most_updates-each : goal.invariant-most_updates-each
invariant-most_updates-each l = l.most + acts_most (drop l.act-index l.acts) ≡ acts_most l.acts

abbrev pub decreases-most_updates : goal.decreases-most_updates
decreases-most_updates l = acts_size l.acts.now

abbrev pub decreases-most_of : goal.decreases-most_of
decreases-most_of l = act_size l.act.now
