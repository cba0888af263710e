use Rattle.std.proofs.Common.{◌∙◌}
use Rattle.verilog_places.specs.Trees.{bare_module, placed_module}
use Rattle.verilog_places.proofs.StripLaws.{same_clock, same_parts}
use Rattle.verilog_places.proofs.stripping.strip.Goals as goal

pub returns-clause-tree : goal.returns-clause-tree
returns-clause-tree c = same_parts c.args.whole.name c.args.whole.clock c.in_ok-pins.ensures (c.in_ok-all.ensures c.args.whole.clock)

pub returns-clause-same : goal.returns-clause-same
returns-clause-same c = λ one.
    same_parts c.args.whole.name c.args.whole.clock c.in_ok-pins.ensures (c.in_ok-all.ensures c.args.whole.clock) ∙ same_clock (bare_module (placed_module c.args.whole)) one
