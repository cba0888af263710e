use Rattle.std.proofs.Common.{ap, ◌∙◌}
use Rattle.netlist_wires.specs.declared.keys.Flat.TheVariants.{OfWire}
use Rattle.netlist_build.proofs.Finds.{share_flat, share_keys}
use Rattle.netlist_build.proofs.lowering.share.Goals as goal

pub returns-clause-flat : goal.returns-clause-flat
returns-clause-flat c = ap OfWire c.in_ok-wire.ensures.index ∙ share_flat _ c.args.width c.args.body c.args.keys.now.keys

pub returns-clause-keys : goal.returns-clause-keys
returns-clause-keys c = c.in_ok-wire.ensures.keys ∙ share_keys _ c.args.width c.args.body c.args.keys.now.keys
