use Rattle.std.proofs.Common.{◌∙◌, List, ap, ap₂, sym}
use Rattle.verilog_text.specs.declared.modules.Action.{Action}
use Rattle.verilog_text.specs.Trees as trees
use Rattle.verilog_text.specs.Trees.{ActionTrees}
use Rattle.step_program.specs.Programs.{program_tree}
use Rattle.netlist_wires.specs.declared.keys.Flat.{Flat}
use Rattle.netlist_wires.specs.declared.keys.Write.{Write}
use Rattle.netlist_wires.specs.Wiring.{set_items}
use Rattle.netlist_build.specs.Assembled.{actions_then, puts}
use Rattle.netlist_build.proofs.Steps.{actions_whole, puts_reversed}
use Rattle.netlist_build.proofs.building.all_actions.Goals as goal

pub returns : goal.returns
returns c =
    let p = program_tree c.args.program.now in
    let s = c.args.symbols.now in
    let items = c.deref.result.now in
    let writes = c.deref-2.result.now in
    actions_whole c.put_writes.new.actions.items ∙ c.in_ok-put_writes.ensures trees.Done ∙ c.in_ok-put_sets.ensures (puts p writes trees.Done)
    ∙ ap (λ (xs : List Action). actions_then xs (set_items p 0 items (puts p writes trees.Done))) c.new-actions.ensures.items
    ∙ ap₂ (λ (fs : List Flat) (ws : List Write). set_items p 0 fs (puts p ws trees.Done)) c.deref.ensures.value c.deref-2.ensures.value
    ∙ ap (set_items p 0 s.items.items) (sym (puts_reversed p s.writes.items trees.Done))
