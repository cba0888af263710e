use Rattle.std.proofs.Common.{◌∙◌}
use Rattle.verilog_text.specs.Trees.{module_tree}
use Rattle.verilog_clock.specs.Compiled.{rows}
use Rattle.verilog_clock.specs.Writes.{state_of}
use Rattle.verilog_clock.proofs.Clocking.{fitting_at, edge_at, edge_kept, edge_shaped, edge_leads}
use Rattle.verilog_clock.proofs.clock.ClockEngine.edge.Goals as goal

pub run_edge-requires-clause-fitting : goal.run_edge-requires-clause-fitting
run_edge-requires-clause-fitting c =
    let s = c.args.self.now in
    fitting_at (module_tree s.module.now) s.nets.items c.deref.result.now s.acts.items c.deref-2.result.now c.deref-3.result.now s.values.items c.deref_mut.result.now s.cells.items c.deref_mut-2.result.now
    c.args.pins.now s.runs s.shape c.requires c.deref.ensures.value c.deref-2.ensures.value (c.deref-3.ensures.value ∙ s.array_regs) c.deref_mut.ensures.value c.deref_mut-2.ensures.value

pub invariant_of-self-clause-shape : goal.invariant_of-self-clause-shape
invariant_of-self-clause-shape c =
    let s = c.args.self.now in
    let m = module_tree s.module.now in
    let pins = c.args.pins.now in
    let old = state_of s.values.items (rows s.cells.items) in
    let step = edge_at m s.nets.items c.deref.result.now s.acts.items c.deref-2.result.now c.deref-3.result.now s.values.items c.deref_mut.result.now s.cells.items c.deref_mut-2.result.now
    pins s.runs s.shape c.requires c.deref.ensures.value c.deref-2.ensures.value (c.deref-3.ensures.value ∙ s.array_regs) c.deref_mut.ensures.value c.deref_mut-2.ensures.value
    (state_of c.run_edge.new.values (rows c.run_edge.new.cells)) c.run_edge.ensures.state in
    edge_shaped m old _ pins (edge_kept m s.values s.cells c.run_edge.new.values c.run_edge.new.cells pins s.shape step) s.shape

pub returns-clause-leads : goal.returns-clause-leads
returns-clause-leads c l entries at =
    let s = c.args.self.now in
    let m = module_tree s.module.now in
    let pins = c.args.pins.now in
    let old = state_of s.values.items (rows s.cells.items) in
    let step = edge_at m s.nets.items c.deref.result.now s.acts.items c.deref-2.result.now c.deref-3.result.now s.values.items c.deref_mut.result.now s.cells.items c.deref_mut-2.result.now
    pins s.runs s.shape c.requires c.deref.ensures.value c.deref-2.ensures.value (c.deref-3.ensures.value ∙ s.array_regs) c.deref_mut.ensures.value c.deref_mut-2.ensures.value
    (state_of c.run_edge.new.values (rows c.run_edge.new.cells)) c.run_edge.ensures.state in
    edge_leads m s.image.now old _ pins l (edge_kept m s.values s.cells c.run_edge.new.values c.run_edge.new.cells pins s.shape step) at
