use Rattle.std.proofs.Common.{◌≡◌, ◌∙◌, List, length, sym, ap, subst, arith}
use Rattle.std.specs.Vec.{vec_len}
use Rattle.lisa_engine.specs.Images.{first_cells}
use Rattle.lisa_engine.specs.Shape.{AreCells}
use Rattle.lisa_engine.specs.declared.parts.ArrayItem.{ArrayItem}
use Rattle.verilog_text.specs.declared.modules.Module.{Module}
use Rattle.verilog_text.specs.Trees.{module_tree}
use Rattle.verilog_text.specs.Clocked.{regs, arrays, first_items}
use Rattle.verilog_text.specs.Clockable.{IsClockable}
use Rattle.verilog_clock.specs.Named.{Runs}
use Rattle.verilog_clock.specs.Compiled.{rows}
use Rattle.verilog_clock.specs.Writes.{state_of}
use Rattle.verilog_clock.proofs.Clocking.{names_differ, widths_are, states_shaped, first_state, first_shaped}
use Rattle.verilog_clock.proofs.clock.Clock.make.Goals as goal

pub first_values-requires : goal.first_values-requires
first_values-requires c =
    c.len.ensures ∙ c.in_ok-items.items.ok.0 ∙ ap length c.in_ok-items.ensures ∙ sym (ap (λ (x : Module). length (regs (module_tree x).members)) c.in_ok-scope.ensures)

pub compile_module-requires : goal.compile_module-requires
compile_module-requires c = subst (λ (x : Module). IsClockable (module_tree x)) (sym c.in_ok-scope.ensures) c.requires.module

pub invariant_of-result : goal.invariant_of-result
invariant_of-result c =
    let m = module_tree c.args.module.now in
    let image = c.args.image.now in
    let all = c.in_ok-arrays.arrays.items in
    let is_firsts : c.in_ok-firsts.firsts.items ≡ first_items m = c.in_ok-firsts.ensures ∙ ap (λ (x : Module). first_items (module_tree x)) c.in_ok-scope.ensures in
    let is_values : c.in_ok-values.values.items ≡ first_items m = c.in_ok-values.ensures.items ∙ c.deref-3.ensures.value ∙ is_firsts in
    let along : (given : List ArrayItem) → given ≡ all → first_cells given image ≡ first_cells (arrays m.members) image =
    λ given is. ap (λ (xs : List ArrayItem). first_cells xs image) (is ∙ c.in_ok-arrays.ensures) in
    let is_cells : rows c.in_ok-cells.cells.items ≡ first_cells (arrays m.members) image = c.in_ok-cells.ensures.cells ∙ along c.deref.result.now c.deref.ensures.value in
    let is_rows : rows c.in_ok-first_rows.first_rows.items ≡ first_cells (arrays m.members) image = c.in_ok-first_rows.ensures.cells ∙ along c.deref-2.result.now c.deref-2.ensures.value in
    let fits : AreCells (arrays m.members) (first_cells (arrays m.members) image) =
    subst (λ (xs : List ArrayItem). AreCells xs (first_cells xs image)) (c.deref.ensures.value ∙ c.in_ok-arrays.ensures) c.in_ok-cells.ensures.shape in
    let begins = first_state m image c.in_ok-firsts.firsts.items (rows c.in_ok-first_rows.first_rows.items) is_firsts is_rows in
    let now = first_state m image c.in_ok-values.values.items (rows c.in_ok-cells.cells.items) is_values is_cells in
    record {
      item_regs = c.in_ok-items.ensures;
      array_regs = c.in_ok-arrays.ensures;
      named = names_differ m c.in_ok-items.items.items all c.requires.module c.in_ok-items.ensures c.in_ok-arrays.ensures;
      sizes = widths_are m c.in_ok-items.items.items all c.requires.module c.in_ok-items.ensures c.in_ok-arrays.ensures;
      few = omega (arith, ap length c.in_ok-arrays.ensures, c.requires.module.few_arrays);
      runs = subst (λ (x : Module). Runs (module_tree x) c.in_ok-nets.field-0.nets.items c.in_ok-nets.field-0.acts.items) c.in_ok-scope.ensures c.in_ok-nets.ensures.runs;
      begins = begins;
      first_shape = first_shaped m image (state_of c.in_ok-firsts.firsts.items (rows c.in_ok-first_rows.first_rows.items)) begins fits;
      shapes = states_shaped m image c.in_ok-items.items.items all c.in_ok-items.ensures c.in_ok-arrays.ensures fits;
      shape = first_shaped m image (state_of c.in_ok-values.values.items (rows c.in_ok-cells.cells.items)) now fits;
      settled_room = omega (arith, c.in_ok-nets.ensures.settled, c.len-2.ensures, ap (λ (x : Module). vec_len x.inputs) c.in_ok-scope.ensures);
      updates_room = c.in_ok-nets.ensures.updates;
      touches_room = c.in_ok-nets.ensures.touches;
    }
