use Rattle.std.proofs.Common.{[], ap, sym}
use Rattle.lisa_tree.specs.Descriptions.{description_tree}
use Rattle.machine_parts.specs.Parts.{arrays_of, pins_of}
use Rattle.item_promises.specs.description_sizes.Sizes.{items}
use Rattle.lisa_sim.proofs.Simulating.{Shapes, sized_first, named_first, shapes_first, shape_first}
use Rattle.lisa_sim.proofs.simulator.Simulator.make.Goals as goal

pub invariant_of-result : goal.invariant_of-result
invariant_of-result c =
    let d = description_tree c.args.machine.now in
    let forms = c.requires.forms in
    let width = c.args.forms.now.width in
    let own = c.args.forms.now.items.items in
    let image = c.args.image.now in
    let runner = c.in_ok-runner.runner in
    let e = c.in_ok-runner.ensures in
    let accepted = c.accepted.ensures.accepted in
    let spelled = c.accepted.ensures.spelled in
    let shapes : Shapes (items d width) d image = λ l. c.states_are_shaped.ensures d width image l accepted forms.has_width c.requires.image e.found in
    record {
      same_arrays = ap arrays_of (sym e.tree);
      same_pins = ap pins_of (sym e.tree);
      sizes = sized_first d own (items d width) forms.all_items runner e.tree image e.image (c.shown_widths_fit.ensures d width accepted spelled c.requires.forms.has_forms forms.has_width);
      names = named_first d own (items d width) forms.all_items runner e.tree image e.image (c.shown_names_differ.ensures d width accepted spelled c.requires.forms.has_forms);
      shapes = shapes_first d own (items d width) forms.all_items runner e.tree image e.image shapes;
      shape = shape_first d own (items d width) forms.all_items runner e.tree image e.image shapes [] e.first;
    }
