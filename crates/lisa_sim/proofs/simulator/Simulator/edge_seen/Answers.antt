use Rattle.std.proofs.Common.{[], ◌∷◌, ◌++◌}
use Rattle.lisa_tree.specs.Descriptions.{description_tree}
use Rattle.machine_parts.specs.Parts.{arrays_of, pins_of}
use Rattle.behavior_runs.specs.scene_paths.Lookups.{tree_of}
use Rattle.lisa_sim.proofs.Simulating.{arrays_still, pins_still, sized_still, named_still, shapes_still, state_still, shape_still}
use Rattle.lisa_sim.proofs.simulator.Simulator.edge_seen.Goals as goal

pub invariant_of-self : goal.invariant_of-self
invariant_of-self c =
    let s = c.args.self.now in
    let d = description_tree s.machine.now in
    let items = s.forms.now.items.items in
    let new = c.edge_seen.new.self in
    let e = c.edge_seen.ensures in
    record {
      same_arrays = arrays_still items s.runner new e.described e.image (arrays_of d) s.same_arrays;
      same_pins = pins_still items s.runner new e.described e.image (pins_of d) s.same_pins;
      sizes = sized_still items s.runner new e.described e.image s.sizes;
      names = named_still items s.runner new e.described e.image s.names;
      shapes = shapes_still items s.runner new e.described e.image s.shapes;
      shape = shape_still items s.runner new e.described e.image s.shapes (c.reached.ensures.0 ++ c.args.pins.now ∷ []) (e.leads c.reached.ensures.0 c.reached.ensures.1);
    }

pub returns-clause-leads : goal.returns-clause-leads
returns-clause-leads c l entries same =
    let s = c.args.self.now in
    let e = c.edge_seen.ensures in
    state_still s.forms.now.items.items s.runner c.edge_seen.new.self e.described e.image (l ++ c.args.pins.now ∷ []) (e.leads l same)
