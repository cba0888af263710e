use Rattle.std.proofs.Common.{[], ◌∷◌, ◌++◌}
use Rattle.lisa_tree.specs.Descriptions.{description_tree}
use Rattle.machine_parts.specs.Parts.{arrays_of, pins_of}
use Rattle.behavior_runs.specs.scene_paths.Lookups.{tree_of}
use Rattle.lisa_sim.proofs.Going.{before_is}
use Rattle.lisa_sim.proofs.Simulating.{arrays_still, pins_still, sized_still, named_still, shapes_still, state_still, shape_still}
use Rattle.lisa_sim.proofs.simulator.SimulatorEngine.retreat.Goals as goal

pub invariant_of-self : goal.invariant_of-self
invariant_of-self c =
    let s = c.args.self.now in
    let d = description_tree s.machine.now in
    let items = s.forms.now.items.items in
    let new = c.retreat.new.self in
    let e = c.retreat.ensures in
    record {
      same_arrays = arrays_still items s.runner new e.described e.image (arrays_of d) s.same_arrays;
      same_pins = pins_still items s.runner new e.described e.image (pins_of d) s.same_pins;
      sizes = sized_still items s.runner new e.described e.image s.sizes;
      names = named_still items s.runner new e.described e.image s.names;
      shapes = shapes_still items s.runner new e.described e.image s.shapes;
      shape = shape_still items s.runner new e.described e.image s.shapes c.requires.0 (e.back c.requires.0 (before_is (tree_of s.runner.described) s.runner.image s.runner.present c.args.items.now c.args.touches.now c.requires.0 c.requires.1 c.requires.2));
    }

pub returns-clause-back : goal.returns-clause-back
returns-clause-back c l p takes =
    let s = c.args.self.now in
    let e = c.retreat.ensures in
    state_still s.forms.now.items.items s.runner c.retreat.new.self e.described e.image l
    (e.back l (before_is (tree_of s.runner.described) s.runner.image s.runner.present c.args.items.now c.args.touches.now l p takes))
