-- Whose machine a simulator runs.
use Rattle.std.specs.Prelude.{List}
use Rattle.lisa_tree.specs.Descriptions.{DescriptionTree}
use Rattle.lisa_engine.specs.Memory.{Memory}
use Rattle.behavior_runs.specs.scene_paths.Lookups.{tree_of}
use Rattle.lisa_sim.specs.declared.simulator.Simulator.{Simulator}

abbrev pub description_of : Simulator → DescriptionTree
description_of simulator = tree_of simulator.runner.described

-- the image that it began with
abbrev pub image_of : Simulator → List Memory
image_of simulator = simulator.runner.image
