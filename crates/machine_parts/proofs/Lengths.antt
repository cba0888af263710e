-- Each array is told to be a memory or none, and each register has a first value.
use Rattle.std.proofs.Common.{◌≡◌, suc, List, [], ◌∷◌, map, refl, ap, None, Some, length}
use Rattle.std.specs.Prelude.{filter_map, zip}
use Rattle.lisa_tree.specs.Descriptions as trees
use Rattle.lisa_tree.specs.Descriptions.{ResourceTree, DescriptionTree}
use Rattle.typed_values.specs.Words.{TypedWord}
use Rattle.typed_values.specs.ResetEffects.{reset_moment}
use Rattle.typed_values.specs.ResetLaws.{width_of, first_width}
use Rattle.typed_values.proofs.Kept.{reset_keeps}
use Rattle.machine_parts.specs.Parts.{array_in, memory_in, register_in, register_bits, arrays_of, memories_of, registers_of, first_values}

told : (rs : List ResourceTree) → length (filter_map memory_in rs) ≡ length (filter_map array_in rs)
told [] = refl
told (trees.Register word shape name None ∷ rs) = told rs
told (trees.Register word shape name (Some depth) ∷ rs) = ap suc (told rs)
told (trees.Clocked word shape name ∷ rs) = told rs
told (trees.Memory word shape name depth ∷ rs) = ap suc (told rs)
told (trees.Pin shape name ∷ rs) = told rs
told (trees.Pipeline name stages ∷ rs) = told rs
told (trees.Fields pipe fields ∷ rs) = told rs

pub arrays_told : (d : DescriptionTree) → length (memories_of d) ≡ length (arrays_of d)
arrays_told d = told d.resources

counted : (rs : List ResourceTree) (ws : List TypedWord) → map width_of ws ≡ map first_width rs → length (filter_map register_bits (zip rs ws)) ≡ length (filter_map register_in rs)
counted [] ws e = refl
counted (r ∷ rs) [] e = absurd (cc e)
counted (trees.Register word shape name None ∷ rs) (w ∷ ws) e = ap suc (counted rs ws cc)
counted (trees.Register word shape name (Some depth) ∷ rs) (w ∷ ws) e = counted rs ws cc
counted (trees.Clocked word shape name ∷ rs) (w ∷ ws) e = ap suc (counted rs ws cc)
counted (trees.Memory word shape name depth ∷ rs) (w ∷ ws) e = counted rs ws cc
counted (trees.Pin shape name ∷ rs) (w ∷ ws) e = counted rs ws cc
counted (trees.Pipeline name stages ∷ rs) (w ∷ ws) e = counted rs ws cc
counted (trees.Fields pipe fields ∷ rs) (w ∷ ws) e = counted rs ws cc

pub registers_counted : (d : DescriptionTree) → length (first_values d) ≡ length (registers_of d)
registers_counted d = counted d.resources (reset_moment d).registers (reset_keeps d).widths
