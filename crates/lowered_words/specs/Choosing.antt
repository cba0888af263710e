-- By what an occurrence past the root is chosen: the same for all words. On the way to the program: nothing here needs to be trusted.
use Rattle.std.specs.Prelude.{ℕ, zero, suc, Bool, true, false, Option, None, Some, cond, option_map, slice_get}
use Rattle.std.specs.Option.{option_and_then}
use Rattle.lisa_tree.specs.Descriptions.{DescriptionTree}
use Rattle.scene_paths.specs.activation_trees.declared.parts.Occurrence.{Occurrence}
use Rattle.scene_paths.specs.activation_trees.Unfolding.{occurrences}
use Rattle.instruction_forms.specs.Trees.{FormTree}
use Rattle.scene_paths.specs.lisa_forms.declared.way.Way.{Way as Activation}
use Rattle.scene_paths.specs.lisa_forms.declared.way.Way.TheVariants as activations
use Rattle.scene_paths.specs.lisa_forms.Ways.{way}
use Rattle.lowered_words.specs.Ways.{Way, Whole, Child, part_by}

-- a word's instruction chooses what it has a part for, by this way
pub record Choice : Type 0 where
  pub way : Way
  -- whether the occurrence stands at that part, and not beside it
  pub inside : Bool

abbrev pub at_part : Way → Choice
at_part w = record { way = w; inside = true }

abbrev pub beside_part : Choice → Choice
beside_part c = record { way = c.way; inside = false }

-- a child of the part; what stands at no part has none
abbrev pub child_choice : ℕ → ℕ → Choice → Choice
child_choice i o c = cond c.inside (at_part (Child c.way i o)) c

-- an occurrence of this operation, by how it is activated and by what its activator is chosen
abbrev pub chosen_by : Activation → ℕ → Option Choice → Option Choice
chosen_by activations.Outside o above = None
chosen_by activations.Top o above = Some (at_part (Whole o))
chosen_by (activations.Child i) o above = option_map (child_choice i o) above
chosen_by activations.Apart o above = option_map beside_part above

abbrev pub choice_below : (ℕ → Option Choice) → DescriptionTree → ℕ → Option Occurrence → Option Choice
choice_below above d k None = None
choice_below above d k (Some x) = chosen_by (way d k x) x.operation (option_and_then above x.parent)

-- so many levels up
abbrev pub choice_within : ℕ → DescriptionTree → ℕ → Option Choice
choice_within zero d k = None
choice_within (suc levels) d k = choice_below (choice_within levels d) d k (slice_get (occurrences d) k)

-- none where no word chooses it
abbrev pub choice : DescriptionTree → ℕ → Option Choice
choice d k = choice_within (suc k) d k

-- ---- what a form chooses

-- the part at which it stands, where it stands at one
abbrev pub stood_at : Choice → FormTree → Option FormTree
stood_at c part = cond c.inside (Some part) None

abbrev pub standing_by : FormTree → Option Choice → Option (Option FormTree)
standing_by f None = None
standing_by f (Some c) = option_map (stood_at c) (part_by f c.way)

-- the way to that part, where there is one
abbrev pub way_inside : Option Choice → Option Way
way_inside None = None
way_inside (Some c) = cond c.inside (Some c.way) None
