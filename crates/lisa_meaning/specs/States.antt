-- The state of a machine after any edges: its items and the cells of its arrays.
use Rattle.std.specs.Prelude.{ℕ, suc, ◌+◌, false, List, length, Option, None, Some, slice_get, slice_index_or}
use Rattle.std.specs.Option.{option_map_or}
use Rattle.lisa_tree.specs.Descriptions.{DescriptionTree}
use Rattle.lisa_engine.specs.Memory.{Memory}
use Rattle.lisa_engine.specs.Images.{first_cells}
use Rattle.lisa_engine.specs.State as engine
use Rattle.lisa_tree.specs.Resources.{stages, fields}
use Rattle.use_promises.specs.machine_parts.Parts.{arrays_of, registers_of, first_values}
use Rattle.lisa_forms.specs.activation_trees.Unfolding.{occurrences}
use Rattle.lisa_forms.specs.activation_trees.Items.{root_stage, has_bit}
use Rattle.lisa_forms.specs.coding_tables.Instructions.{instruction_choice}
use Rattle.item_layouts.specs.Layouts.{Layout, ItemValues, item_values}
use Rattle.pipeline_time.specs.States.{State, after}
use Rattle.pipeline_time.specs.Bits.{Hardware, shown}
use Rattle.lisa_meaning.specs.Moments.{Contents, field_at, by_boundaries}
use Rattle.lisa_meaning.specs.Cores.{core_of}

-- ---- the first state

-- what `reset` leaves in registers, the cells of the image, and else zeros
abbrev pub first_contents : DescriptionTree → List Memory → Contents
first_contents d image = record {
  registers = first_values d;
  cells = first_cells (arrays_of d) image;
  fields = by_boundaries d (λ s f. 0);
}

-- ---- items

-- The first stage with a word: the one behind the root's. None without an instruction, or without an occurrence of the root.
abbrev pub first_word : Option ℕ → Option ℕ → Option ℕ
first_word None root = None
first_word (Some c) None = None
first_word (Some c) (Some s) = Some (s + 1)

abbrev pub layout_of : DescriptionTree → Layout
layout_of d = record {
  registers = length (registers_of d);
  stages = length (stages d);
  fields = length (fields d);
  words = first_word (instruction_choice d) (root_stage d (occurrences d));
  occurrences = length (occurrences d);
  stands = λ s k. option_map_or (has_bit s) (slice_get (occurrences d) k) false;
}

-- what items show of hardware
abbrev pub values_of : Hardware Contents → ItemValues
values_of hard = record {
  register = λ k. slice_index_or hard.memory.registers k 0;
  field = λ s f. field_at hard.memory.fields s f;
  word = λ s. hard.words (suc s);
  bit = λ s k. hard.bits (suc s) k;
}

abbrev pub shown_state : DescriptionTree → Hardware Contents → engine.State
shown_state d hard = record { items = item_values (layout_of d) (values_of hard); cells = hard.memory.cells }

-- ---- after edges

-- what lasts after edges with these pins
abbrev pub after_edges : DescriptionTree → List Memory → List (List ℕ) → State Contents
after_edges d image entries = after (core_of d) (first_contents d image) entries

abbrev pub state_of : DescriptionTree → List Memory → List (List ℕ) → engine.State
state_of d image entries = shown_state d (shown (core_of d) (after_edges d image entries))
