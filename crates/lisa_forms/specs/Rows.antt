-- Literal bits by the numbers of forms.
use Rattle.std.specs.Prelude.{ℕ, List, map, slice_index_or}
use Rattle.lisa_tree.specs.Descriptions.{DescriptionTree}
use Rattle.instruction_trees.specs.Bits.{Frame, mask, pattern}
use Rattle.pattern_tables.specs.declared.bit_pattern.BitPattern.{BitPattern}
use Rattle.form_patterns.specs.Instructions.{instruction_frames}

-- where a literal 1 of the form stands
abbrev pub pattern_at : List BitPattern → ℕ → ℕ
pattern_at patterns k = slice_index_or (map (λ p. p.pattern) patterns) k 0

-- the mask and the pattern of a frame, and those of each form of a description
abbrev pub frame_pattern : Frame → BitPattern
frame_pattern fs = record { mask = mask fs; pattern = pattern fs }

abbrev pub instruction_patterns : DescriptionTree → List BitPattern
instruction_patterns d = map frame_pattern (instruction_frames d)
