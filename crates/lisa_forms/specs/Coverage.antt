-- The first two plain forms that overlap, and the first alias that no plain form covers, as faults.
use Rattle.std.specs.Prelude.{◌≡◌, ℕ, Option, option_map, IfSome, bit_or}
use Rattle.lisa_tree.specs.declared.faults.DescFault.{DescFault}
use Rattle.lisa_tree.specs.declared.faults.DescFault.TheVariants as faults
use Rattle.lisa_tree.specs.Descriptions.{DescriptionTree}
use Rattle.instruction_trees.specs.Bits.{pattern}
use Rattle.pattern_tables.specs.Patterns.{frame_at}
use Rattle.pattern_tables.specs.Overlaps.{AnswersOverlap, AnswersUncovered}
use Rattle.pattern_tables.specs.declared.overlaps.Overlap.{Overlap}
use Rattle.form_patterns.specs.Instructions.{instruction_frames, instruction_plain}
use Rattle.lisa_forms.specs.Verdicts.{form_name_at}

abbrev pub overlap : DescriptionTree → Overlap → DescFault
overlap d o = faults.Overlap (form_name_at d o.first) (form_name_at d o.second) o.word

-- the word's bits are 1 where a literal 1 of either form stands
abbrev pub IsJoined : DescriptionTree → Overlap → Type 0
IsJoined d o = o.word ≡ bit_or (pattern (frame_at (instruction_frames d) o.first)) (pattern (frame_at (instruction_frames d) o.second))

-- two plain forms have a word in common
pub record IsOverlapVerdict (d : DescriptionTree) (found : Option DescFault) : Type 0 where
  pub pair : Option Overlap
  pub first : AnswersOverlap (instruction_frames d) (instruction_plain d) pair
  pub word : IfSome pair (IsJoined d)
  pub is : found ≡ option_map (overlap d) pair

abbrev pub not_an_alias : DescriptionTree → ℕ → DescFault
not_an_alias d k = faults.NotAnAlias (form_name_at d k)

-- no plain form covers an alias
pub record IsUncoveredVerdict (d : DescriptionTree) (found : Option DescFault) : Type 0 where
  pub form : Option ℕ
  pub first : AnswersUncovered (instruction_frames d) (instruction_plain d) form
  pub is : found ≡ option_map (not_an_alias d) form
