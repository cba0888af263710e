-- What the code's words and ways stand for, and tests of literal bits.
use Rattle.std.specs.Prelude.{ℕ, ◌≡◌, ◌≤◌, ◌<◌, ◌^◌, Option, option_map}
use Rattle.lisa_tree.specs.Descriptions.{DescriptionTree}
use Rattle.pattern_tables.specs.declared.bit_pattern.BitPattern.{BitPattern}
use Rattle.step_program.specs.declared.expressions.TwoOp.TheVariants as ops
use Rattle.step_program.specs.Programs.{Expr, Const, Temp, Two}
use Rattle.lowered_time.specs.Pieces.{both}
use Rattle.scene_paths.specs.Lookups.{tree_of}
use Rattle.lowered_words.specs.declared.way_at.WayAt.{WayAt}
use Rattle.lowered_words.specs.declared.words.Words.{Words}
use Rattle.lowered_words.specs.Ways.{Way, way_place}

-- the description whose words they are
abbrev pub words_tree : Words → DescriptionTree
words_tree words = tree_of words.described.now

-- it is this way: it has the way's place among those of plain forms
abbrev pub IsAt : DescriptionTree → Way → WayAt → Type 0
IsAt d w at = at.place ≡ way_place d w

-- where there is one
abbrev pub AreAt : DescriptionTree → Option Way → Option WayAt → Type 0
AreAt d w at = option_map (λ (a : WayAt). a.place) at ≡ option_map (way_place d) w

-- ---- literal bits

-- they are those of a word of this width
pub record FitsBits (width : ℕ) (bits : BitPattern) : Type 0 where
  pub least : 1 ≤ width
  pub most : width ≤ 64
  pub mask : bits.mask < 2 ^ width
  pub pattern : bits.pattern < 2 ^ width

-- the word at a temp has them
abbrev pub bits_test : ℕ → ℕ → BitPattern → Expr
bits_test width base bits = Two ops.Equal (both (Temp base) (Const width bits.mask)) (Const width bits.pattern)
