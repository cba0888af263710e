-- The piece that loads a word into a row. On the way to the program: nothing here needs to be trusted.
use Rattle.std.specs.Prelude.{ℕ, zero, suc, ◌+◌, ◌++◌, Bool, true, false, List, [], ◌∷◌, length, flat_map, nat_eq, Option, None, Some}
use Rattle.lisa_tree.specs.Descriptions.{DescriptionTree}
use Rattle.instruction_trees.specs.Bits.{mask, pattern}
use Rattle.instruction_trees.specs.Trees.{Form}
use Rattle.step_program.specs.declared.expressions.TwoOp.TheVariants as ops
use Rattle.step_program.specs.Programs.{Expr, Const, Temp, Two, Move}
use Rattle.step_pieces.specs.Pieces.{Builder, set_temp}
use Rattle.lowered_time.specs.Pieces.{both, either}
use Rattle.lowered_words.specs.Ways.{Way, all_ways, way_place, form_ways, plain_forms}
use Rattle.lowered_words.specs.Rows.{form_frame, decoded_at, flag_at}

-- so many temps from a place on are 0
abbrev pub cleared : ℕ → ℕ → List Move
cleared from zero = []
cleared from (suc count) = set_temp from (Const 1 0) ∷ cleared (from + 1) count

-- a temp is 1 where the scratch is
abbrev pub raised : ℕ → ℕ → Move
raised scratch temp = set_temp temp (either (Temp temp) (Temp scratch))

-- a form of one operation: no other plain form has its one way
abbrev pub is_alone : DescriptionTree → Form → Bool
is_alone d f = nat_eq (length (form_ways d f)) 1

-- a flag of a form is 1 where the scratch is, and as it was else; that of a form of one operation is the scratch
abbrev pub flag_move : Bool → ℕ → ℕ → Move
flag_move true scratch temp = set_temp temp (Temp scratch)
flag_move false scratch temp = raised scratch temp

abbrev pub flag_raised : Bool → ℕ → ℕ → Option ℕ → List Move
flag_raised alone base scratch None = []
flag_raised alone base scratch (Some place) = flag_move alone scratch (flag_at base place) ∷ []

abbrev pub way_raised : DescriptionTree → Bool → ℕ → ℕ → Way → List Move
way_raised d alone base scratch w = flag_raised alone base scratch (way_place d w)

-- the word has the form's literal bits
abbrev pub test : DescriptionTree → ℕ → ℕ → Form → Expr
test d width base f = Two ops.Equal (both (Temp base) (Const width (mask (form_frame d f)))) (Const width (pattern (form_frame d f)))

-- the word decodes where it is of the form, and has a part by each way of it
abbrev pub form_loaded : DescriptionTree → (width base scratch : ℕ) → Form → List Move
form_loaded d width base scratch f =
    set_temp scratch (test d width base f) ∷ raised scratch (decoded_at base) ∷ flat_map (way_raised d (is_alone d f) base scratch) (form_ways d f)

-- a row of this base gets a word of this width
abbrev pub load : DescriptionTree → (width base : ℕ) → Expr → Builder
load d width base e from = record {
  widths = 1 ∷ [];
  moves = set_temp base e ∷ (cleared (decoded_at base) (1 + length (all_ways d)) ++ flat_map (form_loaded d width base from) (plain_forms d));
}
