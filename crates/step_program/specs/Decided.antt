-- The decisions of which `well_formed` is made, on the plain program.
use Rattle.std.specs.Prelude.{ℕ, ◌^◌, Bool, true, false, List, [], ◌∷◌, length, drop, codes, sum_by, Option, Some, None, nat_eq, nat_le, nat_lt, not, ◌&&◌, if◌then◌else◌}
use Rattle.std.specs.List.{slice_get, list_any, list_all, starts_with}
use Rattle.std.specs.Option.{option_map, option_map_or, option_and_then}
use Rattle.std.specs.Str.{bytes_eq}
use Rattle.lisa_engine.specs.declared.parts.Item.{Item}
use Rattle.lisa_engine.specs.declared.parts.ArrayItem.{ArrayItem}
use Rattle.step_program.specs.declared.expressions.OneOp.{OneOp}
use Rattle.step_program.specs.declared.expressions.OneOp.TheVariants.{Not, Cut, Widen}
use Rattle.step_program.specs.declared.expressions.TwoOp.{TwoOp}
use Rattle.step_program.specs.declared.expressions.TwoOp.TheVariants as ops
use Rattle.step_program.specs.Programs.{Expr, Const, Now, Before, Pin, Temp, Cell, One, Two, Choose, Aim, ToItem, ToTemp, ToCell, Move, Program}

-- ---- names

abbrev pub is_graphic : ℕ → Bool
is_graphic byte = nat_le 33 byte && nat_le byte 126

abbrev pub is_digit : ℕ → Bool
is_digit byte = nat_le 48 byte && nat_le byte 57

abbrev pub is_wire_name : List ℕ → Bool
is_wire_name name = starts_with nat_eq name (codes "wire.") && nat_lt 5 (length name) && list_all is_digit (drop 5 name)

abbrev pub is_free_name : List ℕ → Bool
is_free_name name = nat_lt 0 (length name) && list_all is_graphic name && not (bytes_eq name (codes "edge.clock")) && not (is_wire_name name)

-- ---- declarations

abbrev pub is_width : ℕ → Bool
is_width w = nat_le 1 w && nat_le w 64

abbrev pub is_declared : Item → Bool
is_declared item = is_free_name item.name && is_width item.width

-- whether a depth is 2 ^ width
abbrev pub needs : (depth width : ℕ) → Bool
needs depth width = nat_eq depth (2 ^ width)

abbrev pub exponents : List ℕ
exponents = 1 ∷ 2 ∷ 3 ∷ 4 ∷ 5 ∷ 6 ∷ 7 ∷ 8 ∷ 9 ∷ 10 ∷ 11 ∷ 12 ∷ 13 ∷ 14 ∷ 15 ∷ 16 ∷ 17 ∷ 18 ∷ 19 ∷ 20 ∷ []

abbrev pub is_depth : ℕ → Bool
is_depth depth = list_any (needs depth) exponents

abbrev pub is_stored : ArrayItem → Bool
is_stored array = is_free_name array.name && is_width array.width && is_depth array.depth

-- ---- expressions, with their widths

abbrev pub width_if : Bool → ℕ → Option ℕ
width_if fits width = if fits then Some width else None

abbrev pub one_fit : OneOp → ℕ → Option ℕ
one_fit Not width = Some width
one_fit (Cut narrow) width = width_if (nat_le 1 narrow && nat_le narrow width) narrow
one_fit (Widen wide) width = width_if (nat_le width wide && nat_le wide 64) wide

abbrev pub two_fit : TwoOp → (left right : ℕ) → Option ℕ
two_fit ops.Shl left right = Some left
two_fit ops.Shr left right = Some left
two_fit ops.Equal left right = width_if (nat_eq left right) 1
two_fit ops.Less left right = width_if (nat_eq left right) 1
two_fit _ left right = width_if (nat_eq left right) left

abbrev pub item_fit : List Item → ℕ → Option ℕ
item_fit items place = option_map (λ item. item.width) (slice_get items place)

-- where the index has this width
abbrev pub cell_fit : List ArrayItem → (array index : ℕ) → Option ℕ
cell_fit arrays array index = option_and_then (λ a. width_if (needs a.depth index) a.width) (slice_get arrays array)

-- the width of an expression that fits
abbrev pub fit : Program → Expr → Option ℕ
fit p (Const w v) = width_if (is_width w && nat_lt v (2 ^ w)) w
fit p (Now item) = item_fit p.items item
fit p (Before item) = item_fit p.items item
fit p (Pin pin) = item_fit p.pins pin
fit p (Temp temp) = slice_get p.temps temp
fit p (Cell array index) = option_and_then (λ w. cell_fit p.arrays array w) (fit p index)
fit p (One one a) = option_and_then (λ w. one_fit one w) (fit p a)
fit p (Two two a b) = option_and_then (λ w. option_and_then (λ v. two_fit two w v) (fit p b)) (fit p a)
fit p (Choose test this other) = option_and_then (λ t. option_and_then (λ w. option_and_then (λ v. width_if (nat_eq w v) w) (fit p other)) (fit p this)) (fit p test)

-- ---- steps

abbrev pub aim_fit : Program → Aim → Option ℕ
aim_fit p (ToItem item) = item_fit p.items item
aim_fit p (ToTemp temp) = slice_get p.temps temp
aim_fit p (ToCell array index) = option_and_then (λ w. cell_fit p.arrays array w) (fit p index)

abbrev pub move_fit : Program → Move → Option ℕ
move_fit p move = option_and_then (λ g. option_and_then (λ v. option_and_then (λ w. width_if (nat_eq v w) w) (aim_fit p move.aim)) (fit p move.value)) (fit p move.guard)

abbrev pub is_move : Program → Move → Bool
is_move p move = option_map_or (λ w. true) (move_fit p move) false

-- ---- programs

-- one value for each item, within its width
abbrev pub are_firsts : List Item → List ℕ → Bool
are_firsts [] first = nat_eq (length first) 0
are_firsts (item ∷ items) [] = false
are_firsts (item ∷ items) (v ∷ first) = nat_lt v (2 ^ item.width) && are_firsts items first

abbrev pub is_counted : Program → Bool
is_counted p = nat_le (length p.items) 8192 && nat_le (length p.arrays) 1024 && nat_le (length p.pins) 64 && nat_le (sum_by (λ array. array.depth) p.arrays) 4194304

abbrev pub is_named : Program → Bool
is_named p = list_all is_declared p.items && list_all is_stored p.arrays && list_all is_declared p.pins && list_all is_width p.temps

abbrev pub is_well_formed : Program → Bool
is_well_formed p = is_counted p && is_named p && are_firsts p.items p.first && list_all (is_move p) p.moves
