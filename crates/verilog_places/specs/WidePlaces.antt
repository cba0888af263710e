-- Where a module is wider than 64 bits: the first byte of the first range or expression that is, in the order of the text.
use Rattle.std.specs.Prelude.{ℕ, List, [], ◌∷◌, Option, None}
use Rattle.verilog_text.specs.Values.{Widths, v_width}
use Rattle.verilog_text.specs.Clocked.{widths_of}
use Rattle.verilog_text.specs.WidePlaces.{where_wide, ◌or_else◌}
use Rattle.verilog_places.specs.declared.modules.PlacedInput.{PlacedInput}
use Rattle.verilog_places.specs.Trees.{PlacedTree, Cell, One, Two, Choose, Join, Repeat, PlacedTrees, End, Then, place, bare, PlacedActions, Done, Set, Put, If, PlacedMemberTree, Reg, Array, Wire, Initial, Always, PlacedModuleTree, bare_module}

-- at an expression's own place
abbrev pub wide_at : Widths → PlacedTree → Option ℕ
wide_at w e = where_wide (v_width w (bare e)) (place e)

abbrev mutual
  -- inside an expression
  pub wide_inside : Widths → PlacedTree → Option ℕ
  wide_inside w (Cell at name index) = wide_at w index or_else wide_inside w index
  wide_inside w (One at one a) = wide_at w a or_else wide_inside w a
  wide_inside w (Two at operator a b) = (wide_at w a or_else wide_inside w a) or_else (wide_at w b or_else wide_inside w b)
  wide_inside w (Choose at test this other) = (wide_at w test or_else wide_inside w test) or_else (wide_at w this or_else wide_inside w this) or_else (wide_at w other or_else wide_inside w other)
  wide_inside w (Join at parts) = wide_parts w parts
  wide_inside w (Repeat at times a) = wide_at w a or_else wide_inside w a
  wide_inside w _ = None

  pub wide_parts : Widths → PlacedTrees → Option ℕ
  wide_parts w End = None
  wide_parts w (Then e rest) = (wide_at w e or_else wide_inside w e) or_else wide_parts w rest

-- in an expression
abbrev pub wide_expr : Widths → PlacedTree → Option ℕ
wide_expr w e = wide_at w e or_else wide_inside w e

abbrev pub wide_actions : Widths → PlacedActions → Option ℕ
wide_actions w Done = None
wide_actions w (Set name value rest) = wide_expr w value or_else wide_actions w rest
wide_actions w (Put name index value rest) = wide_expr w index or_else wide_expr w value or_else wide_actions w rest
wide_actions w (If test this other rest) = wide_expr w test or_else wide_actions w this or_else wide_actions w other or_else wide_actions w rest

abbrev pub wide_inputs : List PlacedInput → Option ℕ
wide_inputs [] = None
wide_inputs (input ∷ rest) = where_wide input.item.width input.range or_else wide_inputs rest

abbrev pub wide_member : Widths → PlacedMemberTree → Option ℕ
wide_member w (Reg range item) = where_wide item.width range
wide_member w (Array range array) = where_wide array.width range
wide_member w (Wire range item e) = where_wide item.width range or_else wide_expr w e
wide_member w (Initial settings) = None
wide_member w (Always edge actions) = wide_actions w actions

abbrev pub wide_members : Widths → List PlacedMemberTree → Option ℕ
wide_members w [] = None
wide_members w (member ∷ rest) = wide_member w member or_else wide_members w rest

-- where it is too wide first
abbrev pub first_wide : PlacedModuleTree → Option ℕ
first_wide m = wide_inputs m.inputs or_else wide_members (widths_of (bare_module m)) m.members
