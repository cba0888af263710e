-- Where a module is wider than 64 bits: the first token of the first range or expression that is, in the order of the tokens. Places are
-- counted in tokens; the parentheses round an expression are its own.
use Rattle.std.specs.Prelude.{ℕ, suc, ◌+◌, List, [], ◌∷◌, length, Option, Some, None, nat_lt, if◌then◌else◌}
use Rattle.lisa_engine.specs.declared.parts.Item.{Item}
use Rattle.verilog_text.specs.Tokens.{VToks}
use Rattle.verilog_text.specs.Trees as trees
use Rattle.verilog_text.specs.Trees.{VTree, VTrees, ActionTrees, MemberTree, ModuleTree}
use Rattle.verilog_text.specs.Values.{Widths, v_width}
use Rattle.verilog_text.specs.Clocked.{widths_of}
use Rattle.verilog_text.specs.Grammar as grammar
use Rattle.verilog_text.specs.Grammar.{SpellsVExpr, SpellsVParts, SpellsAction, SpellsActions, SpellsRange, SpellsInputs, SpellsMember, SpellsMembers, SpellsModule}

infixr 20 ◌or_else◌
abbrev pub ◌or_else◌ : Option ℕ → Option ℕ → Option ℕ
None or_else later = later
(Some at) or_else later = Some at

-- this place, if the width there is too great
abbrev pub where_wide : (width at : ℕ) → Option ℕ
where_wide width at = if nat_lt 64 width then Some at else None

abbrev mutual
  -- inside an expression whose first token has this place
  pub wide_inside : Widths → {level : ℕ} {ts : VToks} {e : VTree} → SpellsVExpr level ts e → (at : ℕ) → Option ℕ
  wide_inside w grammar.number at = None
  wide_inside w grammar.named at = None
  wide_inside w grammar.bit at = None
  wide_inside w grammar.part at = None
  wide_inside w (grammar.cell {index = index} d is) at = where_wide (v_width w index) (at + 2) or_else wide_inside w d (at + 2)
  wide_inside w (grammar.join ds is) at = wide_parts w ds (at + 1)
  wide_inside w (grammar.repeat {a = a} some d is) at = where_wide (v_width w a) (at + 3) or_else wide_inside w d (at + 3)
  wide_inside w (grammar.inside d is) at = wide_inside w d (at + 1)
  wide_inside w (grammar.one o {a = a} d) at = where_wide (v_width w a) (at + 1) or_else wide_inside w d (at + 1)
  wide_inside w (grammar.two o {xs = xs} {a = a} {b = b} level c d is) at =
      where_wide (v_width w a) at or_else wide_inside w c at or_else where_wide (v_width w b) (at + (length xs + 1)) or_else wide_inside w d (at + (length xs + 1))
  wide_inside w (grammar.choose {xs = xs} {ys = ys} {c = c} {a = a} {b = b} x y z is) at =
      where_wide (v_width w c) at or_else wide_inside w x at or_else where_wide (v_width w a) (at + (length xs + 1)) or_else wide_inside w y (at + (length xs + 1))
      or_else where_wide (v_width w b) (at + (length xs + (length ys + 2))) or_else wide_inside w z (at + (length xs + (length ys + 2)))
  wide_inside w (grammar.tighter d) at = wide_inside w d at

  pub wide_parts : Widths → {ts : VToks} {all : VTrees} → SpellsVParts ts all → (at : ℕ) → Option ℕ
  wide_parts w (grammar.last {a = a} d) at = where_wide (v_width w a) at or_else wide_inside w d at
  wide_parts w (grammar.more {xs = xs} {a = a} d ds is) at = where_wide (v_width w a) at or_else wide_inside w d at or_else wide_parts w ds (at + (length xs + 1))

-- in an expression
abbrev pub wide_expr : Widths → {level : ℕ} {ts : VToks} {e : VTree} → SpellsVExpr level ts e → (at : ℕ) → Option ℕ
wide_expr w {e = e} d at = where_wide (v_width w e) at or_else wide_inside w d at

abbrev mutual
  pub wide_action : Widths → {closed : _} {ts : VToks} {a : ActionTrees} → SpellsAction closed ts a → (at : ℕ) → Option ℕ
  wide_action w (grammar.block ds is) at = wide_actions w ds (at + 1)
  wide_action w (grammar.set d is) at = wide_expr w d (at + 2)
  wide_action w (grammar.put {xs = xs} d e is) at = wide_expr w d (at + 2) or_else wide_expr w e (at + (length xs + 4))
  wide_action w (grammar.when {xs = xs} d a is) at = wide_expr w d (at + 2) or_else wide_action w a (at + (length xs + 3))
  wide_action w (grammar.choose {xs = xs} {ys = ys} d a b is) at =
      wide_expr w d (at + 2) or_else wide_action w a (at + (length xs + 3)) or_else wide_action w b (at + (length xs + (length ys + 4)))

  pub wide_actions : Widths → {ts : VToks} {a : ActionTrees} → SpellsActions ts a → (at : ℕ) → Option ℕ
  wide_actions w grammar.none at = None
  wide_actions w (grammar.some {xs = xs} d ds is e) at = wide_action w d at or_else wide_actions w ds (at + length xs)

-- in a range: its `[`
abbrev pub wide_range : {ts : VToks} {width : ℕ} → SpellsRange ts width → (at : ℕ) → Option ℕ
wide_range {width = width} d at = where_wide width at

abbrev pub wide_inputs : {ts : VToks} {all : List Item} → SpellsInputs ts all → (at : ℕ) → Option ℕ
wide_inputs grammar.none at = None
wide_inputs (grammar.some {wire = wire} {xs = xs} optional d ds is) at = wide_range d (at + (2 + length wire)) or_else wide_inputs ds (at + (3 + (length wire + length xs)))

abbrev pub wide_member : Widths → {ts : VToks} {member : MemberTree} → SpellsMember ts member → (at : ℕ) → Option ℕ
wide_member w (grammar.reg d is) at = wide_range d (at + 1)
wide_member w (grammar.array last digits d depth is) at = wide_range d (at + 1)
wide_member w (grammar.wire {xs = xs} d e is) at = wide_range d (at + 1) or_else wide_expr w e (at + (3 + length xs))
wide_member w grammar.first at = None
wide_member w (grammar.initial is) at = None
wide_member w (grammar.always d is) at = wide_action w d (at + 6)

abbrev pub wide_members : Widths → {ts : VToks} {all : List MemberTree} → SpellsMembers ts all → (at : ℕ) → Option ℕ
wide_members w grammar.none at = None
wide_members w (grammar.some {xs = xs} d ds is) at = wide_member w d at or_else wide_members w ds (at + length xs)

-- the number of the first token of what is too wide first
abbrev pub first_wide : {ts : VToks} {m : ModuleTree} → SpellsModule ts m → Option ℕ
first_wide {m = m} s = wide_inputs s.spells_inputs (5 + length s.wire) or_else wide_members (widths_of m) s.spells_members (7 + (length s.wire + length s.input_part))
