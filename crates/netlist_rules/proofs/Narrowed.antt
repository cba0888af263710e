-- Where everything is narrow, nothing is the first that is too wide.
use Rattle.std.proofs.Common.{◌≡◌, ℕ, ◌+◌, ◌≤◌, Bool, List, length, refl, ap, subst, Option, Some, None, if◌then◌else◌}
use Rattle.std.proofs.lemmas.Bool.{le-ltb}
use Rattle.lisa_engine.specs.declared.parts.Item.{Item}
use Rattle.verilog_text.specs.Tokens.{VToks}
use Rattle.verilog_text.specs.Trees as trees
use Rattle.verilog_text.specs.Trees.{VTree, VTrees, ActionTrees, MemberTree, ModuleTree, joined}
use Rattle.verilog_text.specs.Values.{Widths, v_width}
use Rattle.verilog_text.specs.Clocked.{widths_of}
use Rattle.verilog_text.specs.Grammar as grammar
use Rattle.verilog_text.specs.Grammar.{SpellsVExpr, SpellsVParts, SpellsAction, SpellsActions, SpellsRange, SpellsInputs, SpellsMember, SpellsMembers, SpellsModule}
use Rattle.verilog_text.specs.WidePlaces.{where_wide, ◌or_else◌, wide_inside, wide_parts, wide_expr, wide_action, wide_actions, wide_inputs, wide_member, wide_members, first_wide}
use Rattle.verilog_text.specs.Clockable.{IsNarrow, AreNarrow, AreNarrowActions}
use Rattle.verilog_rules.proofs.Narrow.{Each, IsSmall}

none_where : (width at : ℕ) → width ≤ 64 → where_wide width at ≡ None
none_where width at h = ap (λ (b : Bool). if b then Some at else None) (le-ltb 64 width h)

or_none : (a b : Option ℕ) → a ≡ None → b ≡ None → (a or_else b) ≡ None
or_none None b e f = f
or_none (Some x) b e f = absurd cc

pub whole_narrow : (w : Widths) (e : VTree) → IsNarrow w e → v_width w e ≤ 64
whole_narrow w (trees.Number width value) h = h
whole_narrow w (trees.Named name) h = h
whole_narrow w (trees.Bits name high low) h = h
whole_narrow w (trees.Cell name index) h = h.0
whole_narrow w (trees.One o a) h = h.0
whole_narrow w (trees.Two o a b) h = h.0
whole_narrow w (trees.Choose t a b) h = h.0
whole_narrow w (trees.Join parts) h = h.0
whole_narrow w (trees.Repeat times a) h = h.0

mutual
  none_inside : (w : Widths) {level : ℕ} {ts : VToks} {e : VTree} (d : SpellsVExpr level ts e) (at : ℕ) → IsNarrow w e → wide_inside w d at ≡ None
  none_inside w grammar.number at h = refl
  none_inside w grammar.named at h = refl
  none_inside w grammar.bit at h = refl
  none_inside w grammar.part at h = refl
  none_inside w (grammar.cell {index = index} d is) at h = or_none _ _ (none_where (v_width w index) (at + 2) (whole_narrow w index h.1)) (none_inside w d (at + 2) h.1)
  none_inside w (grammar.join ds is) at h = none_parts w ds (at + 1) h.1
  none_inside w (grammar.repeat {a = a} some d is) at h = or_none _ _ (none_where (v_width w a) (at + 3) (whole_narrow w a h.1)) (none_inside w d (at + 3) h.1)
  none_inside w (grammar.inside d is) at h = none_inside w d (at + 1) h
  none_inside w (grammar.one o {a = a} d) at h = or_none _ _ (none_where (v_width w a) (at + 1) (whole_narrow w a h.1)) (none_inside w d (at + 1) h.1)
  none_inside w (grammar.two o {xs = xs} {a = a} {b = b} level c d is) at h =
      or_none _ _ (none_where (v_width w a) at (whole_narrow w a h.1)) (or_none _ _ (none_inside w c at h.1)
      (or_none _ _ (none_where (v_width w b) (at + (length xs + 1)) (whole_narrow w b h.2)) (none_inside w d (at + (length xs + 1)) h.2)))
  none_inside w (grammar.choose {xs = xs} {ys = ys} {c = c} {a = a} {b = b} x y z is) at h =
      or_none _ _ (none_where (v_width w c) at (whole_narrow w c h.1)) (or_none _ _ (none_inside w x at h.1)
      (or_none _ _ (none_where (v_width w a) (at + (length xs + 1)) (whole_narrow w a h.2)) (or_none _ _ (none_inside w y (at + (length xs + 1)) h.2)
      (or_none _ _ (none_where (v_width w b) (at + (length xs + (length ys + 2))) (whole_narrow w b h.3)) (none_inside w z (at + (length xs + (length ys + 2))) h.3)))))
  none_inside w (grammar.tighter d) at h = none_inside w d at h

  none_parts : (w : Widths) {ts : VToks} {all : VTrees} (ds : SpellsVParts ts all) (at : ℕ) → AreNarrow w all → wide_parts w ds at ≡ None
  none_parts w (grammar.last {a = a} d) at h = or_none _ _ (none_where (v_width w a) at (whole_narrow w a h.0)) (none_inside w d at h.0)
  none_parts w (grammar.more {xs = xs} {a = a} d ds is) at h =
      or_none _ _ (none_where (v_width w a) at (whole_narrow w a h.0)) (or_none _ _ (none_inside w d at h.0) (none_parts w ds (at + (length xs + 1)) h.1))

none_expr : (w : Widths) {level : ℕ} {ts : VToks} {e : VTree} (d : SpellsVExpr level ts e) (at : ℕ) → IsNarrow w e → wide_expr w d at ≡ None
none_expr w {e = e} d at h = or_none _ _ (none_where (v_width w e) at (whole_narrow w e h)) (none_inside w d at h)

narrow_front : (w : Widths) (a b : ActionTrees) → AreNarrowActions w (joined a b) → AreNarrowActions w a
narrow_front w trees.Done b h = tt
narrow_front w (trees.Set name value rest) b h = (h.0, narrow_front w rest b h.1)
narrow_front w (trees.Put name index value rest) b h = (h.0, h.1, narrow_front w rest b h.2)
narrow_front w (trees.If test this other rest) b h = (h.0, h.1, h.2, narrow_front w rest b h.3)

narrow_back : (w : Widths) (a b : ActionTrees) → AreNarrowActions w (joined a b) → AreNarrowActions w b
narrow_back w trees.Done b h = h
narrow_back w (trees.Set name value rest) b h = narrow_back w rest b h.1
narrow_back w (trees.Put name index value rest) b h = narrow_back w rest b h.2
narrow_back w (trees.If test this other rest) b h = narrow_back w rest b h.3

mutual
  none_action : (w : Widths) {closed : Bool} {ts : VToks} {a : ActionTrees} (d : SpellsAction closed ts a) (at : ℕ) → AreNarrowActions w a → wide_action w d at ≡ None
  none_action w (grammar.block ds is) at h = none_actions w ds (at + 1) h
  none_action w (grammar.set d is) at h = none_expr w d (at + 2) h.0
  none_action w (grammar.put {xs = xs} d e is) at h = or_none _ _ (none_expr w d (at + 2) h.0) (none_expr w e (at + (length xs + 4)) h.1)
  none_action w (grammar.when {xs = xs} d a is) at h = or_none _ _ (none_expr w d (at + 2) h.0) (none_action w a (at + (length xs + 3)) h.1)
  none_action w (grammar.choose {xs = xs} {ys = ys} d a b is) at h =
      or_none _ _ (none_expr w d (at + 2) h.0) (or_none _ _ (none_action w a (at + (length xs + 3)) h.1) (none_action w b (at + (length xs + (length ys + 4))) h.2))

  none_actions : (w : Widths) {ts : VToks} {a : ActionTrees} (ds : SpellsActions ts a) (at : ℕ) → AreNarrowActions w a → wide_actions w ds at ≡ None
  none_actions w grammar.none at h = refl
  none_actions w (grammar.some {xs = xs} {first = first} {rest = rest} d ds is e) at h =
      let g = subst (AreNarrowActions w) e h in
      or_none _ _ (none_action w d at (narrow_front w first rest g)) (none_actions w ds (at + length xs) (narrow_back w first rest g))

none_inputs : {ts : VToks} {all : List Item} (d : SpellsInputs ts all) (at : ℕ) → Each (λ (item : Item). item.width ≤ 64) all → wide_inputs d at ≡ None
none_inputs grammar.none at h = refl
none_inputs (grammar.some {wire = wire} {xs = xs} {item = item} optional d ds is) at h =
    or_none _ _ (none_where item.width (at + (2 + length wire)) h.0) (none_inputs ds (at + (3 + (length wire + length xs))) h.1)

none_member : (w : Widths) {ts : VToks} {member : MemberTree} (d : SpellsMember ts member) (at : ℕ) → IsSmall w member → wide_member w d at ≡ None
none_member w (grammar.reg {item = item} d is) at h = none_where item.width (at + 1) h
none_member w (grammar.array {array = array} last digits d depth is) at h = none_where array.width (at + 1) h
none_member w (grammar.wire {xs = xs} {item = item} d e is) at h = or_none _ _ (none_where item.width (at + 1) h.0) (none_expr w e (at + (3 + length xs)) h.1)
none_member w grammar.first at h = refl
none_member w (grammar.initial is) at h = refl
none_member w (grammar.always d is) at h = none_action w d (at + 6) h

none_members : (w : Widths) {ts : VToks} {all : List MemberTree} (d : SpellsMembers ts all) (at : ℕ) → Each (IsSmall w) all → wide_members w d at ≡ None
none_members w grammar.none at h = refl
none_members w (grammar.some {xs = xs} d ds is) at h = or_none _ _ (none_member w d at h.0) (none_members w ds (at + length xs) h.1)

pub none_wide : {ts : VToks} {m : ModuleTree} (s : SpellsModule ts m) → Each (λ (item : Item). item.width ≤ 64) m.inputs → Each (IsSmall (widths_of m)) m.members → first_wide s ≡ None
none_wide {m = m} s inputs members =
    or_none _ _ (none_inputs s.spells_inputs (5 + length s.wire) inputs) (none_members (widths_of m) s.spells_members (7 + (length s.wire + length s.input_part)) members)
