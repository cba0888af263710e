-- Modules as plain trees, without where they lie in memory: the same variants and numbers, and each vector as a list.
use Rattle.std.specs.Prelude.{ℕ, suc, max, List, [], ◌∷◌, Option, Some, None, map}
use Rattle.lisa_engine.specs.declared.parts.Item.{Item}
use Rattle.lisa_engine.specs.declared.parts.ArrayItem.{ArrayItem}
use Rattle.lisa_words.specs.declared.words.Word.{Word}
use Rattle.lisa_words.specs.declared.binary.Operator.{Operator}
use Rattle.verilog_text.specs.declared.expressions.VOne.{VOne}
use Rattle.verilog_text.specs.declared.expressions.VExpr.{VExpr, Join', Row_of-VExpr, end_of-VExpr, more_of-VExpr}
use Rattle.verilog_text.specs.declared.expressions.VExpr.TheVariants as exprs
use Rattle.verilog_text.specs.declared.modules.Action.{Action, If', Row_of-Action, end_of-Action, more_of-Action}
use Rattle.verilog_text.specs.declared.modules.Action.TheVariants as acts
use Rattle.verilog_text.specs.declared.modules.Member.{Member}
use Rattle.verilog_text.specs.declared.modules.Member.TheVariants as members
use Rattle.verilog_text.specs.declared.modules.Module.{Module}

mutual
  pub data VTree : Type 0 where
    Number : (width value : ℕ) → VTree
    Named : List ℕ → VTree
    Bits : List ℕ → (high low : ℕ) → VTree
    Cell : List ℕ → VTree → VTree
    One : VOne → VTree → VTree
    Two : Operator → VTree → VTree → VTree
    Choose : (test this other : VTree) → VTree
    Join : VTrees → VTree
    Repeat : (times : ℕ) → VTree → VTree

  -- a list of expressions
  pub data VTrees : Type 0 where
    End : VTrees
    Then : VTree → VTrees → VTrees

abbrev mutual
  -- the plain tree that an expression stands for
  pub vexpr_tree : VExpr → VTree
  vexpr_tree (exprs.Number word) = Number word.width word.bits
  vexpr_tree (exprs.Named name) = Named name
  vexpr_tree (exprs.Bits name high low) = Bits name high low
  vexpr_tree (exprs.Cell' name p index) = Cell name (vexpr_tree index)
  vexpr_tree (exprs.One' one p a) = One one (vexpr_tree a)
  vexpr_tree (exprs.Two' operator p a q b) = Two operator (vexpr_tree a) (vexpr_tree b)
  vexpr_tree (exprs.Choose' p c q a r b) = Choose (vexpr_tree c) (vexpr_tree a) (vexpr_tree b)
  vexpr_tree (Join' shape row) = Join (row_trees row)
  vexpr_tree (exprs.Repeat' times p a) = Repeat times (vexpr_tree a)

  pub row_trees : {m : _} → Row_of-VExpr m → VTrees
  row_trees end_of-VExpr = End
  row_trees (more_of-VExpr e rest) = Then (vexpr_tree e) (row_trees rest)

-- the plain trees that a list of expressions stands for
abbrev pub vexpr_trees : List VExpr → VTrees
vexpr_trees [] = End
vexpr_trees (e ∷ rest) = Then (vexpr_tree e) (vexpr_trees rest)

-- a list of actions, in order
pub data ActionTrees : Type 0 where
  Done : ActionTrees
  -- `name <= value;` and the rest
  Set : (name : List ℕ) → (value : VTree) → (rest : ActionTrees) → ActionTrees
  -- `name[index] <= value;` and the rest
  Put : (name : List ℕ) → (index value : VTree) → (rest : ActionTrees) → ActionTrees
  -- the actions where the test isn't 0, those where it is, and the rest
  If : (test : VTree) → (this other rest : ActionTrees) → ActionTrees

-- the actions of two lists, one behind the other
abbrev pub joined : ActionTrees → ActionTrees → ActionTrees
joined Done more = more
joined (Set name value rest) more = Set name value (joined rest more)
joined (Put name index value rest) more = Put name index value (joined rest more)
joined (If test this other rest) more = If test this other (joined rest more)

-- what an action assigns, in front of other actions
abbrev pub set_then : List ℕ → Option VExpr → VTree → ActionTrees → ActionTrees
set_then name None value more = Set name value more
set_then name (Some index) value more = Put name (vexpr_tree index) value more

abbrev mutual
  -- an action in front of others
  pub action_then : Action → ActionTrees → ActionTrees
  action_then (acts.Set name index value) more = set_then name index (vexpr_tree value) more
  action_then (If' test p this q other) more = If (vexpr_tree test) (row_actions this) (row_actions other) more

  pub row_actions : {m : _} → Row_of-Action m → ActionTrees
  row_actions end_of-Action = Done
  row_actions (more_of-Action a rest) = action_then a (row_actions rest)

-- the plain tree that a list of actions stands for
abbrev pub action_trees : List Action → ActionTrees
action_trees [] = Done
action_trees (a ∷ rest) = action_then a (action_trees rest)

-- a first value: the name, and the number with its size
pub record SettingTree : Type 0 where
  pub name : List ℕ
  pub width : ℕ
  pub value : ℕ

pub data MemberTree : Type 0 where
  Reg : Item → MemberTree
  Array : ArrayItem → MemberTree
  Wire : Item → VTree → MemberTree
  Initial : List SettingTree → MemberTree
  -- the clock that its `posedge` names, and the actions
  Always : List ℕ → ActionTrees → MemberTree

pub record ModuleTree : Type 0 where
  pub name : List ℕ
  pub clock : List ℕ
  -- those after the clock
  pub inputs : List Item
  pub members : List MemberTree

abbrev pub setting_tree : List ℕ × Word → SettingTree
setting_tree (name, word) = record { name = name; width = word.width; value = word.bits }

-- each `always` of a module with this clock names it
abbrev pub member_tree : (clock : List ℕ) → Member → MemberTree
member_tree clock (members.Reg item) = Reg item
member_tree clock (members.Array array) = Array array
member_tree clock (members.Wire item e) = Wire item (vexpr_tree e)
member_tree clock (members.Initial settings) = Initial (map setting_tree settings.items)
member_tree clock (members.Always actions) = Always clock (action_trees actions.items)

-- the plain tree that a module stands for
abbrev pub module_tree : Module → ModuleTree
module_tree m = record { name = m.name; clock = m.clock; inputs = m.inputs.items; members = map (member_tree m.clock) m.members.items }

-- A leaf has depth 1, and any other expression or action one more than the deepest of its parts.
abbrev mutual
  pub v_depth : VTree → ℕ
  v_depth (Cell name index) = suc (v_depth index)
  v_depth (One one a) = suc (v_depth a)
  v_depth (Two operator a b) = suc (max (v_depth a) (v_depth b))
  v_depth (Choose test this other) = suc (max (v_depth test) (max (v_depth this) (v_depth other)))
  v_depth (Join parts) = suc (parts_depth parts)
  v_depth (Repeat times a) = suc (v_depth a)
  v_depth _ = 1

  pub parts_depth : VTrees → ℕ
  parts_depth End = 0
  parts_depth (Then e rest) = max (v_depth e) (parts_depth rest)

abbrev pub actions_depth : ActionTrees → ℕ
actions_depth Done = 0
actions_depth (Set name value rest) = max (suc (v_depth value)) (actions_depth rest)
actions_depth (Put name index value rest) = max (suc (max (v_depth index) (v_depth value))) (actions_depth rest)
actions_depth (If test this other rest) = max (suc (max (v_depth test) (max (actions_depth this) (actions_depth other)))) (actions_depth rest)

abbrev pub member_depth : MemberTree → ℕ
member_depth (Wire item e) = v_depth e
member_depth (Always edge actions) = actions_depth actions
member_depth _ = 0

-- the depth of a module is that of its deepest expression or action, or 0
abbrev pub members_depth : List MemberTree → ℕ
members_depth [] = 0
members_depth (member ∷ rest) = max (member_depth member) (members_depth rest)
