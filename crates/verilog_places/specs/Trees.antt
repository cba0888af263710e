-- Modules with places as plain trees: the same variants and numbers, and each vector as a list.
use Rattle.std.specs.Prelude.{ℕ, List, [], ◌∷◌, Option, Some, None, map}
use Rattle.lisa_engine.specs.declared.parts.Item.{Item}
use Rattle.lisa_engine.specs.declared.parts.ArrayItem.{ArrayItem}
use Rattle.lisa_words.specs.declared.binary.Operator.{Operator}
use Rattle.verilog_text.specs.declared.expressions.VOne.{VOne}
use Rattle.verilog_text.specs.Trees as trees
use Rattle.verilog_text.specs.Trees.{VTree, VTrees, ActionTrees, SettingTree, MemberTree, ModuleTree, setting_tree}
use Rattle.verilog_places.specs.declared.expressions.PlacedExpr.{PlacedExpr, Join', Row_of-PlacedExpr, end_of-PlacedExpr, more_of-PlacedExpr}
use Rattle.verilog_places.specs.declared.expressions.PlacedExpr.TheVariants as exprs
use Rattle.verilog_places.specs.declared.modules.PlacedAction.{PlacedAction, If', Row_of-PlacedAction, end_of-PlacedAction, more_of-PlacedAction}
use Rattle.verilog_places.specs.declared.modules.PlacedAction.TheVariants as acts
use Rattle.verilog_places.specs.declared.modules.PlacedMember.{PlacedMember}
use Rattle.verilog_places.specs.declared.modules.PlacedMember.TheVariants as members
use Rattle.verilog_places.specs.declared.modules.PlacedInput.{PlacedInput}
use Rattle.verilog_places.specs.declared.modules.PlacedModule.{PlacedModule}

-- ---- expressions

-- each begins with its place
mutual
  pub data PlacedTree : Type 0 where
    Number : (at width value : ℕ) → PlacedTree
    Named : (at : ℕ) → List ℕ → PlacedTree
    Bits : (at : ℕ) → List ℕ → (high low : ℕ) → PlacedTree
    Cell : (at : ℕ) → List ℕ → PlacedTree → PlacedTree
    One : (at : ℕ) → VOne → PlacedTree → PlacedTree
    Two : (at : ℕ) → Operator → PlacedTree → PlacedTree → PlacedTree
    Choose : (at : ℕ) → (test this other : PlacedTree) → PlacedTree
    Join : (at : ℕ) → PlacedTrees → PlacedTree
    Repeat : (at times : ℕ) → PlacedTree → PlacedTree

  -- a list of expressions
  pub data PlacedTrees : Type 0 where
    End : PlacedTrees
    Then : PlacedTree → PlacedTrees → PlacedTrees

abbrev pub place : PlacedTree → ℕ
place (Number at width value) = at
place (Named at name) = at
place (Bits at name high low) = at
place (Cell at name index) = at
place (One at one a) = at
place (Two at operator a b) = at
place (Choose at test this other) = at
place (Join at parts) = at
place (Repeat at times a) = at

-- the same expression, which begins here
abbrev pub moved : ℕ → PlacedTree → PlacedTree
moved at (Number old width value) = Number at width value
moved at (Named old name) = Named at name
moved at (Bits old name high low) = Bits at name high low
moved at (Cell old name index) = Cell at name index
moved at (One old one a) = One at one a
moved at (Two old operator a b) = Two at operator a b
moved at (Choose old test this other) = Choose at test this other
moved at (Join old parts) = Join at parts
moved at (Repeat old times a) = Repeat at times a

-- what begins where its left operand begins
abbrev pub two : Operator → PlacedTree → PlacedTree → PlacedTree
two operator a b = Two (place a) operator a b

abbrev pub choose : (test this other : PlacedTree) → PlacedTree
choose test this other = Choose (place test) test this other

abbrev mutual
  -- without places
  pub bare : PlacedTree → VTree
  bare (Number at width value) = trees.Number width value
  bare (Named at name) = trees.Named name
  bare (Bits at name high low) = trees.Bits name high low
  bare (Cell at name index) = trees.Cell name (bare index)
  bare (One at one a) = trees.One one (bare a)
  bare (Two at operator a b) = trees.Two operator (bare a) (bare b)
  bare (Choose at test this other) = trees.Choose (bare test) (bare this) (bare other)
  bare (Join at parts) = trees.Join (bare_parts parts)
  bare (Repeat at times a) = trees.Repeat times (bare a)

  pub bare_parts : PlacedTrees → VTrees
  bare_parts End = trees.End
  bare_parts (Then e rest) = trees.Then (bare e) (bare_parts rest)

abbrev mutual
  -- the plain tree that an expression stands for
  pub placed_tree : PlacedExpr → PlacedTree
  placed_tree (exprs.Number at word) = Number at word.width word.bits
  placed_tree (exprs.Named at name) = Named at name
  placed_tree (exprs.Bits at name high low) = Bits at name high low
  placed_tree (exprs.Cell' at name p index) = Cell at name (placed_tree index)
  placed_tree (exprs.One' at one p a) = One at one (placed_tree a)
  placed_tree (exprs.Two' at operator p a q b) = Two at operator (placed_tree a) (placed_tree b)
  placed_tree (exprs.Choose' at p c q a r b) = Choose at (placed_tree c) (placed_tree a) (placed_tree b)
  placed_tree (Join' at shape row) = Join at (row_placed row)
  placed_tree (exprs.Repeat' at times p a) = Repeat at times (placed_tree a)

  pub row_placed : {m : _} → Row_of-PlacedExpr m → PlacedTrees
  row_placed end_of-PlacedExpr = End
  row_placed (more_of-PlacedExpr e rest) = Then (placed_tree e) (row_placed rest)

-- the plain trees that a list of expressions stands for
abbrev pub placed_trees : List PlacedExpr → PlacedTrees
placed_trees [] = End
placed_trees (e ∷ rest) = Then (placed_tree e) (placed_trees rest)

-- ---- actions

-- a list of actions, in order
pub data PlacedActions : Type 0 where
  Done : PlacedActions
  Set : (name : List ℕ) → (value : PlacedTree) → (rest : PlacedActions) → PlacedActions
  Put : (name : List ℕ) → (index value : PlacedTree) → (rest : PlacedActions) → PlacedActions
  If : (test : PlacedTree) → (this other rest : PlacedActions) → PlacedActions

-- the actions of two lists, one behind the other
abbrev pub joined : PlacedActions → PlacedActions → PlacedActions
joined Done more = more
joined (Set name value rest) more = Set name value (joined rest more)
joined (Put name index value rest) more = Put name index value (joined rest more)
joined (If test this other rest) more = If test this other (joined rest more)

abbrev pub bare_actions : PlacedActions → ActionTrees
bare_actions Done = trees.Done
bare_actions (Set name value rest) = trees.Set name (bare value) (bare_actions rest)
bare_actions (Put name index value rest) = trees.Put name (bare index) (bare value) (bare_actions rest)
bare_actions (If test this other rest) = trees.If (bare test) (bare_actions this) (bare_actions other) (bare_actions rest)

-- what an action assigns, in front of other actions
abbrev pub set_then : List ℕ → Option PlacedExpr → PlacedTree → PlacedActions → PlacedActions
set_then name None value more = Set name value more
set_then name (Some index) value more = Put name (placed_tree index) value more

abbrev mutual
  -- an action in front of others
  pub action_then : PlacedAction → PlacedActions → PlacedActions
  action_then (acts.Set name index value) more = set_then name index (placed_tree value) more
  action_then (If' test p this q other) more = If (placed_tree test) (row_actions this) (row_actions other) more

  pub row_actions : {m : _} → Row_of-PlacedAction m → PlacedActions
  row_actions end_of-PlacedAction = Done
  row_actions (more_of-PlacedAction a rest) = action_then a (row_actions rest)

-- the plain tree that a list of actions stands for
abbrev pub placed_actions : List PlacedAction → PlacedActions
placed_actions [] = Done
placed_actions (a ∷ rest) = action_then a (placed_actions rest)

-- ---- members and modules

-- a declaration begins with the place of its range
pub data PlacedMemberTree : Type 0 where
  Reg : (range : ℕ) → Item → PlacedMemberTree
  Array : (range : ℕ) → ArrayItem → PlacedMemberTree
  Wire : (range : ℕ) → Item → PlacedTree → PlacedMemberTree
  Initial : List SettingTree → PlacedMemberTree
  -- the name behind `posedge`, and the actions
  Always : List ℕ → PlacedActions → PlacedMemberTree

pub record PlacedModuleTree : Type 0 where
  pub name : List ℕ
  pub clock : List ℕ
  -- those after the clock
  pub inputs : List PlacedInput
  pub members : List PlacedMemberTree

abbrev pub bare_member : PlacedMemberTree → MemberTree
bare_member (Reg range item) = trees.Reg item
bare_member (Array range array) = trees.Array array
bare_member (Wire range item e) = trees.Wire item (bare e)
bare_member (Initial settings) = trees.Initial settings
bare_member (Always edge actions) = trees.Always edge (bare_actions actions)

abbrev pub bare_inputs : List PlacedInput → List Item
bare_inputs inputs = map (λ input. input.item) inputs

abbrev pub bare_members : List PlacedMemberTree → List MemberTree
bare_members members = map bare_member members

abbrev pub bare_module : PlacedModuleTree → ModuleTree
bare_module m = record { name = m.name; clock = m.clock; inputs = bare_inputs m.inputs; members = bare_members m.members }

abbrev pub placed_member : PlacedMember → PlacedMemberTree
placed_member (members.Reg range item) = Reg range item
placed_member (members.Array range array) = Array range array
placed_member (members.Wire range item e) = Wire range item (placed_tree e)
placed_member (members.Initial settings) = Initial (map setting_tree settings.items)
placed_member (members.Always edge actions) = Always edge (placed_actions actions.items)

-- the plain tree that a module stands for
abbrev pub placed_module : PlacedModule → PlacedModuleTree
placed_module m = record { name = m.name; clock = m.clock; inputs = m.inputs.items; members = map placed_member m.members.items }
