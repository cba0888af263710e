-- What compiled code stands for: the expressions and actions of a module.
use Rattle.std.specs.Prelude.{ℕ, ◌≡◌, ◌≤◌, ◌%◌, ◌^◌, ◌<◌, ◌++◌, List, [], ◌∷◌, map, All, flat_map, slice_index, slice_index_or, length}
use Rattle.lisa_engine.specs.State.{State}
use Rattle.lisa_engine.specs.Shape.{IsShaped, IsFitting}
use Rattle.lisa_engine.specs.declared.parts.ArrayItem.{ArrayItem}
use Rattle.verilog_text.specs.Trees.{VTree, ActionTrees, MemberTree, Wire, Always, ModuleTree}
use Rattle.verilog_text.specs.Values.{Widths, assigned, v_value}
use Rattle.verilog_text.specs.Clockable.{IsNarrow, AreNarrowActions}
use Rattle.verilog_text.specs.Clocked.{regs, arrays, scalars, nets, blocks, env_of, item_place, array_place, updates, v_edge}
use Rattle.verilog_text.specs.Clocked as modules
use Rattle.verilog_clock.specs.declared.code.Code.{Code}
use Rattle.verilog_clock.specs.declared.code.Net.{Net}
use Rattle.verilog_clock.specs.declared.code.Act.{Act}
use Rattle.verilog_clock.specs.declared.code.Update.{Update}
use Rattle.verilog_clock.specs.declared.code.Update.TheVariants as changes
use Rattle.verilog_clock.specs.Compiled.{code_value, act_updates, acts_updates, code_updates, code_edge}

-- the values of the scalars and the cells are within their widths
pub record AreWithin (m : ModuleTree) (values : List ℕ) (cells : List (List ℕ)) : Type 0 where
  pub of_scalars : (place : ℕ) → slice_index values place < 2 ^ slice_index (map (λ item. item.width) (scalars m)) place
  pub of_cells : (array index : ℕ) → slice_index (slice_index_or cells array []) index < 2 ^ slice_index (map (λ array. array.width) (arrays m.members)) array

-- the code has the value of the expression at the length
abbrev pub Means : ModuleTree → VTree → (length : ℕ) → Code → Type 0
Means m e length code = (values : List ℕ) (cells : List (List ℕ)) → AreWithin m values cells → code_value values cells code ≡ v_value (env_of m values cells) e length

-- cut to the width, the code has the value that a target of that width takes
abbrev pub MeansAssigned : ModuleTree → VTree → (width : ℕ) → Code → Type 0
MeansAssigned m e width code = (values : List ℕ) (cells : List (List ℕ)) → AreWithin m values cells → code_value values cells code % 2 ^ width ≡ assigned (env_of m values cells) width e

-- the wires one by one
abbrev pub AreNets : ModuleTree → List Net → List modules.Net → Type 0
AreNets m [] [] = Unit {0}
AreNets m (code ∷ codes) (net ∷ rest) = (code.length.bits ≡ net.item.width) × MeansAssigned m net.value net.item.width code.value × AreNets m codes rest
AreNets m _ _ = ⊥

-- an update by its place
abbrev pub placed : ModuleTree → modules.Update → Update
placed m (modules.SetTo name value) = changes.Item (item_place (regs m.members) name) value
placed m (modules.PutTo name index value) = changes.Cell (array_place (arrays m.members) name) index value

-- the action in front of any others
abbrev pub MeansAct : ModuleTree → (ActionTrees → ActionTrees) → Act → Type 0
MeansAct m before act = (values : List ℕ) (cells : List (List ℕ)) → AreWithin m values cells → (more : ActionTrees)
    → act_updates values cells act ++ map (placed m) (updates (env_of m values cells) more) ≡ map (placed m) (updates (env_of m values cells) (before more))

-- actions were put behind others
abbrev pub MeansActs : ModuleTree → (old new : List Act) → ActionTrees → Type 0
MeansActs m old new actions = (values : List ℕ) (cells : List (List ℕ)) → AreWithin m values cells
    → acts_updates values cells new ≡ acts_updates values cells old ++ map (placed m) (updates (env_of m values cells) actions)

abbrev pub MeansBlocks : ModuleTree → List Act → List ActionTrees → Type 0
MeansBlocks m all each = (values : List ℕ) (cells : List (List ℕ)) → AreWithin m values cells
    → acts_updates values cells all ≡ map (placed m) (flat_map (updates (env_of m values cells)) each)

-- an update of a cell is within the array's width
pub record IsFor (all : List ArrayItem) (update : Update) : Type 0 where
  pub within : (array index value : ℕ) (item : ArrayItem) → update ≡ changes.Cell array index value → array < length all → value < 2 ^ (slice_index_or all array item).width

-- the compiled edges are the module's
pub record Runs (m : ModuleTree) (wires : List Net) (all : List Act) : Type 0 where
  pub edges : (state : State) (pins : List ℕ) → IsShaped (regs m.members) (arrays m.members) state → IsFitting m.inputs pins → code_edge wires all state pins ≡ v_edge m state pins
  pub writes : (state : State) (pins : List ℕ) → IsShaped (regs m.members) (arrays m.members) state → IsFitting m.inputs pins → All (IsFor (arrays m.members)) (code_updates wires all state pins)

-- no expression of the member is longer than 64 bits, and no wire wider
abbrev pub IsSmallMember : Widths → MemberTree → Type 0
IsSmallMember widths (Wire item e) = (item.width ≤ 64) × IsNarrow widths e
IsSmallMember widths (Always edge actions) = AreNarrowActions widths actions
IsSmallMember widths _ = Unit {0}
