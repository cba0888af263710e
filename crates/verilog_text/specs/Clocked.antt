-- The state of a module of one clock: its first values, and its edges. The numbers in brackets are sections of IEEE 1364-2001.
use Rattle.std.specs.Prelude.{ℕ, ◌%◌, ◌^◌, List, [], ◌∷◌, ◌++◌, map, fold, flat_map, slice_index, slice_index_or, slice_set, if◌then◌else◌}
use Rattle.std.specs.List.{position_or_len}
use Rattle.std.specs.Str.{bytes_eq}
use Rattle.lisa_engine.specs.State.{State}
use Rattle.lisa_engine.specs.Memory.{Memory}
use Rattle.lisa_engine.specs.Images.{first_cells}
use Rattle.lisa_engine.specs.Touches.{set_cell}
use Rattle.lisa_engine.specs.declared.parts.Item.{Item}
use Rattle.lisa_engine.specs.declared.parts.ArrayItem.{ArrayItem}
use Rattle.verilog_text.specs.Trees.{VTree, ActionTrees, Done, Set, Put, If, SettingTree, MemberTree, Reg, Array, Wire, Initial, Always, ModuleTree}
use Rattle.verilog_text.specs.Values.{Widths, Env, is_true, self_value, assigned}

-- ---- declarations, each kind in the order in which it stands

-- the regs of one word
abbrev pub regs : List MemberTree → List Item
regs [] = []
regs (Reg item ∷ rest) = item ∷ regs rest
regs (_ ∷ rest) = regs rest

abbrev pub arrays : List MemberTree → List ArrayItem
arrays [] = []
arrays (Array array ∷ rest) = array ∷ arrays rest
arrays (_ ∷ rest) = arrays rest

pub record Net : Type 0 where
  pub item : Item
  pub value : VTree

abbrev pub nets : List MemberTree → List Net
nets [] = []
nets (Wire item e ∷ rest) = record { item = item; value = e } ∷ nets rest
nets (_ ∷ rest) = nets rest

-- the first values of all `initial` blocks [9.9.1]
abbrev pub settings : List MemberTree → List SettingTree
settings [] = []
settings (Initial all ∷ rest) = all ++ settings rest
settings (_ ∷ rest) = settings rest

-- the `always` blocks [9.9.2]
abbrev pub blocks : List MemberTree → List ActionTrees
blocks [] = []
blocks (Always edge actions ∷ rest) = actions ∷ blocks rest
blocks (_ ∷ rest) = blocks rest

-- ---- what a name stands for

-- what has a value of one word: the regs, the inputs after the clock, and the wires
abbrev pub scalars : ModuleTree → List Item
scalars m = regs m.members ++ (m.inputs ++ map (λ net. net.item) (nets m.members))

-- the place of a name among declarations, or their number
abbrev pub item_place : List Item → List ℕ → ℕ
item_place items name = position_or_len (λ item. bytes_eq item.name name) items

abbrev pub array_place : List ArrayItem → List ℕ → ℕ
array_place items name = position_or_len (λ array. bytes_eq array.name name) items

abbrev pub widths_of : ModuleTree → Widths
widths_of m = record {
  wide = λ name. slice_index (map (λ item. item.width) (scalars m)) (item_place (scalars m) name);
  cell = λ name. slice_index (map (λ array. array.width) (arrays m.members)) (array_place (arrays m.members) name);
}

-- what names mean where the scalars have these values, in order, and the arrays have these cells; what is none of them reads as 0
abbrev pub env_of : ModuleTree → (values : List ℕ) → (cells : List (List ℕ)) → Env
env_of m values cells = record {
  widths = widths_of m;
  look = λ name. slice_index values (item_place (scalars m) name);
  read = λ name index. slice_index (slice_index_or cells (array_place (arrays m.members) name) []) index;
}

-- ---- an edge

-- each wire has the value of its expression, which names only what is declared before it [6.1.1]
abbrev pub settled : ModuleTree → (cells : List (List ℕ)) → (values : List ℕ) → List Net → List ℕ
settled m cells values [] = values
settled m cells values (net ∷ rest) = settled m cells (values ++ (assigned (env_of m values cells) net.item.width net.value ∷ [])) rest

-- the meaning of names in an edge: the regs have their present values and the pins those of the edge
abbrev pub edge_env : ModuleTree → State → (pins : List ℕ) → Env
edge_env m old pins = env_of m (settled m old.cells (old.items ++ pins) (nets m.members)) old.cells

-- what is to be written when the blocks are done
pub data Update : Type 0 where
  SetTo : (name : List ℕ) → (value : ℕ) → Update
  PutTo : (name : List ℕ) → (index value : ℕ) → Update

-- all right sides, tests and target indices are taken on one meaning of the names [9.2.2]
abbrev pub updates : Env → ActionTrees → List Update
updates env Done = []
updates env (Set name value rest) = SetTo name (assigned env (env.widths.wide name) value) ∷ updates env rest
updates env (Put name index value rest) = PutTo name (self_value env index) (assigned env (env.widths.cell name) value) ∷ updates env rest
updates env (If test this other rest) = (if is_true (self_value env test) then updates env this else updates env other) ++ updates env rest

abbrev pub updated : ModuleTree → State → Update → State
updated m state (SetTo name value) = record { items = slice_set state.items (item_place (regs m.members) name) value; cells = state.cells }
updated m state (PutTo name index value) = record { items = state.items; cells = set_cell state.cells (array_place (arrays m.members) name) index value }

-- an edge takes all updates on the old state and the edge's pins, and then makes them in order, so that of several to one target
-- the last wins [9.2.2]
abbrev pub v_edge : ModuleTree → State → (pins : List ℕ) → State
v_edge m old pins = fold (updated m) old (flat_map (updates (edge_env m old pins)) (blocks m.members))

-- ---- the state after a list of pin values, an entry for each edge

-- each first value is cut to its reg's width
abbrev pub first_set : ModuleTree → List ℕ → SettingTree → List ℕ
first_set m items setting = slice_set items (item_place (regs m.members) setting.name) (setting.value % 2 ^ (widths_of m).wide setting.name)

-- the first values are given in order, to regs that are 0 [9.9.1]
abbrev pub first_items : ModuleTree → List ℕ
first_items m = fold (first_set m) (map (λ item. 0) (regs m.members)) (settings m.members)

-- the first rising edge comes after the first values; arrays are loaded from the image
abbrev pub v_first : ModuleTree → (image : List Memory) → State
v_first m image = record { items = first_items m; cells = first_cells (arrays m.members) image }

abbrev pub v_state : ModuleTree → (image : List Memory) → (entries : List (List ℕ)) → State
v_state m image entries = fold (v_edge m) (v_first m image) entries
