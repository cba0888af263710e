-- From a step program to a module: each step is taken on flat operands, and what is computed goes into wires of one operator each.
-- Two equal keys are one wire, where the table finds the first.
use Rattle.std.specs.Prelude.{ℕ, suc, ◌-◌, ◌%◌, ◌^◌, List, [], ◌∷◌, ◌++◌, map, length, codes, nat_eq, nat_le, slice_index_or, slice_set, Bool, true, false, ◌&&◌, Option, Some, None}
use Rattle.std.specs.Fmt.{decimal}
use Rattle.lisa_engine.specs.declared.parts.Item.{Item}
use Rattle.lisa_engine.specs.declared.parts.ArrayItem.{ArrayItem}
use Rattle.lisa_words.specs.declared.binary.Operator.{Operator}
use Rattle.lisa_words.specs.declared.binary.Operator.TheVariants as operators
use Rattle.verilog_text.specs.declared.expressions.VOne.TheVariants as ones
use Rattle.verilog_text.specs.Trees as trees
use Rattle.verilog_text.specs.Trees.{VTree, Then, End, ActionTrees, SettingTree, MemberTree, ModuleTree}
use Rattle.step_program.specs.declared.expressions.OneOp.{OneOp}
use Rattle.step_program.specs.declared.expressions.OneOp.TheVariants.{Not, Cut, Widen}
use Rattle.step_program.specs.declared.expressions.TwoOp.{TwoOp}
use Rattle.step_program.specs.declared.expressions.TwoOp.TheVariants as ops
use Rattle.step_program.specs.Programs.{Expr, Const, Now, Before, Pin, Temp, Cell, One, Two, Choose, Aim, ToItem, ToTemp, ToCell, Move, Program}
use Rattle.step_program.specs.Effects.{array_width, width}
use Rattle.netlist_wires.specs.declared.keys.Flat.{Flat}
use Rattle.netlist_wires.specs.declared.keys.Flat.TheVariants.{Fixed, OfItem, OfPin, OfWire}
use Rattle.netlist_wires.specs.declared.keys.Body.{Body}
use Rattle.netlist_wires.specs.declared.keys.Body.TheVariants.{Copied, Lowest, Padded, Inverse, Load, Operate, Select}
use Rattle.netlist_wires.specs.declared.keys.Key.{Key}
use Rattle.netlist_wires.specs.declared.keys.Write.{Write}

-- ---- names

abbrev pub item_name : Program → ℕ → List ℕ
item_name p place = slice_index_or (map (λ item. item.name) p.items) place []

abbrev pub pin_name : Program → ℕ → List ℕ
pin_name p place = slice_index_or (map (λ pin. pin.name) p.pins) place []

abbrev pub array_name : Program → ℕ → List ℕ
array_name p place = slice_index_or (map (λ array. array.name) p.arrays) place []

abbrev pub wire_name : ℕ → List ℕ
wire_name wire = codes "wire." ++ decimal wire

-- ---- expressions of a wire

abbrev pub operator_of : TwoOp → Operator
operator_of ops.Add = operators.Add
operator_of ops.Sub = operators.Sub
operator_of ops.Mul = operators.Mul
operator_of ops.And = operators.And
operator_of ops.Or = operators.Or
operator_of ops.Xor = operators.Xor
operator_of ops.Shl = operators.Left
operator_of ops.Shr = operators.Right
operator_of ops.Equal = operators.Equal
operator_of ops.Less = operators.Less

abbrev pub named : Program → Flat → VTree
named p (Fixed w v) = trees.Number w v
named p (OfItem item) = trees.Named (item_name p item)
named p (OfPin pin) = trees.Named (pin_name p pin)
named p (OfWire wire) = trees.Named (wire_name wire)

-- the bits of an operand from one down; a number stands for itself
abbrev pub lowest : Program → (high : ℕ) → Flat → VTree
lowest p high (Fixed w v) = trees.Number w v
lowest p high (OfItem item) = trees.Bits (item_name p item) high 0
lowest p high (OfPin pin) = trees.Bits (pin_name p pin) high 0
lowest p high (OfWire wire) = trees.Bits (wire_name wire) high 0

-- an operand behind so many zeros
abbrev pub padded : Program → (zeros : ℕ) → Flat → VTree
padded p zeros f = trees.Join (Then (trees.Number zeros 0) (Then (named p f) End))

abbrev pub body_tree : Program → Body → VTree
body_tree p (Copied f) = named p f
body_tree p (Lowest high f) = lowest p high f
body_tree p (Padded zeros f) = padded p zeros f
body_tree p (Inverse f) = trees.One ones.Complement (named p f)
body_tree p (Load array f) = trees.Cell (array_name p array) (named p f)
body_tree p (Operate op f g) = trees.Two (operator_of op) (named p f) (named p g)
body_tree p (Select c f g) = trees.Choose (named p c) (named p f) (named p g)

-- ---- wires

-- a flat operand, and the keys of all wires so far, in order
pub record Made : Type 0 where
  pub flat : Flat
  pub keys : List Key

-- a table of keys: where a key is among others
abbrev pub Find : Type 0
Find = List Key → Key → Option ℕ

abbrev pub shared : Option ℕ → Key → List Key → Made
shared (Some wire) key keys = record { flat = OfWire wire; keys = keys }
shared None key keys = record { flat = OfWire (length keys); keys = keys ++ (key ∷ []) }

-- the wire of a key, a new one only where none is found
unfoldable pub share : Find → ℕ → Body → List Key → Made
share find w body keys =
    let key : Key = record { width = w; body = body } in shared (find keys key) key keys

-- the cell that was read, behind one more write: the written value where the write is of this cell and its guard isn't 0
abbrev pub behind : Find → ℕ → (same : Bool) → Write → (index : Flat) → Made → Made
behind find w false write x found = found
behind find w true write x found =
    let e = share find 1 (Operate ops.Equal write.index x) found.keys in
    let c = share find w (Select write.guard write.value found.flat) e.keys in
    share find w (Select e.flat c.flat found.flat) c.keys

-- the cell of an array behind the writes, the newest first
abbrev pub load : Find → Program → (array : ℕ) → List Write → (index : Flat) → List Key → Made
load find p array [] x keys = share find (array_width p array) (Load array x) keys
load find p array (write ∷ writes) x keys = behind find (array_width p array) (nat_eq write.array array) write x (load find p array writes x keys)

-- what the items and temps are now, and the writes so far, the newest first
pub record Sym : Type 0 where
  pub items : List Flat
  pub temps : List Flat
  pub writes : List Write

abbrev pub nothing : Flat
nothing = Fixed 0 0

-- an operand at another width, or at the same: one that keeps its width is itself, a number is cut or extended at once, and of another
-- one is made what is told
abbrev pub refit : Find → (same : Bool) → (to : ℕ) → Body → Flat → List Key → Made
refit find true to body f keys = record { flat = f; keys = keys }
refit find false to body (Fixed w v) keys = record { flat = Fixed to (v % 2 ^ to); keys = keys }
refit find false to body (OfItem item) keys = share find to body keys
refit find false to body (OfPin pin) keys = share find to body keys
refit find false to body (OfWire wire) keys = share find to body keys

-- what an operator makes of an operand of a width
abbrev pub changed : Find → OneOp → (w : ℕ) → Flat → List Key → Made
changed find Not w f keys = share find w (Inverse f) keys
changed find (Cut narrow) w f keys = refit find (nat_eq narrow w) narrow (Lowest (narrow - 1) f) f keys
changed find (Widen wide) w f keys = refit find (nat_eq wide w) wide (Padded (wide - w) f) f keys

-- a number or a wire, and no name that stands for something else
abbrev pub settled : Find → ℕ → Flat → List Key → Made
settled find w (Fixed v b) keys = record { flat = Fixed v b; keys = keys }
settled find w (OfItem item) keys = share find w (Copied (OfItem item)) keys
settled find w (OfPin pin) keys = share find w (Copied (OfPin pin)) keys
settled find w (OfWire wire) keys = record { flat = OfWire wire; keys = keys }

abbrev pub is_zero : Flat → Bool
is_zero (Fixed w v) = nat_eq v 0
is_zero (OfItem item) = false
is_zero (OfPin pin) = false
is_zero (OfWire wire) = false

-- whether an operator leaves its right operand as it is behind 0, and its left operand before 0
abbrev pub keeps_right : TwoOp → Bool
keeps_right ops.Add = true
keeps_right ops.Or = true
keeps_right ops.Xor = true
keeps_right _ = false

abbrev pub keeps_left : TwoOp → Bool
keeps_left ops.Add = true
keeps_left ops.Sub = true
keeps_left ops.Or = true
keeps_left ops.Xor = true
keeps_left ops.Shl = true
keeps_left ops.Shr = true
keeps_left _ = false

-- what an operator makes of two operands: one of them, where it is told that this is kept
abbrev pub combined_by : Find → TwoOp → (w : ℕ) → (right left : Bool) → (f g : Flat) → List Key → Made
combined_by find op w true left f g keys = settled find w g keys
combined_by find op w false true f g keys = settled find w f keys
combined_by find op w false false f g keys = share find w (Operate op f g) keys

-- whether an operand is a number that is no smaller than a width
abbrev pub reaches : (w : ℕ) → Flat → Bool
reaches w (Fixed v b) = nat_le w b
reaches w (OfItem item) = false
reaches w (OfPin pin) = false
reaches w (OfWire wire) = false

-- whether an operator of a width shifts each bit of its left operand out
abbrev pub shifts_out : TwoOp → (w : ℕ) → Flat → Bool
shifts_out ops.Shl w g = reaches w g
shifts_out ops.Shr w g = reaches w g
shifts_out _ w g = false

-- the number 0, where it is told that each bit is shifted out
abbrev pub combined_unless : Find → TwoOp → (w : ℕ) → (out : Bool) → (f g : Flat) → List Key → Made
combined_unless find op w true f g keys = record { flat = Fixed w 0; keys = keys }
combined_unless find op w false f g keys = combined_by find op w (keeps_right op && is_zero f) (keeps_left op && is_zero g) f g keys

abbrev pub combined : Find → TwoOp → (w : ℕ) → (f g : Flat) → List Key → Made
combined find op w f g keys = combined_unless find op w (shifts_out op w g) f g keys

-- the operand that an expression is
abbrev pub lower : Find → Program → Sym → Expr → List Key → Made
lower find p s (Const w v) keys = record { flat = Fixed w v; keys = keys }
lower find p s (Now item) keys = record { flat = slice_index_or s.items item nothing; keys = keys }
lower find p s (Before item) keys = record { flat = OfItem item; keys = keys }
lower find p s (Pin pin) keys = record { flat = OfPin pin; keys = keys }
lower find p s (Temp temp) keys = record { flat = slice_index_or s.temps temp nothing; keys = keys }
lower find p s (Cell array index) keys =
    let x = lower find p s index keys in load find p array s.writes x.flat x.keys
lower find p s (One one a) keys =
    let x = lower find p s a keys in changed find one (width p a) x.flat x.keys
lower find p s (Two op a b) keys =
    let x = lower find p s a keys in
    let y = lower find p s b x.keys in
    combined find op (width p (Two op a b)) x.flat y.flat y.keys
lower find p s (Choose test this other) keys =
    let c = lower find p s test keys in
    let x = lower find p s this c.keys in
    let y = lower find p s other x.keys in
    share find (width p this) (Select c.flat x.flat y.flat) y.keys

-- ---- steps

-- what a target holds under a guard that is a number, which is 0 or isn't
abbrev pub given_once : Find → ℕ → (zero : Bool) → (value old : Flat) → List Key → Made
given_once find w true value old keys = record { flat = old; keys = keys }
given_once find w false value old keys = settled find w value keys

-- what a target of a width holds once it is given a value where the guard isn't 0
abbrev pub given : Find → ℕ → (guard value old : Flat) → List Key → Made
given find w (Fixed v g) value old keys = given_once find w (nat_eq g 0) value old keys
given find w (OfItem item) value old keys = share find w (Select (OfItem item) value old) keys
given find w (OfPin pin) value old keys = share find w (Select (OfPin pin) value old) keys
given find w (OfWire wire) value old keys = share find w (Select (OfWire wire) value old) keys

pub record Going : Type 0 where
  pub sym : Sym
  pub keys : List Key

-- a target takes a value of a width where the guard isn't 0
abbrev pub aimed : Find → Program → Sym → Aim → (w : ℕ) → (guard value : Flat) → List Key → Going
aimed find p s (ToItem item) w g v keys =
    let c = given find w g v (slice_index_or s.items item nothing) keys in
    record { sym = record { items = slice_set s.items item c.flat; temps = s.temps; writes = s.writes }; keys = c.keys }
aimed find p s (ToTemp temp) w g v keys =
    let c = given find w g v (slice_index_or s.temps temp nothing) keys in
    record { sym = record { items = s.items; temps = slice_set s.temps temp c.flat; writes = s.writes }; keys = c.keys }
aimed find p s (ToCell array index) w g v keys =
    let x = lower find p s index keys in
    record { sym = record { items = s.items; temps = s.temps; writes = record { array = array; guard = g; index = x.flat; value = v } ∷ s.writes }; keys = x.keys }

abbrev pub gone : Find → Program → Going → Move → Going
gone find p go move =
    let g = lower find p go.sym move.guard go.keys in
    let v = lower find p go.sym move.value g.keys in
    aimed find p go.sym move.aim (width p move.value) g.flat v.flat v.keys

abbrev pub gone_all : Find → Program → Going → List Move → Going
gone_all find p go [] = go
gone_all find p go (move ∷ moves) = gone_all find p (gone find p go move) moves

-- each item is its own as an edge begins
abbrev pub own_items : (from : ℕ) → List Item → List Flat
own_items from [] = []
own_items from (item ∷ items) = OfItem from ∷ own_items (suc from) items

abbrev pub begun_going : Program → Going
begun_going p = record {
  sym = record { items = own_items 0 p.items; temps = map (λ w. Fixed w 0) p.temps; writes = [] };
  keys = [];
}

-- ---- the module

abbrev pub wires_from : Program → (wire : ℕ) → List Key → List MemberTree
wires_from p wire [] = []
wires_from p wire (key ∷ keys) = trees.Wire (record { name = wire_name wire; width = key.width }) (body_tree p key.body) ∷ wires_from p (suc wire) keys

-- every item takes what it is now
abbrev pub set_items : Program → (from : ℕ) → List Flat → ActionTrees → ActionTrees
set_items p from [] rest = rest
set_items p from (f ∷ fs) rest = trees.Set (item_name p from) (named p f) (set_items p (suc from) fs rest)

abbrev pub put_cell : Program → Write → ActionTrees → ActionTrees
put_cell p write rest = trees.If (named p write.guard) (trees.Put (array_name p write.array) (named p write.index) (named p write.value) trees.Done) trees.Done rest

-- the writes, the oldest first
abbrev pub put_cells : Program → List Write → ActionTrees → ActionTrees
put_cells p [] rest = rest
put_cells p (write ∷ writes) rest = put_cells p writes (put_cell p write rest)

abbrev pub actions : Program → Sym → ActionTrees
actions p s = set_items p 0 s.items (put_cells p s.writes trees.Done)

abbrev pub first_settings : List Item → List ℕ → List SettingTree
first_settings (item ∷ items) (v ∷ first) = record { name = item.name; width = item.width; value = v } ∷ first_settings items first
first_settings _ _ = []

abbrev pub clock_name : List ℕ
clock_name = codes "edge.clock"

abbrev pub reg_members : List Item → List MemberTree
reg_members items = map trees.Reg items

abbrev pub array_members : List ArrayItem → List MemberTree
array_members arrays = map trees.Array arrays

-- the members where the steps have come so far
abbrev pub members_at : Program → Going → List MemberTree
members_at p end =
    reg_members p.items ++ (array_members p.arrays ++ (trees.Initial (first_settings p.items p.first) ∷ (wires_from p 0 end.keys ++ (trees.Always clock_name (actions p end.sym) ∷ []))))

abbrev pub ended : Find → Program → Going
ended find p = gone_all find p (begun_going p) p.moves

abbrev pub module_at : Program → Going → ModuleTree
module_at p end = record { name = codes "machine"; clock = clock_name; inputs = p.pins; members = members_at p end }

-- the module of a program
abbrev pub built : Find → Program → ModuleTree
built find p = module_at p (ended find p)
