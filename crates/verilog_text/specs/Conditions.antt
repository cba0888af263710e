-- What may be broken in a module that tokens spell, and where it is broken first, in the order of the tokens.
use Rattle.std.specs.Prelude.{◌≡◌, ◌≢◌, ℕ, suc, ◌+◌, ◌-◌, ◌^◌, ◌<◌, ◌≤◌, Bool, true, false, min, List, [], ◌∷◌, ◌++◌, length, map, flat_map, sum_by, codes, find, option_map, All, Contains, Option, Some, None, not, nat_le, nat_lt, ◌&&◌, ◌⊎◌, slice_index_or}
use Rattle.std.specs.Str.{bytes_eq}
use Rattle.std.specs.Option.{option_map_or}
use Rattle.lisa_engine.specs.Images.{IsDepth}
use Rattle.lisa_engine.specs.declared.parts.Item.{Item}
use Rattle.lisa_engine.specs.declared.parts.ArrayItem.{ArrayItem}
use Rattle.verilog_text.specs.Trees as trees
use Rattle.verilog_text.specs.Trees.{VTree, VTrees, ActionTrees, SettingTree, MemberTree, ModuleTree}
use Rattle.verilog_text.specs.Values.{v_width}
use Rattle.verilog_text.specs.Clocked.{regs, arrays, settings, blocks, widths_of}

-- the first of a list of which a fact holds
pub record IsFirst {A : Type 0} (P : A → Type 0) (all : List A) (x : A) : Type 0 where
  pub front : List A
  pub rest : List A
  pub parts : all ≡ front ++ x ∷ rest
  pub here : P x
  pub before : All (λ y. ¬ P y) front

-- ---- declarations, in order

pub data Sort : Type 0 where
  Clock : Sort
  Input : (width : ℕ) → Sort
  Register : (width : ℕ) → Sort
  Store : (width depth : ℕ) → Sort
  Net : (width : ℕ) → Sort

pub record Declared : Type 0 where
  pub name : List ℕ
  pub sort : Sort

abbrev pub member_declares : MemberTree → List Declared
member_declares (trees.Reg item) = record { name = item.name; sort = Register item.width } ∷ []
member_declares (trees.Array array) = record { name = array.name; sort = Store array.width array.depth } ∷ []
member_declares (trees.Wire item value) = record { name = item.name; sort = Net item.width } ∷ []
member_declares _ = []

-- the clock and the other inputs
abbrev pub head_declares : ModuleTree → List Declared
head_declares m = record { name = m.clock; sort = Clock } ∷ map (λ item. record { name = item.name; sort = Input item.width }) m.inputs

abbrev pub declares : ModuleTree → List Declared
declares m = head_declares m ++ flat_map member_declares m.members

abbrev pub names_of : List Declared → List (List ℕ)
names_of all = map (λ d. d.name) all

abbrev pub sort_of : ModuleTree → List ℕ → Option Sort
sort_of m name = option_map (λ d. d.sort) (find (λ d. bytes_eq d.name name) (declares m))

-- each of the names with those before it
abbrev pub with_earlier : (earlier names : List (List ℕ)) → List (List (List ℕ) × List ℕ)
with_earlier earlier [] = []
with_earlier earlier (name ∷ rest) = (earlier, name) ∷ with_earlier (earlier ++ name ∷ []) rest

-- ---- uses of names, in order

pub data Use : Type 0 where
  -- a name alone in an expression
  Read : List ℕ → Use
  -- the bits of a name
  Select : List ℕ → (high low : ℕ) → Use
  -- the cell of a name, read or assigned
  Index : List ℕ → Use
  -- a name that is assigned without an index
  Assign : List ℕ → Use
  -- a name that is given a first value
  Start : List ℕ → Use
  -- the name behind `posedge`
  Edge : List ℕ → Use

abbrev pub used_name : Use → List ℕ
used_name (Read name) = name
used_name (Select name high low) = name
used_name (Index name) = name
used_name (Assign name) = name
used_name (Start name) = name
used_name (Edge name) = name

abbrev mutual
  pub expr_uses : VTree → List Use
  expr_uses (trees.Number width value) = []
  expr_uses (trees.Named name) = Read name ∷ []
  expr_uses (trees.Bits name high low) = Select name high low ∷ []
  expr_uses (trees.Cell name index) = Index name ∷ expr_uses index
  expr_uses (trees.One o a) = expr_uses a
  expr_uses (trees.Two o a b) = expr_uses a ++ expr_uses b
  expr_uses (trees.Choose test this other) = expr_uses test ++ (expr_uses this ++ expr_uses other)
  expr_uses (trees.Join parts) = parts_uses parts
  expr_uses (trees.Repeat times a) = expr_uses a

  pub parts_uses : VTrees → List Use
  parts_uses trees.End = []
  parts_uses (trees.Then e rest) = expr_uses e ++ parts_uses rest

abbrev pub action_uses : ActionTrees → List Use
action_uses trees.Done = []
action_uses (trees.Set name value rest) = Assign name ∷ (expr_uses value ++ action_uses rest)
action_uses (trees.Put name index value rest) = Index name ∷ (expr_uses index ++ (expr_uses value ++ action_uses rest))
action_uses (trees.If test this other rest) = expr_uses test ++ (action_uses this ++ (action_uses other ++ action_uses rest))

abbrev pub member_uses : MemberTree → List Use
member_uses (trees.Wire item value) = expr_uses value
member_uses (trees.Initial all) = map (λ s. Start s.name) all
member_uses (trees.Always edge actions) = Edge edge ∷ action_uses actions
member_uses _ = []

-- each use with the names that are declared before it
abbrev pub uses_in : (declared : List (List ℕ)) → List MemberTree → List (List (List ℕ) × Use)
uses_in declared [] = []
uses_in declared (member ∷ rest) = map (λ u. (declared, u)) (member_uses member) ++ uses_in (declared ++ names_of (member_declares member)) rest

abbrev pub uses : ModuleTree → List (List (List ℕ) × Use)
uses m = uses_in (names_of (head_declares m)) m.members

-- a select of a width: its ends aren't reversed, and lie inside
abbrev pub is_select : (width high low : ℕ) → Bool
is_select width high low = nat_le low high && nat_lt high width

-- the name is declared as something that can't be used so
abbrev pub is_wrong : Option Sort → Use → Bool
is_wrong (Some Clock) (Edge name) = false
is_wrong (Some Clock) u = true
is_wrong (Some sort) (Edge name) = true
is_wrong (Some (Store width depth)) (Index name) = false
is_wrong (Some (Store width depth)) (Start name) = false
is_wrong (Some (Store width depth)) u = true
is_wrong (Some sort) (Index name) = true
is_wrong (Some (Register width)) (Assign name) = false
is_wrong (Some sort) (Assign name) = true
is_wrong (Some (Input width)) (Select name high low) = not (is_select width high low)
is_wrong (Some (Register width)) (Select name high low) = not (is_select width high low)
is_wrong (Some (Net width)) (Select name high low) = not (is_select width high low)
is_wrong sort u = false

-- ---- first values

-- a `reg` is declared, or a name is given a first value where earlier ones were given to these names
pub data FirstEvent : Type 0 where
  Declares : List ℕ → FirstEvent
  Gives : (earlier : List (List ℕ)) → List ℕ → FirstEvent

abbrev pub event_name : FirstEvent → List ℕ
event_name (Declares name) = name
event_name (Gives earlier name) = name

abbrev pub given : (earlier : List (List ℕ)) → List SettingTree → List FirstEvent
given earlier [] = []
given earlier (s ∷ rest) = Gives earlier s.name ∷ given (earlier ++ s.name ∷ []) rest

abbrev pub events_in : (earlier : List (List ℕ)) → List MemberTree → List FirstEvent
events_in earlier [] = []
events_in earlier (trees.Reg item ∷ rest) = Declares item.name ∷ events_in earlier rest
events_in earlier (trees.Initial all ∷ rest) = given earlier all ++ events_in (earlier ++ map (λ s. s.name) all) rest
events_in earlier (_ ∷ rest) = events_in earlier rest

-- a `reg` without a first value, one that is given to no `reg`, or a second one
abbrev pub IsNoFirst : ModuleTree → FirstEvent → Type 0
IsNoFirst m (Declares name) = ¬ Contains (map (λ s. s.name) (settings m.members)) name
IsNoFirst m (Gives earlier name) = (¬ Contains (map (λ item. item.name) (regs m.members)) name) ⊎ Contains earlier name

-- ---- indexes, in order of their names

abbrev mutual
  pub expr_indexes : VTree → List (List ℕ × VTree)
  expr_indexes (trees.Cell name index) = (name, index) ∷ expr_indexes index
  expr_indexes (trees.One o a) = expr_indexes a
  expr_indexes (trees.Two o a b) = expr_indexes a ++ expr_indexes b
  expr_indexes (trees.Choose test this other) = expr_indexes test ++ (expr_indexes this ++ expr_indexes other)
  expr_indexes (trees.Join parts) = parts_indexes parts
  expr_indexes (trees.Repeat times a) = expr_indexes a
  expr_indexes _ = []

  pub parts_indexes : VTrees → List (List ℕ × VTree)
  parts_indexes trees.End = []
  parts_indexes (trees.Then e rest) = expr_indexes e ++ parts_indexes rest

abbrev pub action_indexes : ActionTrees → List (List ℕ × VTree)
action_indexes trees.Done = []
action_indexes (trees.Set name value rest) = expr_indexes value ++ action_indexes rest
action_indexes (trees.Put name index value rest) = (name, index) ∷ (expr_indexes index ++ (expr_indexes value ++ action_indexes rest))
action_indexes (trees.If test this other rest) = expr_indexes test ++ (action_indexes this ++ (action_indexes other ++ action_indexes rest))

abbrev pub member_indexes : MemberTree → List (List ℕ × VTree)
member_indexes (trees.Wire item value) = expr_indexes value
member_indexes (trees.Always edge actions) = action_indexes actions
member_indexes _ = []

-- the array's depth is 2 ^ needed, and the index has another length
abbrev pub NeedsWidth : ModuleTree → List ℕ × VTree → (needed : ℕ) → Type 0
NeedsWidth m (name, index) needed = (width : ℕ) × (sort_of m name ≡ Some (Store width (2 ^ needed))) × (v_width (widths_of m) index ≢ needed)

-- ---- assignments in `always` blocks

abbrev pub targets : ActionTrees → List (List ℕ)
targets trees.Done = []
targets (trees.Set name value rest) = name ∷ targets rest
targets (trees.Put name index value rest) = name ∷ targets rest
targets (trees.If test this other rest) = targets this ++ (targets other ++ targets rest)

-- each assigned name with those that earlier blocks assign
abbrev pub driven : (earlier : List (List ℕ)) → List ActionTrees → List (List (List ℕ) × List ℕ)
driven earlier [] = []
driven earlier (block ∷ rest) = map (λ name. (earlier, name)) (targets block) ++ driven (earlier ++ targets block) rest

-- ---- counts

pub data Counted : Type 0 where
  AtMost : (what : List ℕ) → (count limit : ℕ) → Counted
  Depth : (depth : ℕ) → Counted

abbrev pub counted : ModuleTree → List Counted
counted m = AtMost (codes "items") (length (regs m.members)) 8192 ∷ AtMost (codes "arrays") (length (arrays m.members)) 1024
    ∷ AtMost (codes "cells") (sum_by (λ array. array.depth) (arrays m.members)) 4194304 ∷ AtMost (codes "pins") (length m.inputs) 64 ∷ map (λ array. Depth array.depth) (arrays m.members)

abbrev pub IsExcess : Counted → Type 0
IsExcess (AtMost what count limit) = limit < count
IsExcess (Depth depth) = ¬ IsDepth depth

abbrev pub what_of : Counted → List ℕ
what_of (AtMost what count limit) = what
what_of (Depth depth) = codes "depth"

abbrev pub count_of : Counted → ℕ
count_of (AtMost what count limit) = count
count_of (Depth depth) = depth

abbrev pub limit_of : Counted → ℕ
limit_of (AtMost what count limit) = limit
limit_of (Depth depth) = 1048576

-- ---- the conditions by their numbers

-- 4: this name is declared a second time, the first such one
abbrev pub IsDuplicate : ModuleTree → List ℕ → Type 0
IsDuplicate m name = (earlier : List (List ℕ)) × IsFirst (λ (p : List (List ℕ) × List ℕ). Contains p.0 p.1) (with_earlier [] (names_of (declares m))) (earlier, name)

-- 5: this name is used where no earlier declaration has it
abbrev pub IsUndeclared : ModuleTree → List ℕ → Type 0
IsUndeclared m name = (p : List (List ℕ) × Use) × IsFirst (λ (q : List (List ℕ) × Use). ¬ Contains q.0 (used_name q.1)) (uses m) p × (used_name p.1 ≡ name)

-- 6: this name is used against its declaration
abbrev pub IsWrongUse : ModuleTree → List ℕ → Type 0
IsWrongUse m name = (p : List (List ℕ) × Use) × IsFirst (λ (q : List (List ℕ) × Use). is_wrong (sort_of m (used_name q.1)) q.1 ≡ true) (uses m) p × (used_name p.1 ≡ name)

-- 7: this `reg` has no first value, or this name is given a wrong one
abbrev pub IsUnset : ModuleTree → List ℕ → Type 0
IsUnset m name = (e : FirstEvent) × IsFirst (IsNoFirst m) (events_in [] m.members) e × (event_name e ≡ name)

-- 8: this array has an index of a wrong length
abbrev pub IsMisindexed : ModuleTree → (name : List ℕ) → (width needed : ℕ) → Type 0
IsMisindexed m name width needed = (index : VTree) × IsFirst (λ (p : List ℕ × VTree). (k : ℕ) × NeedsWidth m p k) (flat_map member_indexes m.members) (name, index)
    × NeedsWidth m (name, index) needed × (width ≡ min (v_width (widths_of m) index) (2 ^ 32 - 1))

-- 10: this `reg` is assigned in a second block
abbrev pub IsDrivenTwice : ModuleTree → List ℕ → Type 0
IsDrivenTwice m name = (earlier : List (List ℕ)) × IsFirst (λ (p : List (List ℕ) × List ℕ). Contains p.0 p.1) (driven [] (blocks m.members)) (earlier, name)

-- 11: this is counted beyond its limit, or is no depth
abbrev pub IsTooMany : ModuleTree → (what : List ℕ) → (count limit : ℕ) → Type 0
IsTooMany m what count limit = (c : Counted) × IsFirst IsExcess (counted m) c × (what_of c ≡ what) × (count_of c ≡ count) × (limit_of c ≡ limit)
