-- Which tokens spell which expression, action and module: the grammar of the subset, rule by rule, on whole lists of tokens.
use Rattle.std.specs.Prelude.{◌≡◌, ℕ, suc, ◌≤◌, Bool, true, false, List, [], ◌∷◌, ◌++◌, flat_map, ◌⊎◌}
use Rattle.lisa_engine.specs.declared.parts.Item.{Item}
use Rattle.lisa_engine.specs.declared.parts.ArrayItem.{ArrayItem}
use Rattle.lisa_words.specs.declared.binary.Operator.{Operator}
use Rattle.lisa_words.specs.declared.binary.Operator.TheVariants as operators
use Rattle.lisa_words.specs.Operators.{level_of}
use Rattle.verilog_text.specs.declared.expressions.VOne.{VOne}
use Rattle.verilog_text.specs.declared.expressions.VOne.TheVariants as ones
use Rattle.verilog_text.specs.declared.tokens.VKeyword.TheVariants as words
use Rattle.verilog_text.specs.declared.tokens.VSign.{VSign}
use Rattle.verilog_text.specs.declared.tokens.VSign.TheVariants as signs
use Rattle.verilog_text.specs.Tokens.{VToks, Named, Reserved, Sized, Plain, Mark}
use Rattle.verilog_text.specs.Trees as trees
use Rattle.verilog_text.specs.Trees.{VTree, VTrees, ActionTrees, SettingTree, MemberTree, ModuleTree, joined}

-- the sign of an operator; how tightly operators bind is as in a description, from level 1 to level 10
abbrev pub vsign_of : Operator → VSign
vsign_of operators.OneTrue = signs.OrOr
vsign_of operators.BothTrue = signs.AndAnd
vsign_of operators.Or = signs.Or
vsign_of operators.Xor = signs.Caret
vsign_of operators.And = signs.And
vsign_of operators.Equal = signs.EqualEqual
vsign_of operators.Unequal = signs.NotEqual
vsign_of operators.Less = signs.Less
vsign_of operators.LessEqual = signs.LessEqual
vsign_of operators.Greater = signs.Greater
vsign_of operators.GreaterEqual = signs.GreaterEqual
vsign_of operators.Left = signs.ShiftLeft
vsign_of operators.Right = signs.ShiftRight
vsign_of operators.Add = signs.Plus
vsign_of operators.Sub = signs.Minus
vsign_of operators.Mul = signs.Star

abbrev pub vone_sign : VOne → VSign
vone_sign ones.Complement = signs.Tilde
vone_sign ones.Negate = signs.Exclamation

mutual
  -- A list of tokens spells an expression at a level: level 0 is a whole expression, 1 to 10 are those of the operators, 11 is a
  -- unary expression, and 12 a primary one.
  pub data SpellsVExpr : ℕ → VToks → VTree → Type 0 where
    number : {width value : ℕ} → SpellsVExpr 12 (Sized width value ∷ []) (trees.Number width value)
    named : {name : List ℕ} → SpellsVExpr 12 (Named name ∷ []) (trees.Named name)
    -- one bit
    bit : {name : List ℕ} {place digits : ℕ} → SpellsVExpr 12 (Named name ∷ Mark signs.OpenSquare ∷ Plain place digits ∷ Mark signs.CloseSquare ∷ []) (trees.Bits name place place)
    part : {name : List ℕ} {high low digits more : ℕ}
        → SpellsVExpr 12 (Named name ∷ Mark signs.OpenSquare ∷ Plain high digits ∷ Mark signs.Colon ∷ Plain low more ∷ Mark signs.CloseSquare ∷ []) (trees.Bits name high low)
    cell : {name : List ℕ} {ts xs : VToks} {index : VTree} → SpellsVExpr 0 xs index
        → ts ≡ Named name ∷ Mark signs.OpenSquare ∷ (xs ++ Mark signs.CloseSquare ∷ []) → SpellsVExpr 12 ts (trees.Cell name index)
    join : {ts xs : VToks} {all : VTrees} → SpellsVParts xs all → ts ≡ Mark signs.OpenBrace ∷ (xs ++ Mark signs.CloseBrace ∷ []) → SpellsVExpr 12 ts (trees.Join all)
    repeat : {times digits : ℕ} {ts xs : VToks} {a : VTree} → 1 ≤ times → SpellsVExpr 0 xs a
        → ts ≡ Mark signs.OpenBrace ∷ Plain times digits ∷ Mark signs.OpenBrace ∷ (xs ++ Mark signs.CloseBrace ∷ Mark signs.CloseBrace ∷ []) → SpellsVExpr 12 ts (trees.Repeat times a)
    inside : {ts xs : VToks} {a : VTree} → SpellsVExpr 0 xs a → ts ≡ Mark signs.OpenRound ∷ (xs ++ Mark signs.CloseRound ∷ []) → SpellsVExpr 12 ts a
    one : (o : VOne) {xs : VToks} {a : VTree} → SpellsVExpr 12 xs a → SpellsVExpr 11 (Mark (vone_sign o) ∷ xs) (trees.One o a)
    -- operators group to the left
    two : (o : Operator) {level : ℕ} {ts xs ys : VToks} {a b : VTree} → level ≡ level_of o → SpellsVExpr level xs a → SpellsVExpr (suc level) ys b
        → ts ≡ xs ++ (Mark (vsign_of o) ∷ ys) → SpellsVExpr level ts (trees.Two o a b)
    -- `? :` groups to the right
    choose : {ts xs ys zs : VToks} {c a b : VTree} → SpellsVExpr 1 xs c → SpellsVExpr 0 ys a → SpellsVExpr 0 zs b
        → ts ≡ xs ++ (Mark signs.Question ∷ (ys ++ (Mark signs.Colon ∷ zs))) → SpellsVExpr 0 ts (trees.Choose c a b)
    -- what is spelled at a level is spelled at each looser one
    tighter : {level : ℕ} {ts : VToks} {a : VTree} → SpellsVExpr (suc level) ts a → SpellsVExpr level ts a

  -- one or more expressions with commas between them
  pub data SpellsVParts : VToks → VTrees → Type 0 where
    last : {ts : VToks} {a : VTree} → SpellsVExpr 0 ts a → SpellsVParts ts (trees.Then a trees.End)
    more : {ts xs ys : VToks} {a : VTree} {all : VTrees} → SpellsVExpr 0 xs a → SpellsVParts ys all → ts ≡ xs ++ (Mark signs.Comma ∷ ys) → SpellsVParts ts (trees.Then a all)

-- An action spells a list of actions: one, or those between `begin` and `end`. It is closed, or it is open: it ends in an `if` that
-- could still take an `else`. An `else` belongs to the nearest `if` without one, so the action between an `if` and its `else` is closed.
mutual
  pub data SpellsAction : Bool → VToks → ActionTrees → Type 0 where
    block : {ts xs : VToks} {all : ActionTrees} → SpellsActions xs all → ts ≡ Reserved words.Begin ∷ (xs ++ Reserved words.End ∷ []) → SpellsAction true ts all
    set : {name : List ℕ} {ts xs : VToks} {value : VTree} → SpellsVExpr 0 xs value
        → ts ≡ Named name ∷ Mark signs.LessEqual ∷ (xs ++ Mark signs.Semicolon ∷ []) → SpellsAction true ts (trees.Set name value trees.Done)
    put : {name : List ℕ} {ts xs ys : VToks} {index value : VTree} → SpellsVExpr 0 xs index → SpellsVExpr 0 ys value
        → ts ≡ Named name ∷ Mark signs.OpenSquare ∷ (xs ++ (Mark signs.CloseSquare ∷ Mark signs.LessEqual ∷ (ys ++ Mark signs.Semicolon ∷ [])))
        → SpellsAction true ts (trees.Put name index value trees.Done)
    when : {closed : Bool} {ts xs ys : VToks} {test : VTree} {this : ActionTrees} → SpellsVExpr 0 xs test → SpellsAction closed ys this
        → ts ≡ Reserved words.If ∷ Mark signs.OpenRound ∷ (xs ++ (Mark signs.CloseRound ∷ ys)) → SpellsAction false ts (trees.If test this trees.Done trees.Done)
    choose : {closed : Bool} {ts xs ys zs : VToks} {test : VTree} {this other : ActionTrees} → SpellsVExpr 0 xs test → SpellsAction true ys this → SpellsAction closed zs other
        → ts ≡ Reserved words.If ∷ Mark signs.OpenRound ∷ (xs ++ (Mark signs.CloseRound ∷ (ys ++ (Reserved words.Else ∷ zs)))) → SpellsAction closed ts (trees.If test this other trees.Done)

  pub data SpellsActions : VToks → ActionTrees → Type 0 where
    none : SpellsActions [] trees.Done
    some : {closed : Bool} {ts xs ys : VToks} {first rest all : ActionTrees} → SpellsAction closed xs first → SpellsActions ys rest → ts ≡ xs ++ ys → all ≡ joined first rest → SpellsActions ts all

-- the range `[high:0]`, or none, which stands for `[0:0]`: the width
pub data SpellsRange : VToks → ℕ → Type 0 where
  absent : SpellsRange [] 1
  present : {high digits : ℕ} → SpellsRange (Mark signs.OpenSquare ∷ Plain high digits ∷ Mark signs.Colon ∷ Plain 0 1 ∷ Mark signs.CloseSquare ∷ []) (suc high)

-- `wire`, which may be absent
abbrev pub IsOptionalWire : VToks → Type 0
IsOptionalWire ts = (ts ≡ []) ⊎ (ts ≡ Reserved words.Wire ∷ [])

-- the inputs after the clock, each behind a comma
pub data SpellsInputs : VToks → List Item → Type 0 where
  none : SpellsInputs [] []
  some : {ts wire xs ys : VToks} {item : Item} {all : List Item} → IsOptionalWire wire → SpellsRange xs item.width → SpellsInputs ys all
      → ts ≡ Mark signs.Comma ∷ Reserved words.Input ∷ (wire ++ (xs ++ (Named item.name ∷ ys))) → SpellsInputs ts (item ∷ all)

-- `name = number;`
abbrev pub setting_tokens : SettingTree → VToks
setting_tokens s = Named s.name ∷ Mark signs.Equal ∷ Sized s.width s.value ∷ Mark signs.Semicolon ∷ []

pub data SpellsMember : VToks → MemberTree → Type 0 where
  reg : {ts xs : VToks} {item : Item} → SpellsRange xs item.width → ts ≡ Reserved words.Reg ∷ (xs ++ Named item.name ∷ Mark signs.Semicolon ∷ []) → SpellsMember ts (trees.Reg item)
  array : {ts xs : VToks} {array : ArrayItem} (last digits : ℕ) → SpellsRange xs array.width → array.depth ≡ suc last
      → ts ≡ Reserved words.Reg ∷ (xs ++ Named array.name ∷ Mark signs.OpenSquare ∷ Plain 0 1 ∷ Mark signs.Colon ∷ Plain last digits ∷ Mark signs.CloseSquare ∷ Mark signs.Semicolon ∷ [])
      → SpellsMember ts (trees.Array array)
  wire : {ts xs ys : VToks} {item : Item} {value : VTree} → SpellsRange xs item.width → SpellsVExpr 0 ys value
      → ts ≡ Reserved words.Wire ∷ (xs ++ (Named item.name ∷ Mark signs.Equal ∷ (ys ++ Mark signs.Semicolon ∷ []))) → SpellsMember ts (trees.Wire item value)
  first : {setting : SettingTree} → SpellsMember (Reserved words.Initial ∷ setting_tokens setting) (trees.Initial (setting ∷ []))
  initial : {ts : VToks} {all : List SettingTree} → ts ≡ Reserved words.Initial ∷ Reserved words.Begin ∷ (flat_map setting_tokens all ++ Reserved words.End ∷ []) → SpellsMember ts (trees.Initial all)
  always : {closed : Bool} {ts xs : VToks} {clock : List ℕ} {actions : ActionTrees} → SpellsAction closed xs actions
      → ts ≡ Reserved words.Always ∷ Mark signs.At ∷ Mark signs.OpenRound ∷ Reserved words.PosEdge ∷ Named clock ∷ Mark signs.CloseRound ∷ xs → SpellsMember ts (trees.Always clock actions)

pub data SpellsMembers : VToks → List MemberTree → Type 0 where
  none : SpellsMembers [] []
  some : {ts xs ys : VToks} {member : MemberTree} {all : List MemberTree} → SpellsMember xs member → SpellsMembers ys all → ts ≡ xs ++ ys → SpellsMembers ts (member ∷ all)

-- the tokens spell the module
pub record SpellsModule (ts : VToks) (m : ModuleTree) : Type 0 where
  pub wire : VToks
  pub is_wire : IsOptionalWire wire
  pub input_part : VToks
  pub spells_inputs : SpellsInputs input_part m.inputs
  pub member_part : VToks
  pub spells_members : SpellsMembers member_part m.members
  pub whole : ts ≡ Reserved words.Module ∷ Named m.name ∷ Mark signs.OpenRound ∷ Reserved words.Input ∷ (wire ++ (Named m.clock ∷ (input_part
      ++ (Mark signs.CloseRound ∷ Mark signs.Semicolon ∷ (member_part ++ Reserved words.EndModule ∷ [])))))
