-- Which tokens with their places spell which module with places: the grammar of the subset, rule by rule.
use Rattle.std.specs.Prelude.{◌≡◌, ℕ, suc, ◌≤◌, Bool, true, false, List, [], ◌∷◌, ◌++◌, map}
use Rattle.lisa_engine.specs.declared.parts.Item.{Item}
use Rattle.lisa_engine.specs.declared.parts.ArrayItem.{ArrayItem}
use Rattle.lisa_words.specs.declared.binary.Operator.{Operator}
use Rattle.lisa_words.specs.Operators.{level_of}
use Rattle.verilog_text.specs.declared.expressions.VOne.{VOne}
use Rattle.verilog_text.specs.declared.tokens.VKeyword.TheVariants as words
use Rattle.verilog_text.specs.declared.tokens.VSign.TheVariants as signs
use Rattle.verilog_text.specs.Tokens.{VTok, VToks, Named, Reserved, Sized, Plain, Mark}
use Rattle.verilog_text.specs.Grammar.{vsign_of, vone_sign, IsOptionalWire}
use Rattle.verilog_text.specs.Trees.{SettingTree}
use Rattle.verilog_places.specs.declared.modules.PlacedInput.{PlacedInput}
use Rattle.verilog_places.specs.Trees as trees
use Rattle.verilog_places.specs.Trees.{PlacedTree, PlacedTrees, PlacedActions, PlacedMemberTree, PlacedModuleTree, joined, moved}

-- tokens with the places of their first bytes
abbrev pub PlacedToks : Type 0
PlacedToks = List (ℕ × VTok)

abbrev pub parts_of : PlacedToks → VToks
parts_of ts = map (λ (t : ℕ × VTok). t.1) ts

mutual
  -- the levels are those of the grammar without places
  pub data SpellsPlaced : ℕ → PlacedToks → PlacedTree → Type 0 where
    number : {ts : PlacedToks} {at width value : ℕ} → ts ≡ (at, Sized width value) ∷ [] → SpellsPlaced 12 ts (trees.Number at width value)
    named : {ts : PlacedToks} {at : ℕ} {name : List ℕ} → ts ≡ (at, Named name) ∷ [] → SpellsPlaced 12 ts (trees.Named at name)
    bit : (p q r : ℕ) {ts : PlacedToks} {at bit digits : ℕ} {name : List ℕ} → ts ≡ (at, Named name) ∷ (p, Mark signs.OpenSquare) ∷ (q, Plain bit digits) ∷ (r, Mark signs.CloseSquare) ∷ []
        → SpellsPlaced 12 ts (trees.Bits at name bit bit)
    part : (p q r s t : ℕ) {ts : PlacedToks} {at high low digits more : ℕ} {name : List ℕ}
        → ts ≡ (at, Named name) ∷ (p, Mark signs.OpenSquare) ∷ (q, Plain high digits) ∷ (r, Mark signs.Colon) ∷ (s, Plain low more) ∷ (t, Mark signs.CloseSquare) ∷ []
        → SpellsPlaced 12 ts (trees.Bits at name high low)
    cell : (p q : ℕ) {ts xs : PlacedToks} {at : ℕ} {name : List ℕ} {index : PlacedTree} → SpellsPlaced 0 xs index
        → ts ≡ (at, Named name) ∷ (p, Mark signs.OpenSquare) ∷ (xs ++ (q, Mark signs.CloseSquare) ∷ []) → SpellsPlaced 12 ts (trees.Cell at name index)
    join : (p : ℕ) {ts xs : PlacedToks} {at : ℕ} {all : PlacedTrees} → SpellsPlacedParts xs all → ts ≡ (at, Mark signs.OpenBrace) ∷ (xs ++ (p, Mark signs.CloseBrace) ∷ []) → SpellsPlaced 12 ts (trees.Join at all)
    repeat : (p q r s : ℕ) {ts xs : PlacedToks} {at times digits : ℕ} {a : PlacedTree} → 1 ≤ times → SpellsPlaced 0 xs a
        → ts ≡ (at, Mark signs.OpenBrace) ∷ (p, Plain times digits) ∷ (q, Mark signs.OpenBrace) ∷ (xs ++ (r, Mark signs.CloseBrace) ∷ (s, Mark signs.CloseBrace) ∷ [])
        → SpellsPlaced 12 ts (trees.Repeat at times a)
    -- begins at its parenthesis
    inside : (p : ℕ) {ts xs : PlacedToks} {at : ℕ} {a : PlacedTree} → SpellsPlaced 0 xs a → ts ≡ (at, Mark signs.OpenRound) ∷ (xs ++ (p, Mark signs.CloseRound) ∷ []) → SpellsPlaced 12 ts (moved at a)
    one : (o : VOne) {ts xs : PlacedToks} {at : ℕ} {a : PlacedTree} → SpellsPlaced 12 xs a → ts ≡ (at, Mark (vone_sign o)) ∷ xs → SpellsPlaced 11 ts (trees.One at o a)
    two : (o : Operator) (at : ℕ) {level : ℕ} {ts xs ys : PlacedToks} {a b : PlacedTree} → level ≡ level_of o → SpellsPlaced level xs a → SpellsPlaced (suc level) ys b
        → ts ≡ xs ++ ((at, Mark (vsign_of o)) ∷ ys) → SpellsPlaced level ts (trees.two o a b)
    choose : (p q : ℕ) {ts xs ys zs : PlacedToks} {c a b : PlacedTree} → SpellsPlaced 1 xs c → SpellsPlaced 0 ys a → SpellsPlaced 0 zs b
        → ts ≡ xs ++ ((p, Mark signs.Question) ∷ (ys ++ ((q, Mark signs.Colon) ∷ zs))) → SpellsPlaced 0 ts (trees.choose c a b)
    tighter : {level : ℕ} {ts : PlacedToks} {a : PlacedTree} → SpellsPlaced (suc level) ts a → SpellsPlaced level ts a

  pub data SpellsPlacedParts : PlacedToks → PlacedTrees → Type 0 where
    last : {ts : PlacedToks} {a : PlacedTree} → SpellsPlaced 0 ts a → SpellsPlacedParts ts (trees.Then a trees.End)
    more : (at : ℕ) {ts xs ys : PlacedToks} {a : PlacedTree} {all : PlacedTrees} → SpellsPlaced 0 xs a → SpellsPlacedParts ys all → ts ≡ xs ++ ((at, Mark signs.Comma) ∷ ys)
        → SpellsPlacedParts ts (trees.Then a all)

-- closed or open, as without places
mutual
  pub data SpellsPlacedAction : Bool → PlacedToks → PlacedActions → Type 0 where
    block : (p q : ℕ) {ts xs : PlacedToks} {all : PlacedActions} → SpellsPlacedActions xs all → ts ≡ (p, Reserved words.Begin) ∷ (xs ++ (q, Reserved words.End) ∷ []) → SpellsPlacedAction true ts all
    set : (p q r : ℕ) {name : List ℕ} {ts xs : PlacedToks} {value : PlacedTree} → SpellsPlaced 0 xs value
        → ts ≡ (p, Named name) ∷ (q, Mark signs.LessEqual) ∷ (xs ++ (r, Mark signs.Semicolon) ∷ []) → SpellsPlacedAction true ts (trees.Set name value trees.Done)
    put : (p q r s t : ℕ) {name : List ℕ} {ts xs ys : PlacedToks} {index value : PlacedTree} → SpellsPlaced 0 xs index → SpellsPlaced 0 ys value
        → ts ≡ (p, Named name) ∷ (q, Mark signs.OpenSquare) ∷ (xs ++ ((r, Mark signs.CloseSquare) ∷ (s, Mark signs.LessEqual) ∷ (ys ++ (t, Mark signs.Semicolon) ∷ [])))
        → SpellsPlacedAction true ts (trees.Put name index value trees.Done)
    when : (p q r : ℕ) {closed : Bool} {ts xs ys : PlacedToks} {test : PlacedTree} {this : PlacedActions} → SpellsPlaced 0 xs test → SpellsPlacedAction closed ys this
        → ts ≡ (p, Reserved words.If) ∷ (q, Mark signs.OpenRound) ∷ (xs ++ ((r, Mark signs.CloseRound) ∷ ys)) → SpellsPlacedAction false ts (trees.If test this trees.Done trees.Done)
    choose : (p q r s : ℕ) {closed : Bool} {ts xs ys zs : PlacedToks} {test : PlacedTree} {this other : PlacedActions} → SpellsPlaced 0 xs test → SpellsPlacedAction true ys this → SpellsPlacedAction closed zs other
        → ts ≡ (p, Reserved words.If) ∷ (q, Mark signs.OpenRound) ∷ (xs ++ ((r, Mark signs.CloseRound) ∷ (ys ++ ((s, Reserved words.Else) ∷ zs))))
        → SpellsPlacedAction closed ts (trees.If test this other trees.Done)

  pub data SpellsPlacedActions : PlacedToks → PlacedActions → Type 0 where
    none : {ts : PlacedToks} → ts ≡ [] → SpellsPlacedActions ts trees.Done
    some : {closed : Bool} {ts xs ys : PlacedToks} {first rest all : PlacedActions} → SpellsPlacedAction closed xs first → SpellsPlacedActions ys rest → ts ≡ xs ++ ys → all ≡ joined first rest → SpellsPlacedActions ts all

-- a range, its place and its width; without a range the place is 0
pub data SpellsPlacedRange : PlacedToks → (range width : ℕ) → Type 0 where
  absent : {ts : PlacedToks} → ts ≡ [] → SpellsPlacedRange ts 0 1
  present : (p q r s : ℕ) {ts : PlacedToks} {at high digits : ℕ} → ts ≡ (at, Mark signs.OpenSquare) ∷ (p, Plain high digits) ∷ (q, Mark signs.Colon) ∷ (r, Plain 0 1) ∷ (s, Mark signs.CloseSquare) ∷ []
      → SpellsPlacedRange ts at (suc high)

pub data SpellsPlacedInputs : PlacedToks → List PlacedInput → Type 0 where
  none : {ts : PlacedToks} → ts ≡ [] → SpellsPlacedInputs ts []
  some : (p q r : ℕ) (wire : PlacedToks) {ts xs ys : PlacedToks} {input : PlacedInput} {all : List PlacedInput} → IsOptionalWire (parts_of wire) → SpellsPlacedRange xs input.range input.item.width → SpellsPlacedInputs ys all
      → ts ≡ (p, Mark signs.Comma) ∷ (q, Reserved words.Input) ∷ (wire ++ (xs ++ ((r, Named input.item.name) ∷ ys))) → SpellsPlacedInputs ts (input ∷ all)

-- first values, each `name = number;`
pub data SpellsPlacedSettings : PlacedToks → List SettingTree → Type 0 where
  none : {ts : PlacedToks} → ts ≡ [] → SpellsPlacedSettings ts []
  some : (p q r s : ℕ) {ts ys : PlacedToks} {setting : SettingTree} {all : List SettingTree} → SpellsPlacedSettings ys all
      → ts ≡ (p, Named setting.name) ∷ (q, Mark signs.Equal) ∷ (r, Sized setting.width setting.value) ∷ (s, Mark signs.Semicolon) ∷ ys → SpellsPlacedSettings ts (setting ∷ all)

pub data SpellsPlacedMember : PlacedToks → PlacedMemberTree → Type 0 where
  reg : (p q r : ℕ) {ts xs : PlacedToks} {range : ℕ} {item : Item} → SpellsPlacedRange xs range item.width
      → ts ≡ (p, Reserved words.Reg) ∷ (xs ++ (q, Named item.name) ∷ (r, Mark signs.Semicolon) ∷ []) → SpellsPlacedMember ts (trees.Reg range item)
  array : (p q r s t u v w : ℕ) {ts xs : PlacedToks} {range : ℕ} {array : ArrayItem} (last digits : ℕ) → SpellsPlacedRange xs range array.width → array.depth ≡ suc last
      → ts ≡ (p, Reserved words.Reg) ∷ (xs ++ (q, Named array.name) ∷ (r, Mark signs.OpenSquare) ∷ (s, Plain 0 1) ∷ (t, Mark signs.Colon) ∷ (u, Plain last digits) ∷ (v, Mark signs.CloseSquare) ∷ (w, Mark signs.Semicolon) ∷ [])
      → SpellsPlacedMember ts (trees.Array range array)
  wire : (p q r s : ℕ) {ts xs ys : PlacedToks} {range : ℕ} {item : Item} {value : PlacedTree} → SpellsPlacedRange xs range item.width → SpellsPlaced 0 ys value
      → ts ≡ (p, Reserved words.Wire) ∷ (xs ++ ((q, Named item.name) ∷ (r, Mark signs.Equal) ∷ (ys ++ (s, Mark signs.Semicolon) ∷ []))) → SpellsPlacedMember ts (trees.Wire range item value)
  first : (p q r s t : ℕ) {ts : PlacedToks} {setting : SettingTree}
      → ts ≡ (p, Reserved words.Initial) ∷ (q, Named setting.name) ∷ (r, Mark signs.Equal) ∷ (s, Sized setting.width setting.value) ∷ (t, Mark signs.Semicolon) ∷ []
      → SpellsPlacedMember ts (trees.Initial (setting ∷ []))
  initial : (p q r : ℕ) {ts xs : PlacedToks} {all : List SettingTree} → SpellsPlacedSettings xs all
      → ts ≡ (p, Reserved words.Initial) ∷ (q, Reserved words.Begin) ∷ (xs ++ (r, Reserved words.End) ∷ []) → SpellsPlacedMember ts (trees.Initial all)
  always : (p q r s t u : ℕ) {closed : Bool} {ts xs : PlacedToks} {edge : List ℕ} {actions : PlacedActions} → SpellsPlacedAction closed xs actions
      → ts ≡ (p, Reserved words.Always) ∷ (q, Mark signs.At) ∷ (r, Mark signs.OpenRound) ∷ (s, Reserved words.PosEdge) ∷ (t, Named edge) ∷ (u, Mark signs.CloseRound) ∷ xs
      → SpellsPlacedMember ts (trees.Always edge actions)

pub data SpellsPlacedMembers : PlacedToks → List PlacedMemberTree → Type 0 where
  none : {ts : PlacedToks} → ts ≡ [] → SpellsPlacedMembers ts []
  some : {ts xs ys : PlacedToks} {member : PlacedMemberTree} {all : List PlacedMemberTree} → SpellsPlacedMember xs member → SpellsPlacedMembers ys all → ts ≡ xs ++ ys → SpellsPlacedMembers ts (member ∷ all)

-- the tokens spell the module
pub record SpellsPlacedModule (ts : PlacedToks) (m : PlacedModuleTree) : Type 0 where
  pub wire : PlacedToks
  pub is_wire : IsOptionalWire (parts_of wire)
  pub input_part : PlacedToks
  pub spells_inputs : SpellsPlacedInputs input_part m.inputs
  pub member_part : PlacedToks
  pub spells_members : SpellsPlacedMembers member_part m.members
  pub whole : (p q r s t u v w : ℕ) × (ts ≡ (p, Reserved words.Module) ∷ (q, Named m.name) ∷ (r, Mark signs.OpenRound) ∷ (s, Reserved words.Input) ∷ (wire ++ ((t, Named m.clock) ∷ (input_part
      ++ ((u, Mark signs.CloseRound) ∷ (v, Mark signs.Semicolon) ∷ (member_part ++ (w, Reserved words.EndModule) ∷ []))))))
