-- The text of a module: its tokens, with parentheses only where a looser expression stands in a tighter place, every name escaped and each
-- range written, and white space behind each token.
use Rattle.std.specs.Prelude.{ℕ, suc, ◌+◌, ◌-◌, List, [], ◌∷◌, ◌++◌, length, flat_map, codes, nat_lt, if◌then◌else◌}
use Rattle.std.specs.Fmt.{decimal}
use Rattle.lisa_engine.specs.declared.parts.Item.{Item}
use Rattle.lisa_words.specs.Operators.{level_of}
use Rattle.verilog_text.specs.declared.tokens.VKeyword.TheVariants as words
use Rattle.verilog_text.specs.declared.tokens.VSign.{VSign}
use Rattle.verilog_text.specs.declared.tokens.VSign.TheVariants as signs
use Rattle.verilog_text.specs.Tokens.{VTok, VToks, Named, Reserved, Sized, Plain, Mark}
use Rattle.verilog_text.specs.Trees as trees
use Rattle.verilog_text.specs.Trees.{VTree, VTrees, ActionTrees, SettingTree, MemberTree, ModuleTree}
use Rattle.verilog_text.specs.Grammar.{vsign_of, vone_sign, setting_tokens}
use Rattle.verilog_text.specs.Lexing.{vword_text}

-- the level at which an expression is spelled without parentheses
abbrev pub own_level : VTree → ℕ
own_level (trees.One o a) = 11
own_level (trees.Two o a b) = level_of o
own_level (trees.Choose test this other) = 0
own_level _ = 12

abbrev pub wrapped : ℕ → VTree → VToks → VToks
wrapped level e ts = if nat_lt (own_level e) level then (Mark signs.OpenRound ∷ (ts ++ Mark signs.CloseRound ∷ [])) else ts

abbrev pub plain : ℕ → VTok
plain value = Plain value (length (decimal value))

abbrev mutual
  pub bare : VTree → VToks
  bare (trees.Number width value) = Sized width value ∷ []
  bare (trees.Named name) = Named name ∷ []
  bare (trees.Bits name high low) = Named name ∷ Mark signs.OpenSquare ∷ plain high ∷ Mark signs.Colon ∷ plain low ∷ Mark signs.CloseSquare ∷ []
  bare (trees.Cell name index) = Named name ∷ Mark signs.OpenSquare ∷ (wrapped 0 index (bare index) ++ Mark signs.CloseSquare ∷ [])
  bare (trees.One o a) = Mark (vone_sign o) ∷ wrapped 12 a (bare a)
  bare (trees.Two o a b) = wrapped (level_of o) a (bare a) ++ (Mark (vsign_of o) ∷ wrapped (suc (level_of o)) b (bare b))
  bare (trees.Choose test this other) =
      wrapped 1 test (bare test) ++ (Mark signs.Question ∷ (wrapped 0 this (bare this) ++ (Mark signs.Colon ∷ wrapped 0 other (bare other))))
  bare (trees.Join parts) = Mark signs.OpenBrace ∷ (parts_tokens parts ++ Mark signs.CloseBrace ∷ [])
  bare (trees.Repeat times a) = Mark signs.OpenBrace ∷ plain times ∷ Mark signs.OpenBrace ∷ (wrapped 0 a (bare a) ++ Mark signs.CloseBrace ∷ Mark signs.CloseBrace ∷ [])

  pub parts_tokens : VTrees → VToks
  parts_tokens trees.End = []
  parts_tokens (trees.Then e rest) = wrapped 0 e (bare e) ++ more_tokens rest

  pub more_tokens : VTrees → VToks
  more_tokens trees.End = []
  more_tokens (trees.Then e rest) = Mark signs.Comma ∷ (wrapped 0 e (bare e) ++ more_tokens rest)

-- the tokens of an expression at a level
abbrev pub shown : ℕ → VTree → VToks
shown level e = wrapped level e (bare e)

abbrev pub else_tokens : ActionTrees → VToks → VToks
else_tokens trees.Done ts = []
else_tokens _ ts = Reserved words.Else ∷ Reserved words.Begin ∷ (ts ++ Reserved words.End ∷ [])

abbrev pub action_tokens : ActionTrees → VToks
action_tokens trees.Done = []
action_tokens (trees.Set name value rest) = Named name ∷ Mark signs.LessEqual ∷ (shown 0 value ++ (Mark signs.Semicolon ∷ action_tokens rest))
action_tokens (trees.Put name index value rest) =
    Named name ∷ Mark signs.OpenSquare ∷ (shown 0 index ++ (Mark signs.CloseSquare ∷ Mark signs.LessEqual ∷ (shown 0 value ++ (Mark signs.Semicolon ∷ action_tokens rest))))
action_tokens (trees.If test this other rest) =
    Reserved words.If ∷ Mark signs.OpenRound ∷ (shown 0 test ++ (Mark signs.CloseRound ∷ Reserved words.Begin ∷ (action_tokens this ++ (Reserved words.End ∷ (else_tokens other (action_tokens other)
    ++ action_tokens rest)))))

abbrev pub range_tokens : ℕ → VToks
range_tokens width = Mark signs.OpenSquare ∷ plain (width - 1) ∷ Mark signs.Colon ∷ plain 0 ∷ Mark signs.CloseSquare ∷ []

abbrev pub member_tokens : MemberTree → VToks
member_tokens (trees.Reg item) = Reserved words.Reg ∷ (range_tokens item.width ++ Named item.name ∷ Mark signs.Semicolon ∷ [])
member_tokens (trees.Array array) = Reserved words.Reg ∷ (range_tokens array.width ++ Named array.name ∷ Mark signs.OpenSquare ∷ plain 0 ∷ Mark signs.Colon ∷ plain (array.depth - 1)
    ∷ Mark signs.CloseSquare ∷ Mark signs.Semicolon ∷ [])
member_tokens (trees.Wire item value) = Reserved words.Wire ∷ (range_tokens item.width ++ (Named item.name ∷ Mark signs.Equal ∷ (shown 0 value ++ Mark signs.Semicolon ∷ [])))
member_tokens (trees.Initial all) = Reserved words.Initial ∷ Reserved words.Begin ∷ (flat_map setting_tokens all ++ Reserved words.End ∷ [])
member_tokens (trees.Always clock actions) = Reserved words.Always ∷ Mark signs.At ∷ Mark signs.OpenRound ∷ Reserved words.PosEdge ∷ Named clock ∷ Mark signs.CloseRound
    ∷ Reserved words.Begin ∷ (action_tokens actions ++ Reserved words.End ∷ [])

abbrev pub input_tokens : Item → VToks
input_tokens item = Mark signs.Comma ∷ Reserved words.Input ∷ (range_tokens item.width ++ Named item.name ∷ [])

-- everything before the members
abbrev pub head_tokens : ModuleTree → VToks
head_tokens m = Reserved words.Module ∷ Named m.name ∷ Mark signs.OpenRound ∷ Reserved words.Input ∷ Named m.clock ∷ (flat_map input_tokens m.inputs
    ++ Mark signs.CloseRound ∷ Mark signs.Semicolon ∷ [])

abbrev pub module_tokens : ModuleTree → VToks
module_tokens m = head_tokens m ++ (flat_map member_tokens m.members ++ Reserved words.EndModule ∷ [])

-- ---- from tokens to bytes

abbrev pub vsign_text : VSign → List ℕ
vsign_text signs.ShiftLeft = codes "<<"
vsign_text signs.ShiftRight = codes ">>"
vsign_text signs.LessEqual = codes "<="
vsign_text signs.GreaterEqual = codes ">="
vsign_text signs.EqualEqual = codes "=="
vsign_text signs.NotEqual = codes "!="
vsign_text signs.AndAnd = codes "&&"
vsign_text signs.OrOr = codes "||"
vsign_text signs.Xnor = codes "^~"
vsign_text signs.OpenBrace = codes "{"
vsign_text signs.CloseBrace = codes "}"
vsign_text signs.OpenRound = codes "("
vsign_text signs.CloseRound = codes ")"
vsign_text signs.OpenSquare = codes "["
vsign_text signs.CloseSquare = codes "]"
vsign_text signs.Semicolon = codes ";"
vsign_text signs.Comma = codes ","
vsign_text signs.Equal = codes "="
vsign_text signs.Less = codes "<"
vsign_text signs.Greater = codes ">"
vsign_text signs.Plus = codes "+"
vsign_text signs.Minus = codes "-"
vsign_text signs.Star = codes "*"
vsign_text signs.And = codes "&"
vsign_text signs.Or = codes "|"
vsign_text signs.Caret = codes "^"
vsign_text signs.Tilde = codes "~"
vsign_text signs.Exclamation = codes "!"
vsign_text signs.Question = codes "?"
vsign_text signs.Colon = codes ":"
vsign_text signs.At = codes "@"

abbrev pub token_text : VTok → List ℕ
token_text (Named name) = 92 ∷ name
token_text (Reserved keyword) = vword_text keyword
token_text (Sized width value) = decimal width ++ (39 ∷ 100 ∷ decimal value)
token_text (Plain value digits) = decimal value
token_text (Mark sign) = vsign_text sign

-- a line ends behind `;`, `begin` and `end`, and a space stands behind every other token
abbrev pub space_behind : VTok → ℕ
space_behind (Mark signs.Semicolon) = 10
space_behind (Reserved words.Begin) = 10
space_behind (Reserved words.End) = 10
space_behind _ = 32

abbrev pub piece_text : VTok → List ℕ
piece_text tok = token_text tok ++ space_behind tok ∷ []

abbrev pub tokens_text : VToks → List ℕ
tokens_text [] = []
tokens_text (tok ∷ ts) = piece_text tok ++ tokens_text ts

-- the text of a module
abbrev pub module_text : ModuleTree → List ℕ
module_text m = tokens_text (module_tokens m)

-- ---- the size of a module: 32 for each node, number and name, and the bytes of the names

abbrev mutual
  pub expr_size : VTree → ℕ
  expr_size (trees.Number width value) = 32
  expr_size (trees.Named name) = 32 + length name
  expr_size (trees.Bits name high low) = 64 + length name
  expr_size (trees.Cell name index) = 32 + length name + expr_size index
  expr_size (trees.One o a) = 32 + expr_size a
  expr_size (trees.Two o a b) = 32 + (expr_size a + expr_size b)
  expr_size (trees.Choose test this other) = 32 + (expr_size test + (expr_size this + expr_size other))
  expr_size (trees.Join parts) = 32 + parts_size parts
  expr_size (trees.Repeat times a) = 32 + expr_size a

  pub parts_size : VTrees → ℕ
  parts_size trees.End = 0
  parts_size (trees.Then e rest) = 32 + (expr_size e + parts_size rest)

abbrev pub actions_size : ActionTrees → ℕ
actions_size trees.Done = 0
actions_size (trees.Set name value rest) = 32 + length name + (expr_size value + actions_size rest)
actions_size (trees.Put name index value rest) = 32 + length name + (expr_size index + (expr_size value + actions_size rest))
actions_size (trees.If test this other rest) = 64 + (expr_size test + (actions_size this + (actions_size other + actions_size rest)))

abbrev pub settings_size : List SettingTree → ℕ
settings_size [] = 0
settings_size (s ∷ rest) = 64 + length s.name + settings_size rest

abbrev pub member_size : MemberTree → ℕ
member_size (trees.Reg item) = 64 + length item.name
member_size (trees.Array array) = 96 + length array.name
member_size (trees.Wire item value) = 64 + length item.name + expr_size value
member_size (trees.Initial all) = 32 + settings_size all
member_size (trees.Always clock actions) = 64 + length clock + actions_size actions

abbrev pub members_size : List MemberTree → ℕ
members_size [] = 0
members_size (member ∷ rest) = member_size member + members_size rest

abbrev pub inputs_size : List Item → ℕ
inputs_size [] = 0
inputs_size (item ∷ rest) = 64 + length item.name + inputs_size rest

abbrev pub module_size : ModuleTree → ℕ
module_size m = 64 + length m.name + length m.clock + (inputs_size m.inputs + members_size m.members)
