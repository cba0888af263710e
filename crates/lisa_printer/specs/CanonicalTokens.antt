-- The tokens of the canonical text: those of the tree, with parentheses only where the grammar needs them.
use Rattle.std.specs.Prelude.{ℕ, suc, Bool, true, false, nat_eq, nat_lt, List, [], ◌∷◌, ◌++◌, Option, Some, None, codes, if◌then◌else◌}
use Rattle.std.specs.List.{flat_map}
use Rattle.std.specs.Fmt.{digits}
use Rattle.std.specs.Cmp.Lexicographic.{pointwise}
use Rattle.lisa_tree.specs.declared.tokens.Base.TheVariants as bases
use Rattle.lisa_tree.specs.declared.tokens.Keyword.TheVariants as keywords
use Rattle.lisa_tree.specs.declared.tokens.Sign.{Sign}
use Rattle.lisa_tree.specs.declared.tokens.Sign.TheVariants as signs
use Rattle.lisa_tree.specs.declared.tokens.TokenPart.TheVariants as parts
use Rattle.lisa_tree.specs.declared.descriptions.Pattern.{Pattern}
use Rattle.lisa_tree.specs.declared.descriptions.CodingItem.{CodingItem}
use Rattle.lisa_tree.specs.declared.descriptions.CodingItem.TheVariants as codings
use Rattle.lisa_tree.specs.Operators.{sign_of}
use Rattle.lisa_words.specs.Operators.{level_of}
use Rattle.lisa_tree.specs.Expressions as expressions
use Rattle.lisa_tree.specs.Expressions.{ExprTree}
use Rattle.lisa_tree.specs.Statements as statements
use Rattle.lisa_tree.specs.Statements.{HeadTree, StmtTree, StmtTrees}
use Rattle.lisa_tree.specs.Activations as activations
use Rattle.lisa_tree.specs.Activations.{ActTree, ActTrees}
use Rattle.lisa_tree.specs.Descriptions as descriptions
use Rattle.lisa_tree.specs.Descriptions.{ResourceTree, CodingTree, DeclareTree, SectionTree, OperationTree, DescriptionTree}
use Rattle.lisa_tree.specs.Grammar.{Toks, mark, shape_tokens, call_end}
use Rattle.lisa_tree.specs.DescriptionGrammar.{word, names_by, register_word, memory_word, field_tokens, syntax_tokens, braced, alias_tokens, stage_tokens}

-- ---- expressions

-- the tightest level at which an expression is spelled without parentheses round it
abbrev pub own_level : ExprTree → ℕ
own_level (expressions.Cast shape a) = 11
own_level (expressions.Complement a) = 11
own_level (expressions.Negate a) = 11
own_level (expressions.Two o a b) = level_of o
own_level (expressions.Choose c a b) = 0
own_level _ = 12

-- tokens of an expression whose own level is the second one, at the first one: in parentheses where it is too loose there
abbrev pub wrapped : ℕ → ℕ → Toks → Toks
wrapped level own ts = if nat_lt own level then (mark signs.OpenRound ∷ (ts ++ mark signs.CloseRound ∷ [])) else ts

-- an expression without parentheses round it
abbrev pub bare_tokens : ExprTree → Toks
bare_tokens (expressions.Number value bases.Binary) = parts.Pattern (digits 2 false value) ∷ []
bare_tokens (expressions.Number value base) = parts.Number value base ∷ []
bare_tokens (expressions.Named name) = parts.Named name ∷ []
bare_tokens (expressions.Element name index) = parts.Named name ∷ mark signs.OpenSquare ∷ (wrapped 0 (own_level index) (bare_tokens index) ++ mark signs.CloseSquare ∷ [])
bare_tokens (expressions.Input field) = word keywords.In ∷ mark signs.Dot ∷ parts.Named field ∷ []
bare_tokens (expressions.Output field) = word keywords.Out ∷ mark signs.Dot ∷ parts.Named field ∷ []
bare_tokens (expressions.Boundary pipe before after field) =
    word keywords.PipelineRegister ∷ mark signs.OpenRound ∷ parts.Named pipe ∷ mark signs.Comma ∷ parts.Named before ∷ mark signs.Slash ∷ parts.Named after
    ∷ mark signs.CloseRound ∷ mark signs.Dot ∷ parts.Named field ∷ []
bare_tokens expressions.Decoded = word keywords.Decoded ∷ []
bare_tokens (expressions.Cast shape a) = mark signs.OpenRound ∷ parts.TypeWord shape ∷ mark signs.CloseRound ∷ wrapped 11 (own_level a) (bare_tokens a)
bare_tokens (expressions.Complement a) = mark signs.Tilde ∷ wrapped 11 (own_level a) (bare_tokens a)
bare_tokens (expressions.Negate a) = mark signs.Exclamation ∷ wrapped 11 (own_level a) (bare_tokens a)
bare_tokens (expressions.Two o a b) =
    wrapped (level_of o) (own_level a) (bare_tokens a) ++ (mark (sign_of o) ∷ wrapped (suc (level_of o)) (own_level b) (bare_tokens b))
bare_tokens (expressions.Choose c a b) =
    wrapped 1 (own_level c) (bare_tokens c) ++ (mark signs.Question ∷ (wrapped 0 (own_level a) (bare_tokens a) ++ (mark signs.Colon ∷ wrapped 0 (own_level b) (bare_tokens b))))

-- an expression at a level
abbrev pub expr_tokens : ℕ → ExprTree → Toks
expr_tokens level e = wrapped level (own_level e) (bare_tokens e)

-- ---- statements

-- `= e`, where there is one
abbrev pub value_tokens : Option ExprTree → Toks
value_tokens None = []
value_tokens (Some value) = mark signs.Equal ∷ expr_tokens 0 value

-- `[type] name = e; e; name = e`
abbrev pub head_tokens : HeadTree → Toks
head_tokens head = shape_tokens head.shape ++ (parts.Named head.name ∷ mark signs.Equal ∷ (expr_tokens 0 head.first ++ (mark signs.Semicolon
    ∷ (expr_tokens 0 head.test ++ (mark signs.Semicolon ∷ parts.Named head.next ∷ mark signs.Equal ∷ expr_tokens 0 head.step)))))

abbrev mutual
  pub stmt_tokens : StmtTree → Toks
  stmt_tokens statements.Empty = mark signs.Semicolon ∷ []
  stmt_tokens (statements.Block all) = mark signs.OpenBrace ∷ (stmts_tokens all ++ mark signs.CloseBrace ∷ [])
  stmt_tokens (statements.Local shape name value) = parts.TypeWord shape ∷ parts.Named name ∷ (value_tokens value ++ mark signs.Semicolon ∷ [])
  stmt_tokens (statements.Assign place value) = bare_tokens place ++ (mark signs.Equal ∷ (expr_tokens 0 value ++ mark signs.Semicolon ∷ []))
  stmt_tokens (statements.If test s) = word keywords.If ∷ mark signs.OpenRound ∷ (expr_tokens 0 test ++ (mark signs.CloseRound ∷ stmt_tokens s))
  stmt_tokens (statements.IfElse test s u) = word keywords.If ∷ mark signs.OpenRound ∷ (expr_tokens 0 test ++ (mark signs.CloseRound ∷ (stmt_tokens s ++ (word keywords.Else ∷ stmt_tokens u))))
  stmt_tokens (statements.While test s) = word keywords.While ∷ mark signs.OpenRound ∷ (expr_tokens 0 test ++ (mark signs.CloseRound ∷ stmt_tokens s))
  stmt_tokens (statements.For head s) = word keywords.For ∷ mark signs.OpenRound ∷ (head_tokens head ++ (mark signs.CloseRound ∷ stmt_tokens s))
  stmt_tokens (statements.Call name) = parts.Named name ∷ call_end
  stmt_tokens (statements.Stall pipe stage) = parts.Named pipe ∷ mark signs.Dot ∷ parts.Named stage ∷ mark signs.Dot ∷ parts.Named (codes "stall") ∷ call_end
  stmt_tokens (statements.Flush pipe stage) = parts.Named pipe ∷ mark signs.Dot ∷ parts.Named stage ∷ mark signs.Dot ∷ parts.Named (codes "flush") ∷ call_end
  stmt_tokens (statements.Execute pipe) = parts.Named pipe ∷ mark signs.Dot ∷ parts.Named (codes "execute") ∷ call_end
  stmt_tokens (statements.Shift pipe) = parts.Named pipe ∷ mark signs.Dot ∷ parts.Named (codes "shift") ∷ call_end

  pub stmts_tokens : StmtTrees → Toks
  stmts_tokens statements.End = []
  stmts_tokens (statements.Then s rest) = stmt_tokens s ++ stmts_tokens rest

-- ---- items of an activation

abbrev mutual
  pub act_tokens : ActTree → Toks
  act_tokens (activations.Start name) = parts.Named name ∷ []
  act_tokens (activations.Choose test all) =
      word keywords.If ∷ mark signs.OpenRound ∷ (expr_tokens 0 test ++ (mark signs.CloseRound ∷ mark signs.OpenBrace ∷ (acts_tokens all ++ mark signs.CloseBrace ∷ [])))
  act_tokens (activations.ChooseElse test all others) =
      word keywords.If ∷ mark signs.OpenRound ∷ (expr_tokens 0 test ++ (mark signs.CloseRound ∷ mark signs.OpenBrace ∷ (acts_tokens all ++ (mark signs.CloseBrace
      ∷ word keywords.Else ∷ mark signs.OpenBrace ∷ (acts_tokens others ++ mark signs.CloseBrace ∷ [])))))

  pub acts_tokens : ActTrees → Toks
  acts_tokens activations.End = []
  acts_tokens (activations.Then a rest) = act_tokens a ++ more_acts_tokens rest

  -- the items behind the first, with a comma before each
  pub more_acts_tokens : ActTrees → Toks
  more_acts_tokens activations.End = []
  more_acts_tokens (activations.Then a rest) = mark signs.Comma ∷ (act_tokens a ++ more_acts_tokens rest)

-- a comma, but before the first item
abbrev pub comma_unless : Bool → Toks
comma_unless true = []
comma_unless false = mark signs.Comma ∷ []

-- ---- names

-- names behind the first, with a sign before each
abbrev pub more_names : Sign → List (List ℕ) → Toks
more_names sign [] = []
more_names sign (name ∷ rest) = mark sign ∷ parts.Named name ∷ more_names sign rest

-- ---- resources

-- `[depth];` with a decimal depth
abbrev pub depth_tokens : ℕ → Toks
depth_tokens depth = mark signs.OpenSquare ∷ parts.Number depth bases.Decimal ∷ mark signs.CloseSquare ∷ mark signs.Semicolon ∷ []

-- no `;` behind the last stage, and one behind the fields' `}`
abbrev pub resource_tokens : ResourceTree → Toks
resource_tokens (descriptions.Register kind shape name None) = register_word kind ∷ parts.TypeWord shape ∷ parts.Named name ∷ mark signs.Semicolon ∷ []
resource_tokens (descriptions.Register kind shape name (Some depth)) = register_word kind ∷ parts.TypeWord shape ∷ parts.Named name ∷ depth_tokens depth
resource_tokens (descriptions.Clocked kind shape name) = word keywords.Clocked ∷ register_word kind ∷ parts.TypeWord shape ∷ parts.Named name ∷ mark signs.Semicolon ∷ []
resource_tokens (descriptions.Memory kind shape name depth) = memory_word kind ∷ parts.TypeWord shape ∷ parts.Named name ∷ depth_tokens depth
resource_tokens (descriptions.Pin shape name) = word keywords.Pin ∷ parts.TypeWord shape ∷ parts.Named name ∷ mark signs.Semicolon ∷ []
resource_tokens (descriptions.Pipeline name stages) =
    word keywords.Pipeline ∷ parts.Named name ∷ mark signs.Equal ∷ mark signs.OpenBrace ∷ (names_by signs.Semicolon stages ++ mark signs.CloseBrace ∷ mark signs.Semicolon ∷ [])
resource_tokens (descriptions.Fields pipe fields) =
    word keywords.PipelineRegister ∷ word keywords.In ∷ parts.Named pipe ∷ mark signs.OpenBrace ∷ (field_tokens fields ++ mark signs.CloseBrace ∷ mark signs.Semicolon ∷ [])

-- ---- sections

-- `name` where the operation has the same name, else `name = operation`
abbrev pub instance_tokens : List ℕ × List ℕ → Toks
instance_tokens (name, operation) =
    if pointwise nat_eq name operation then (parts.Named name ∷ []) else (parts.Named name ∷ mark signs.Equal ∷ parts.Named operation ∷ [])

abbrev pub instances_tokens : List (List ℕ × List ℕ) → Toks
instances_tokens [] = []
instances_tokens (a ∷ []) = instance_tokens a
instances_tokens (a ∷ rest) = instance_tokens a ++ (mark signs.Comma ∷ instances_tokens rest)

-- instances behind the first, with a comma before each
abbrev pub more_instances : List (List ℕ × List ℕ) → Toks
more_instances [] = []
more_instances (a ∷ rest) = mark signs.Comma ∷ (instance_tokens a ++ more_instances rest)

abbrev pub declare_tokens : DeclareTree → Toks
declare_tokens (descriptions.Group names alternatives) =
    word keywords.Group ∷ (names_by signs.Comma names ++ (mark signs.Equal ∷ mark signs.OpenBrace ∷ (names_by signs.OrOr alternatives ++ mark signs.CloseBrace ∷ mark signs.Semicolon ∷ [])))
declare_tokens (descriptions.Instance names) = word keywords.Instance ∷ (instances_tokens names ++ mark signs.Semicolon ∷ [])
declare_tokens (descriptions.Label names) = word keywords.Label ∷ (names_by signs.Comma names ++ mark signs.Semicolon ∷ [])
declare_tokens (descriptions.Reference names) = word keywords.Reference ∷ (names_by signs.Comma names ++ mark signs.Semicolon ∷ [])

-- `[n]` with a decimal number, where a digit stands so many times
abbrev pub times_tokens : Option ℕ → Toks
times_tokens None = []
times_tokens (Some times) = mark signs.OpenSquare ∷ parts.Number times bases.Decimal ∷ mark signs.CloseSquare ∷ []

-- the digits are kept as they are
abbrev pub pattern_tokens : Pattern → Toks
pattern_tokens pattern = parts.Pattern pattern.digits ∷ times_tokens pattern.times

abbrev pub coding_item_tokens : CodingItem → Toks
coding_item_tokens (codings.Bits pattern) = pattern_tokens pattern
coding_item_tokens (codings.Field name pattern) = parts.Named name ∷ mark signs.Equal ∷ pattern_tokens pattern
coding_item_tokens (codings.Child name) = parts.Named name ∷ []

abbrev pub coding_tokens : CodingTree → Toks
coding_tokens (descriptions.Root place group) = bare_tokens place ++ (mark signs.EqualEqual ∷ parts.Named group ∷ [])
coding_tokens (descriptions.Items items) = flat_map coding_item_tokens items

abbrev pub section_tokens : SectionTree → Toks
section_tokens (descriptions.Declares declares) = braced keywords.Declare (flat_map declare_tokens declares)
section_tokens (descriptions.Coding part) = braced keywords.Coding (coding_tokens part)
section_tokens (descriptions.Syntax items) = braced keywords.Syntax (syntax_tokens items)
section_tokens (descriptions.Behavior all) = braced keywords.Behavior (stmts_tokens all)
section_tokens (descriptions.Expression e) = braced keywords.Expression (expr_tokens 0 e)
section_tokens (descriptions.Activation acts) = braced keywords.Activation (acts_tokens acts)

-- ---- operations and descriptions

abbrev pub operation_tokens : OperationTree → Toks
operation_tokens o = alias_tokens o.alias ++ (word keywords.Operation ∷ parts.Named o.name ∷ (stage_tokens o.stage
    ++ (mark signs.OpenBrace ∷ (flat_map section_tokens o.sections ++ mark signs.CloseBrace ∷ []))))

abbrev pub description_tokens : DescriptionTree → Toks
description_tokens d = braced keywords.Resource (flat_map resource_tokens d.resources) ++ flat_map operation_tokens d.operations
