-- Which tokens spell which resource, section, operation and description: the grammar, rule by rule, on whole lists of tokens.
use Rattle.std.specs.Prelude.{◌≡◌, ◌≢◌, ℕ, ◌≤◌, Bool, true, false, List, [], ◌∷◌, ◌++◌, Option, Some, None, length, ◌⊎◌}
use Rattle.lisa_tree.specs.declared.tokens.Base.{Base}
use Rattle.lisa_tree.specs.declared.tokens.Keyword.{Keyword}
use Rattle.lisa_tree.specs.declared.tokens.Keyword.TheVariants as keywords
use Rattle.lisa_tree.specs.declared.tokens.Shape.{Shape}
use Rattle.lisa_tree.specs.declared.tokens.Sign.{Sign}
use Rattle.lisa_tree.specs.declared.tokens.Sign.TheVariants as signs
use Rattle.lisa_tree.specs.declared.tokens.TokenPart.{TokenPart}
use Rattle.lisa_tree.specs.declared.tokens.TokenPart.TheVariants as parts
use Rattle.lisa_tree.specs.declared.descriptions.RegisterWord.{RegisterWord}
use Rattle.lisa_tree.specs.declared.descriptions.RegisterWord.TheVariants as registers
use Rattle.lisa_tree.specs.declared.descriptions.MemoryWord.{MemoryWord}
use Rattle.lisa_tree.specs.declared.descriptions.MemoryWord.TheVariants as memories
use Rattle.lisa_tree.specs.declared.descriptions.Pattern.{Pattern}
use Rattle.lisa_tree.specs.declared.descriptions.Format.{Format}
use Rattle.lisa_tree.specs.declared.descriptions.Format.TheVariants as formats
use Rattle.lisa_tree.specs.declared.descriptions.CodingItem.{CodingItem}
use Rattle.lisa_tree.specs.declared.descriptions.CodingItem.TheVariants as codings
use Rattle.lisa_tree.specs.declared.descriptions.SyntaxItem.{SyntaxItem}
use Rattle.lisa_tree.specs.declared.descriptions.SyntaxPart.{SyntaxPart}
use Rattle.lisa_tree.specs.declared.descriptions.SyntaxPart.TheVariants as syntaxes
use Rattle.lisa_tree.specs.Expressions as expressions
use Rattle.lisa_tree.specs.Expressions.{ExprTree}
use Rattle.lisa_tree.specs.Activations as activations
use Rattle.lisa_tree.specs.Activations.{ActTree, ActTrees}
use Rattle.lisa_tree.specs.Descriptions as descriptions
use Rattle.lisa_tree.specs.Descriptions.{ResourceTree, CodingTree, DeclareTree, SectionTree, OperationTree, DescriptionTree}
use Rattle.lisa_tree.specs.Grammar.{Toks, mark, SpellsExpr, SpellsStmts}

abbrev pub word : Keyword → TokenPart
word keyword = parts.Reserved keyword

-- names with a sign between each two
abbrev pub names_by : Sign → List (List ℕ) → Toks
names_by sign [] = []
names_by sign (name ∷ []) = parts.Named name ∷ []
names_by sign (name ∷ rest) = parts.Named name ∷ mark sign ∷ names_by sign rest

-- a list of tokens spells these things one behind the other, where S says what spells one
pub data Each {A : Type 0} (S : Toks → A → Type 0) : Toks → List A → Type 0 where
  none : Each S [] []
  some : {ts xs ys : Toks} {a : A} {all : List A} → S xs a → Each S ys all → ts ≡ xs ++ ys → Each S ts (a ∷ all)

abbrev pub register_word : RegisterWord → TokenPart
register_word registers.Register = word keywords.Register
register_word registers.ProgramCounter = word keywords.ProgramCounter
register_word registers.ControlRegister = word keywords.ControlRegister

abbrev pub memory_word : MemoryWord → TokenPart
memory_word memories.Memory = word keywords.Memory
memory_word memories.DataMemory = word keywords.DataMemory
memory_word memories.ProgramMemory = word keywords.ProgramMemory

-- a number in square brackets and a semicolon: the base isn't kept
abbrev pub SpellsDepth : Toks → ℕ → Type 0
SpellsDepth ts depth = (base : Base) × (ts ≡ mark signs.OpenSquare ∷ parts.Number depth base ∷ mark signs.CloseSquare ∷ mark signs.Semicolon ∷ [])

-- `type name ;` for each field
abbrev pub field_tokens : List (Shape × List ℕ) → Toks
field_tokens [] = []
field_tokens ((shape, name) ∷ rest) = parts.TypeWord shape ∷ parts.Named name ∷ mark signs.Semicolon ∷ field_tokens rest

-- a semicolon that may be absent
abbrev pub IsOptional : Sign → Toks → Type 0
IsOptional sign ts = (ts ≡ []) ⊎ (ts ≡ mark sign ∷ [])

abbrev pub SpellsResource : Toks → ResourceTree → Type 0
SpellsResource ts (descriptions.Register kind shape name None) = ts ≡ register_word kind ∷ parts.TypeWord shape ∷ parts.Named name ∷ mark signs.Semicolon ∷ []
SpellsResource ts (descriptions.Register kind shape name (Some depth)) = (xs : Toks) × SpellsDepth xs depth × (ts ≡ register_word kind ∷ parts.TypeWord shape ∷ parts.Named name ∷ xs)
SpellsResource ts (descriptions.Clocked kind shape name) = ts ≡ word keywords.Clocked ∷ register_word kind ∷ parts.TypeWord shape ∷ parts.Named name ∷ mark signs.Semicolon ∷ []
SpellsResource ts (descriptions.Memory kind shape name depth) = (xs : Toks) × SpellsDepth xs depth × (ts ≡ memory_word kind ∷ parts.TypeWord shape ∷ parts.Named name ∷ xs)
SpellsResource ts (descriptions.Pin shape name) = ts ≡ word keywords.Pin ∷ parts.TypeWord shape ∷ parts.Named name ∷ mark signs.Semicolon ∷ []
SpellsResource ts (descriptions.Pipeline name stages) = (xs : Toks) × IsOptional signs.Semicolon xs × (stages ≢ [])
    × (ts ≡ word keywords.Pipeline ∷ parts.Named name ∷ mark signs.Equal ∷ mark signs.OpenBrace ∷ (names_by signs.Semicolon stages ++ (xs ++ mark signs.CloseBrace ∷ mark signs.Semicolon ∷ [])))
SpellsResource ts (descriptions.Fields pipe fields) = (xs : Toks) × IsOptional signs.Semicolon xs
    × (ts ≡ word keywords.PipelineRegister ∷ word keywords.In ∷ parts.Named pipe ∷ mark signs.OpenBrace ∷ (field_tokens fields ++ (mark signs.CloseBrace ∷ xs)))

-- `name` for an instance of its own name, else `name = operation`
abbrev pub SpellsInstance : Toks → List ℕ × List ℕ → Type 0
SpellsInstance ts (name, operation) = (ts ≡ parts.Named name ∷ mark signs.Equal ∷ parts.Named operation ∷ []) ⊎ ((name ≡ operation) × (ts ≡ parts.Named name ∷ []))

-- one or more instances with commas between them
pub data SpellsInstances : Toks → List (List ℕ × List ℕ) → Type 0 where
  one : {ts : Toks} {a : List ℕ × List ℕ} → SpellsInstance ts a → SpellsInstances ts (a ∷ [])
  more : {ts xs ys : Toks} {a : List ℕ × List ℕ} {all : List (List ℕ × List ℕ)} → SpellsInstance xs a → SpellsInstances ys all → ts ≡ xs ++ (mark signs.Comma ∷ ys) → SpellsInstances ts (a ∷ all)

abbrev pub SpellsDeclare : Toks → DeclareTree → Type 0
SpellsDeclare ts (descriptions.Group names alternatives) = (names ≢ []) × (alternatives ≢ [])
    × (ts ≡ word keywords.Group ∷ (names_by signs.Comma names ++ (mark signs.Equal ∷ mark signs.OpenBrace ∷ (names_by signs.OrOr alternatives ++ mark signs.CloseBrace ∷ mark signs.Semicolon ∷ []))))
SpellsDeclare ts (descriptions.Instance names) = (xs : Toks) × SpellsInstances xs names × (ts ≡ word keywords.Instance ∷ (xs ++ mark signs.Semicolon ∷ []))
SpellsDeclare ts (descriptions.Label names) = (names ≢ []) × (ts ≡ word keywords.Label ∷ (names_by signs.Comma names ++ mark signs.Semicolon ∷ []))
SpellsDeclare ts (descriptions.Reference names) = (names ≢ []) × (ts ≡ word keywords.Reference ∷ (names_by signs.Comma names ++ mark signs.Semicolon ∷ []))

-- digits, or one digit that stands from 1 to 65,535 times
abbrev pub SpellsBits : Toks → Pattern → Type 0
SpellsBits ts pattern = (ts ≡ parts.Pattern pattern.digits ∷ []) × (pattern.times ≡ None)
    ⊎ (times : ℕ) × (base : Base) × (pattern.times ≡ Some times) × (length pattern.digits ≡ 1) × (1 ≤ times) × (times ≤ 65535)
    × (ts ≡ parts.Pattern pattern.digits ∷ mark signs.OpenSquare ∷ parts.Number times base ∷ mark signs.CloseSquare ∷ [])

abbrev pub SpellsCodingItem : Toks → CodingItem → Type 0
SpellsCodingItem ts (codings.Bits pattern) = SpellsBits ts pattern
SpellsCodingItem ts (codings.Field name pattern) = (xs : Toks) × SpellsBits xs pattern × (ts ≡ parts.Named name ∷ mark signs.Equal ∷ xs)
SpellsCodingItem ts (codings.Child name) = ts ≡ parts.Named name ∷ []

-- the place of a root: a field of the boundary before, or a register
abbrev pub SpellsRootPlace : Toks → ExprTree → Type 0
SpellsRootPlace ts (expressions.Input field) = ts ≡ word keywords.In ∷ mark signs.Dot ∷ parts.Named field ∷ []
SpellsRootPlace ts (expressions.Named name) = ts ≡ parts.Named name ∷ []
SpellsRootPlace ts _ = ⊥

abbrev pub SpellsCoding : Toks → CodingTree → Type 0
SpellsCoding ts (descriptions.Root place group) = (xs : Toks) × SpellsRootPlace xs place × (ts ≡ xs ++ (mark signs.EqualEqual ∷ parts.Named group ∷ []))
SpellsCoding ts (descriptions.Items items) = (items ≢ []) × Each SpellsCodingItem ts items

abbrev pub format_sign : Format → Sign
format_sign formats.Decimal = signs.DecimalFormat
format_sign formats.SignedDecimal = signs.SignedFormat
format_sign formats.Hexadecimal = signs.HexadecimalFormat

abbrev pub syntax_part_tokens : SyntaxPart → Toks
syntax_part_tokens (syntaxes.Literal text) = parts.Text text ∷ []
syntax_part_tokens (syntaxes.Number label format) = parts.Named label ∷ mark signs.Equal ∷ mark (format_sign format) ∷ []
syntax_part_tokens (syntaxes.Child name) = parts.Named name ∷ []

abbrev pub joint_tokens : Bool → Toks
joint_tokens true = mark signs.Tilde ∷ []
joint_tokens false = []

-- the elements behind the first one
abbrev pub syntax_tokens : List SyntaxItem → Toks
syntax_tokens [] = []
syntax_tokens (item ∷ rest) = joint_tokens item.joined ++ (syntax_part_tokens item.part ++ syntax_tokens rest)

-- there is a first element, and it isn't joined to anything
abbrev pub IsSyntax : List SyntaxItem → Type 0
IsSyntax [] = ⊥
IsSyntax (item ∷ rest) = item.joined ≡ false

-- items of an activation with commas between them, or none
mutual
  pub data SpellsAct : Toks → ActTree → Type 0 where
    start : {name : List ℕ} → SpellsAct (parts.Named name ∷ []) (activations.Start name)
    choose : {ts xs ys : Toks} {test : ExprTree} {all : ActTrees} → SpellsExpr 0 xs test → SpellsActs ys all
        → ts ≡ word keywords.If ∷ mark signs.OpenRound ∷ (xs ++ (mark signs.CloseRound ∷ mark signs.OpenBrace ∷ (ys ++ mark signs.CloseBrace ∷ []))) → SpellsAct ts (activations.Choose test all)
    otherwise : {ts xs ys zs : Toks} {test : ExprTree} {all others : ActTrees} → SpellsExpr 0 xs test → SpellsActs ys all → SpellsActs zs others
        → ts ≡ word keywords.If ∷ mark signs.OpenRound ∷ (xs ++ (mark signs.CloseRound ∷ mark signs.OpenBrace ∷ (ys ++ (mark signs.CloseBrace ∷ word keywords.Else
        ∷ mark signs.OpenBrace ∷ (zs ++ mark signs.CloseBrace ∷ []))))) → SpellsAct ts (activations.ChooseElse test all others)

  pub data SpellsActs : Toks → ActTrees → Type 0 where
    none : SpellsActs [] activations.End
    one : {ts : Toks} {a : ActTree} → SpellsAct ts a → SpellsActs ts (activations.Then a activations.End)
    more : {ts xs ys : Toks} {a b : ActTree} {all : ActTrees} → SpellsAct xs a → SpellsActs ys (activations.Then b all) → ts ≡ xs ++ (mark signs.Comma ∷ ys)
        → SpellsActs ts (activations.Then a (activations.Then b all))

abbrev pub is_brace : TokenPart → Bool
is_brace (parts.Sign signs.OpenBrace) = true
is_brace (parts.Sign signs.CloseBrace) = true
is_brace _ = false

-- any tokens in which braces are balanced
pub data IsBalanced : Toks → Type 0 where
  none : IsBalanced []
  token : {t : TokenPart} {ts : Toks} → is_brace t ≡ false → IsBalanced ts → IsBalanced (t ∷ ts)
  block : {ts xs ys : Toks} → IsBalanced xs → IsBalanced ys → ts ≡ mark signs.OpenBrace ∷ (xs ++ (mark signs.CloseBrace ∷ ys)) → IsBalanced ts

abbrev pub braced : Keyword → Toks → Toks
braced keyword ts = word keyword ∷ mark signs.OpenBrace ∷ (ts ++ mark signs.CloseBrace ∷ [])

abbrev pub SpellsSection : Toks → SectionTree → Type 0
SpellsSection ts (descriptions.Declares declares) = (xs : Toks) × Each SpellsDeclare xs declares × (ts ≡ braced keywords.Declare xs)
SpellsSection ts (descriptions.Coding part) = (xs : Toks) × SpellsCoding xs part × (ts ≡ braced keywords.Coding xs)
SpellsSection ts (descriptions.Syntax items) = IsSyntax items × (ts ≡ braced keywords.Syntax (syntax_tokens items))
SpellsSection ts (descriptions.Behavior statements) = (xs : Toks) × SpellsStmts xs statements × (ts ≡ braced keywords.Behavior xs)
SpellsSection ts (descriptions.Expression e) = (xs : Toks) × SpellsExpr 0 xs e × (ts ≡ braced keywords.Expression xs)
SpellsSection ts (descriptions.Activation acts) = (xs : Toks) × SpellsActs xs acts × (ts ≡ braced keywords.Activation xs)

-- the sections of an operation; a SEMANTICS section leaves nothing
pub data SpellsSections : Toks → List SectionTree → Type 0 where
  none : SpellsSections [] []
  semantics : {ts ys : Toks} {all : List SectionTree} (xs : Toks) → IsBalanced xs → SpellsSections ys all → ts ≡ braced keywords.Semantics xs ++ ys → SpellsSections ts all
  some : {ts ys : Toks} {a : SectionTree} {all : List SectionTree} (xs : Toks) → SpellsSection xs a → SpellsSections ys all → ts ≡ xs ++ ys → SpellsSections ts (a ∷ all)

abbrev pub alias_tokens : Bool → Toks
alias_tokens true = word keywords.Alias ∷ []
alias_tokens false = []

abbrev pub stage_tokens : Option (List ℕ × List ℕ) → Toks
stage_tokens None = []
stage_tokens (Some (pipe, stage)) = word keywords.In ∷ parts.Named pipe ∷ mark signs.Dot ∷ parts.Named stage ∷ []

abbrev pub SpellsOperation : Toks → OperationTree → Type 0
SpellsOperation ts o = (xs : Toks) × SpellsSections xs o.sections
    × (ts ≡ alias_tokens o.alias ++ (word keywords.Operation ∷ parts.Named o.name ∷ (stage_tokens o.stage ++ (mark signs.OpenBrace ∷ (xs ++ mark signs.CloseBrace ∷ [])))))

-- the tokens spell the description
pub record SpellsDescription (ts : Toks) (d : DescriptionTree) : Type 0 where
  pub resource_part : Toks
  pub operation_part : Toks
  pub spells_resources : Each SpellsResource resource_part d.resources
  pub spells_operations : Each SpellsOperation operation_part d.operations
  pub whole : ts ≡ braced keywords.Resource resource_part ++ operation_part
