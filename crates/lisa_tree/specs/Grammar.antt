-- Which tokens spell which expression and which statement: the grammar, rule by rule, on whole lists of tokens.
use Rattle.std.specs.Prelude.{◌≡◌, ℕ, suc, ◌+◌, ◌*◌, ◌-◌, ◌^◌, ◌<◌, Bool, true, false, List, [], ◌∷◌, ◌++◌, codes, Option, Some, None, fold, ◌==◌, ◌||◌}
use Rattle.std.specs.List.{list_all}
use Rattle.lisa_tree.specs.declared.tokens.Base.{Base}
use Rattle.lisa_tree.specs.declared.tokens.Base.TheVariants as bases
use Rattle.lisa_tree.specs.declared.tokens.Keyword.TheVariants as keywords
use Rattle.lisa_tree.specs.declared.tokens.Shape.{Shape}
use Rattle.lisa_tree.specs.declared.tokens.Sign.{Sign}
use Rattle.lisa_tree.specs.declared.tokens.Sign.TheVariants as signs
use Rattle.lisa_tree.specs.declared.tokens.TokenPart.{TokenPart}
use Rattle.lisa_tree.specs.declared.tokens.TokenPart.TheVariants as parts
use Rattle.lisa_words.specs.declared.binary.Operator.{Operator}
use Rattle.lisa_tree.specs.Operators.{sign_of}
use Rattle.lisa_words.specs.Operators.{level_of}
use Rattle.lisa_tree.specs.Expressions as expressions
use Rattle.lisa_tree.specs.Expressions.{ExprTree}
use Rattle.lisa_tree.specs.Statements as statements
use Rattle.lisa_tree.specs.Statements.{HeadTree, StmtTree, StmtTrees}

-- the tokens without their places
abbrev pub Toks : Type 0
Toks = List TokenPart

abbrev pub mark : Sign → TokenPart
mark sign = parts.Sign sign

-- the digits of a pattern that has no x, and the number that they stand for
abbrev pub is_binary : List ℕ → Bool
is_binary digits = list_all (λ (d : ℕ). d == 48 || d == 49) digits

abbrev pub binary_value : List ℕ → ℕ
binary_value digits = fold (λ (n d : ℕ). 2 * n + (d - 48)) 0 digits

-- A list of tokens spells an expression at a level: level 0 is a whole expression, 1 to 10 are those of the operators, 11 is a
-- unary expression, and 12 a primary one.
pub data SpellsExpr : ℕ → Toks → ExprTree → Type 0 where
  number : {value : ℕ} {base : Base} → SpellsExpr 12 (parts.Number value base ∷ []) (expressions.Number value base)
  pattern : {digits : List ℕ} → is_binary digits ≡ true → binary_value digits < 2 ^ 64 → SpellsExpr 12 (parts.Pattern digits ∷ []) (expressions.Number (binary_value digits) bases.Binary)
  named : {name : List ℕ} → SpellsExpr 12 (parts.Named name ∷ []) (expressions.Named name)
  element : {name : List ℕ} {ts xs : Toks} {index : ExprTree} → SpellsExpr 0 xs index
      → ts ≡ parts.Named name ∷ mark signs.OpenSquare ∷ (xs ++ mark signs.CloseSquare ∷ []) → SpellsExpr 12 ts (expressions.Element name index)
  input : {field : List ℕ} → SpellsExpr 12 (parts.Reserved keywords.In ∷ mark signs.Dot ∷ parts.Named field ∷ []) (expressions.Input field)
  decoded : SpellsExpr 12 (parts.Reserved keywords.Decoded ∷ []) expressions.Decoded
  boundary : {pipe before after field : List ℕ}
      → SpellsExpr 12 (parts.Reserved keywords.PipelineRegister ∷ mark signs.OpenRound ∷ parts.Named pipe ∷ mark signs.Comma ∷ parts.Named before ∷ mark signs.Slash ∷ parts.Named after
      ∷ mark signs.CloseRound ∷ mark signs.Dot ∷ parts.Named field ∷ []) (expressions.Boundary pipe before after field)
  inside : {ts xs : Toks} {a : ExprTree} → SpellsExpr 0 xs a → ts ≡ mark signs.OpenRound ∷ (xs ++ mark signs.CloseRound ∷ []) → SpellsExpr 12 ts a
  complement : {xs : Toks} {a : ExprTree} → SpellsExpr 11 xs a → SpellsExpr 11 (mark signs.Tilde ∷ xs) (expressions.Complement a)
  negate : {xs : Toks} {a : ExprTree} → SpellsExpr 11 xs a → SpellsExpr 11 (mark signs.Exclamation ∷ xs) (expressions.Negate a)
  cast : {shape : Shape} {xs : Toks} {a : ExprTree} → SpellsExpr 11 xs a
      → SpellsExpr 11 (mark signs.OpenRound ∷ parts.TypeWord shape ∷ mark signs.CloseRound ∷ xs) (expressions.Cast shape a)
  -- operators group to the left
  two : (o : Operator) {level : ℕ} {ts xs ys : Toks} {a b : ExprTree} → level ≡ level_of o → SpellsExpr level xs a → SpellsExpr (suc level) ys b
      → ts ≡ xs ++ (mark (sign_of o) ∷ ys) → SpellsExpr level ts (expressions.Two o a b)
  choose : {ts xs ys zs : Toks} {c a b : ExprTree} → SpellsExpr 1 xs c → SpellsExpr 0 ys a → SpellsExpr 0 zs b
      → ts ≡ xs ++ (mark signs.Question ∷ (ys ++ (mark signs.Colon ∷ zs))) → SpellsExpr 0 ts (expressions.Choose c a b)
  -- what is spelled at a level is spelled at each looser one
  tighter : {level : ℕ} {ts : Toks} {a : ExprTree} → SpellsExpr (suc level) ts a → SpellsExpr level ts a

-- a place that is assigned
pub data SpellsPlace : Toks → ExprTree → Type 0 where
  named : {name : List ℕ} → SpellsPlace (parts.Named name ∷ []) (expressions.Named name)
  element : {name : List ℕ} {ts xs : Toks} {index : ExprTree} → SpellsExpr 0 xs index
      → ts ≡ parts.Named name ∷ mark signs.OpenSquare ∷ (xs ++ mark signs.CloseSquare ∷ []) → SpellsPlace ts (expressions.Element name index)
  output : {field : List ℕ} → SpellsPlace (parts.Reserved keywords.Out ∷ mark signs.Dot ∷ parts.Named field ∷ []) (expressions.Output field)

-- a type that may be absent
abbrev pub shape_tokens : Option Shape → Toks
shape_tokens None = []
shape_tokens (Some shape) = parts.TypeWord shape ∷ []

-- `[type] name = e; e; name = e`
pub record SpellsHead (ts : Toks) (head : HeadTree) : Type 0 where
  pub first : Toks
  pub test : Toks
  pub step : Toks
  pub spells_first : SpellsExpr 0 first head.first
  pub spells_test : SpellsExpr 0 test head.test
  pub spells_step : SpellsExpr 0 step head.step
  pub whole : ts ≡ shape_tokens head.shape ++ (parts.Named head.name ∷ mark signs.Equal ∷ (first ++ (mark signs.Semicolon ∷ (test ++ (mark signs.Semicolon
      ∷ parts.Named head.next ∷ mark signs.Equal ∷ step)))))

abbrev pub call_end : Toks
call_end = mark signs.OpenRound ∷ mark signs.CloseRound ∷ mark signs.Semicolon ∷ []

-- A statement is closed, or it is open: it ends in an `if` that could still take an `else`. An `else` belongs to the nearest `if`
-- without one, so the statement between an `if` and its `else` is closed.
mutual
  pub data SpellsStmt : Bool → Toks → StmtTree → Type 0 where
    empty : SpellsStmt true (mark signs.Semicolon ∷ []) statements.Empty
    block : {ts xs : Toks} {all : StmtTrees} → SpellsStmts xs all → ts ≡ mark signs.OpenBrace ∷ (xs ++ mark signs.CloseBrace ∷ []) → SpellsStmt true ts (statements.Block all)
    bare : {shape : Shape} {name : List ℕ} → SpellsStmt true (parts.TypeWord shape ∷ parts.Named name ∷ mark signs.Semicolon ∷ []) (statements.Local shape name None)
    local : {shape : Shape} {name : List ℕ} {ts xs : Toks} {value : ExprTree} → SpellsExpr 0 xs value
        → ts ≡ parts.TypeWord shape ∷ parts.Named name ∷ mark signs.Equal ∷ (xs ++ mark signs.Semicolon ∷ []) → SpellsStmt true ts (statements.Local shape name (Some value))
    assign : {ts xs ys : Toks} {place value : ExprTree} → SpellsPlace xs place → SpellsExpr 0 ys value
        → ts ≡ xs ++ (mark signs.Equal ∷ (ys ++ mark signs.Semicolon ∷ [])) → SpellsStmt true ts (statements.Assign place value)
    when : {closed : Bool} {ts xs ys : Toks} {test : ExprTree} {s : StmtTree} → SpellsExpr 0 xs test → SpellsStmt closed ys s
        → ts ≡ parts.Reserved keywords.If ∷ mark signs.OpenRound ∷ (xs ++ (mark signs.CloseRound ∷ ys)) → SpellsStmt false ts (statements.If test s)
    choose : {closed : Bool} {ts xs ys zs : Toks} {test : ExprTree} {s u : StmtTree} → SpellsExpr 0 xs test → SpellsStmt true ys s → SpellsStmt closed zs u
        → ts ≡ parts.Reserved keywords.If ∷ mark signs.OpenRound ∷ (xs ++ (mark signs.CloseRound ∷ (ys ++ (parts.Reserved keywords.Else ∷ zs)))) → SpellsStmt closed ts (statements.IfElse test s u)
    while : {closed : Bool} {ts xs ys : Toks} {test : ExprTree} {s : StmtTree} → SpellsExpr 0 xs test → SpellsStmt closed ys s
        → ts ≡ parts.Reserved keywords.While ∷ mark signs.OpenRound ∷ (xs ++ (mark signs.CloseRound ∷ ys)) → SpellsStmt closed ts (statements.While test s)
    for : {closed : Bool} {ts xs ys : Toks} {head : HeadTree} {s : StmtTree} → SpellsHead xs head → SpellsStmt closed ys s
        → ts ≡ parts.Reserved keywords.For ∷ mark signs.OpenRound ∷ (xs ++ (mark signs.CloseRound ∷ ys)) → SpellsStmt closed ts (statements.For head s)
    call : {name : List ℕ} → SpellsStmt true (parts.Named name ∷ call_end) (statements.Call name)
    stall : {pipe stage : List ℕ} → SpellsStmt true (parts.Named pipe ∷ mark signs.Dot ∷ parts.Named stage ∷ mark signs.Dot ∷ parts.Named (codes "stall") ∷ call_end) (statements.Stall pipe stage)
    flush : {pipe stage : List ℕ} → SpellsStmt true (parts.Named pipe ∷ mark signs.Dot ∷ parts.Named stage ∷ mark signs.Dot ∷ parts.Named (codes "flush") ∷ call_end) (statements.Flush pipe stage)
    execute : {pipe : List ℕ} → SpellsStmt true (parts.Named pipe ∷ mark signs.Dot ∷ parts.Named (codes "execute") ∷ call_end) (statements.Execute pipe)
    shift : {pipe : List ℕ} → SpellsStmt true (parts.Named pipe ∷ mark signs.Dot ∷ parts.Named (codes "shift") ∷ call_end) (statements.Shift pipe)

  pub data SpellsStmts : Toks → StmtTrees → Type 0 where
    none : SpellsStmts [] statements.End
    some : {closed : Bool} {ts xs ys : Toks} {s : StmtTree} {all : StmtTrees} → SpellsStmt closed xs s → SpellsStmts ys all → ts ≡ xs ++ ys → SpellsStmts ts (statements.Then s all)
