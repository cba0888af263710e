-- Reading an expression from left to right.
use Rattle.std.specs.Prelude.{◌≡◌, ℕ, zero, suc, ◌+◌, ◌-◌, ◌*◌, ◌^◌, List, [], ◌∷◌, length, drop, Option, Some, None, nat_lt, ◌&&◌, if◌then◌else◌}
use Rattle.lisa_tree.specs.declared.tokens.Base.TheVariants as bases
use Rattle.lisa_tree.specs.declared.tokens.Keyword.TheVariants as keywords
use Rattle.lisa_tree.specs.declared.tokens.Sign.{Sign}
use Rattle.lisa_tree.specs.declared.tokens.Sign.TheVariants as signs
use Rattle.lisa_tree.specs.declared.tokens.TokenPart.TheVariants as parts
use Rattle.lisa_words.specs.declared.binary.Operator.{Operator}
use Rattle.lisa_words.specs.declared.binary.Operator.TheVariants as operators
use Rattle.lisa_tree.specs.Expressions as expressions
use Rattle.lisa_tree.specs.Expressions.{ExprTree, expr_depth}
use Rattle.lisa_tree.specs.Grammar.{Toks, is_binary, binary_value}
use Rattle.operator_levels.specs.Stacks.{Stack, pushed, finished}
use Rattle.lisa_words.specs.Fix.{fix}
use Rattle.lisa_words.specs.Steps.{◌>>=◌}
use Rattle.lisa_behav_reader.specs.Past.{past_of}

-- what is read next: a whole expression, operands behind those that wait, or one operand
pub data Want : Type 0 where
  Whole : Want
  Operands : Stack ExprTree → Want
  Unary : Want

-- what is wanted, how deep it may be, and the tokens from there on
pub record Task : Type 0 where
  pub want : Want
  pub budget : ℕ
  pub tokens : Toks

-- the tree and the tokens behind it
abbrev pub Answer : Type 0
Answer = Option (ExprTree × Toks)

abbrev pub Reader : Type 0
Reader = Task → Answer

abbrev pub whole : ℕ → Toks → Task
whole n ts = record { want = Whole; budget = n; tokens = ts }

abbrev pub operands : Stack ExprTree → ℕ → Toks → Task
operands stack n ts = record { want = Operands stack; budget = n; tokens = ts }

abbrev pub unary : ℕ → Toks → Task
unary n ts = record { want = Unary; budget = n; tokens = ts }

-- the operator that a sign is, and the one at the front
abbrev pub operator_of : Sign → Option Operator
operator_of signs.OrOr = Some operators.OneTrue
operator_of signs.AndAnd = Some operators.BothTrue
operator_of signs.Or = Some operators.Or
operator_of signs.Caret = Some operators.Xor
operator_of signs.And = Some operators.And
operator_of signs.EqualEqual = Some operators.Equal
operator_of signs.NotEqual = Some operators.Unequal
operator_of signs.Less = Some operators.Less
operator_of signs.LessEqual = Some operators.LessEqual
operator_of signs.Greater = Some operators.Greater
operator_of signs.GreaterEqual = Some operators.GreaterEqual
operator_of signs.ShiftLeft = Some operators.Left
operator_of signs.ShiftRight = Some operators.Right
operator_of signs.Plus = Some operators.Add
operator_of signs.Minus = Some operators.Sub
operator_of signs.Star = Some operators.Mul
operator_of _ = None

abbrev pub operator_at : Toks → Option Operator
operator_at (parts.Sign sign ∷ ts) = operator_of sign
operator_at _ = None

-- the branches behind a test and its `?`
unfoldable pub branches_of : Reader → ExprTree → ℕ → Toks → Answer
branches_of rec c n ts =
    if nat_lt (expr_depth c) n
    then (rec (whole (n - 1) ts) >>= λ a. past_of signs.Colon a.1 >>= λ rest. rec (whole (n - 1) rest) >>= λ b. Some (expressions.Choose c a.0 b.0, b.1))
    else None

abbrev pub choice_of : Reader → ExprTree → ℕ → Toks → Answer
choice_of rec c n (parts.Sign signs.Question ∷ ts) = branches_of rec c n ts
choice_of rec c n ts = Some (c, ts)

unfoldable pub whole_of : Reader → ℕ → Toks → Answer
whole_of rec n ts = rec (operands [] n ts) >>= λ a. choice_of rec a.0 n a.1

abbrev pub push : ℕ → Stack ExprTree → ExprTree → Operator → Option (Stack ExprTree)
push n stack t o = pushed expressions.Two expr_depth n stack t o

abbrev pub finish : ℕ → Stack ExprTree → ExprTree → Option ExprTree
finish n stack t = finished expressions.Two expr_depth n stack t

-- an operand, and what stands behind it
abbrev pub go_on : Option Operator → Reader → Stack ExprTree → ℕ → ExprTree → Toks → Answer
go_on None rec stack n t ts = finish n stack t >>= λ x. Some (x, ts)
go_on (Some o) rec stack n t ts = push n stack t o >>= λ more. rec (operands more n (drop 1 ts))

unfoldable pub behind_of : Reader → Stack ExprTree → ℕ → ExprTree → Toks → Answer
behind_of rec stack n t ts = go_on (operator_at ts) rec stack n t ts

unfoldable pub operands_of : Reader → Stack ExprTree → ℕ → Toks → Answer
operands_of rec stack n ts = rec (unary n ts) >>= λ a. behind_of rec stack n a.0 a.1

-- behind a name
unfoldable pub named_of : Reader → List ℕ → ℕ → Toks → Answer
named_of rec name n (parts.Sign signs.OpenSquare ∷ ts) = rec (whole (n - 1) ts) >>= λ i. past_of signs.CloseSquare i.1 >>= λ rest. Some (expressions.Element name i.0, rest)
named_of rec name n ts = Some (expressions.Named name, ts)

-- a name
abbrev pub name_of : Toks → Option (List ℕ × Toks)
name_of (parts.Named name ∷ ts) = Some (name, ts)
name_of _ = None

-- behind IN
unfoldable pub input_of : Toks → Answer
input_of (parts.Sign signs.Dot ∷ parts.Named field ∷ ts) = Some (expressions.Input field, ts)
input_of _ = None

-- behind PIPELINE_REGISTER
unfoldable pub boundary_of : Toks → Answer
boundary_of ts =
    past_of signs.OpenRound ts >>= λ a. name_of a >>= λ pipe. past_of signs.Comma pipe.1 >>= λ b. name_of b >>= λ before. past_of signs.Slash before.1 >>= λ c. name_of c >>= λ after.
    past_of signs.CloseRound after.1 >>= λ d. past_of signs.Dot d >>= λ f. name_of f >>= λ field. Some (expressions.Boundary pipe.0 before.0 after.0 field.0, field.1)

-- behind a `(`
unfoldable pub inside_of : Reader → ℕ → Toks → Answer
inside_of rec n ts = rec (whole n ts) >>= λ a. past_of signs.CloseRound a.1 >>= λ rest. Some (a.0, rest)

unfoldable pub pattern_of : List ℕ → Toks → Answer
pattern_of digits ts = if is_binary digits && nat_lt (binary_value digits) (2 ^ 64) then Some (expressions.Number (binary_value digits) bases.Binary, ts) else None

unfoldable pub primary_of : Reader → ℕ → Toks → Answer
primary_of rec n (parts.Number value base ∷ ts) = Some (expressions.Number value base, ts)
primary_of rec n (parts.Pattern digits ∷ ts) = pattern_of digits ts
primary_of rec n (parts.Named name ∷ ts) = named_of rec name n ts
primary_of rec n (parts.Reserved keywords.In ∷ ts) = input_of ts
primary_of rec n (parts.Reserved keywords.Decoded ∷ ts) = Some (expressions.Decoded, ts)
primary_of rec n (parts.Reserved keywords.PipelineRegister ∷ ts) = boundary_of ts
primary_of rec n (parts.Sign signs.OpenRound ∷ ts) = inside_of rec n ts
primary_of rec n _ = None

unfoldable pub unary_of : Reader → ℕ → Toks → Answer
unary_of rec zero ts = None
unary_of rec (suc n) (parts.Sign signs.Tilde ∷ ts) = rec (unary n ts) >>= λ a. Some (expressions.Complement a.0, a.1)
unary_of rec (suc n) (parts.Sign signs.Exclamation ∷ ts) = rec (unary n ts) >>= λ a. Some (expressions.Negate a.0, a.1)
unary_of rec (suc n) (parts.Sign signs.OpenRound ∷ parts.TypeWord shape ∷ parts.Sign signs.CloseRound ∷ ts) = rec (unary n ts) >>= λ a. Some (expressions.Cast shape a.0, a.1)
unary_of rec (suc n) ts = primary_of rec (suc n) ts

abbrev pub want_of : Reader → Want → ℕ → Toks → Answer
want_of rec Whole n ts = whole_of rec n ts
want_of rec (Operands stack) n ts = operands_of rec stack n ts
want_of rec Unary n ts = unary_of rec n ts

abbrev pub step : Reader → Task → Answer
step rec t = want_of rec t.want t.budget t.tokens

abbrev pub want_size : Want → ℕ
want_size Whole = 2
want_size (Operands stack) = 1
want_size Unary = 0

abbrev pub size : Task → ℕ
size t = 4 * length t.tokens + want_size t.want

unfoldable pub reads : Reader
reads t = fix size None step t
