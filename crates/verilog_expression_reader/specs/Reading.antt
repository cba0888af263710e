-- Reading an expression with its places from left to right.
use Rattle.std.specs.Prelude.{ℕ, zero, suc, ◌+◌, ◌-◌, ◌*◌, List, [], ◌∷◌, length, drop, Option, Some, None, nat_lt, if◌then◌else◌}
use Rattle.lisa_words.specs.declared.binary.Operator.{Operator}
use Rattle.lisa_words.specs.declared.binary.Operator.TheVariants as operators
use Rattle.operator_levels.specs.Stacks.{Stack, pushed, finished}
use Rattle.lisa_words.specs.Fix.{fix}
use Rattle.lisa_words.specs.Steps.{◌>>=◌}
use Rattle.verilog_text.specs.declared.expressions.VOne.{VOne}
use Rattle.verilog_text.specs.declared.expressions.VOne.TheVariants as ones
use Rattle.verilog_text.specs.declared.tokens.VSign.{VSign}
use Rattle.verilog_text.specs.declared.tokens.VSign.TheVariants as signs
use Rattle.verilog_text.specs.Tokens as tokens
use Rattle.verilog_text.specs.Trees.{v_depth}
use Rattle.verilog_places.specs.Trees as trees
use Rattle.verilog_places.specs.Trees.{PlacedTree, PlacedTrees, bare, moved, two, choose}
use Rattle.verilog_places.specs.Spelling.{PlacedToks}
use Rattle.verilog_expression_reader.specs.Past.{past_of}

-- what is read next: a whole expression, operands behind those that wait, one operand, one without a `~` or `!` in front, or the parts
-- of a concatenation behind these
pub data Want : Type 0 where
  Whole : Want
  Operands : Stack PlacedTree → Want
  Unary : Want
  Primary : Want
  Parts : PlacedTrees → Want

-- how deep an expression is
abbrev pub depth : PlacedTree → ℕ
depth t = v_depth (bare t)

-- what is wanted, how deep it may be, and the tokens from there on
pub record Task : Type 0 where
  pub want : Want
  pub budget : ℕ
  pub tokens : PlacedToks

-- the tree and the tokens behind it
abbrev pub Answer : Type 0
Answer = Option (PlacedTree × PlacedToks)

abbrev pub Reader : Type 0
Reader = Task → Answer

abbrev pub whole : ℕ → PlacedToks → Task
whole n ts = record { want = Whole; budget = n; tokens = ts }

abbrev pub operands : Stack PlacedTree → ℕ → PlacedToks → Task
operands stack n ts = record { want = Operands stack; budget = n; tokens = ts }

abbrev pub unary : ℕ → PlacedToks → Task
unary n ts = record { want = Unary; budget = n; tokens = ts }

abbrev pub primary : ℕ → PlacedToks → Task
primary n ts = record { want = Primary; budget = n; tokens = ts }

abbrev pub parts : PlacedTrees → ℕ → PlacedToks → Task
parts front n ts = record { want = Parts front; budget = n; tokens = ts }

-- expressions behind others
abbrev pub all_then : PlacedTrees → PlacedTrees → PlacedTrees
all_then trees.End more = more
all_then (trees.Then e rest) more = trees.Then e (all_then rest more)

-- the operator that a sign is, and the one at the front
abbrev pub operator_of : VSign → Option Operator
operator_of signs.OrOr = Some operators.OneTrue
operator_of signs.AndAnd = Some operators.BothTrue
operator_of signs.Or = Some operators.Or
operator_of signs.Caret = Some operators.Xor
operator_of signs.And = Some operators.And
operator_of signs.EqualEqual = Some operators.Equal
operator_of signs.NotEqual = Some operators.Unequal
operator_of signs.Less = Some operators.Less
operator_of signs.LessEqual = Some operators.LessEqual
operator_of signs.Greater = Some operators.Greater
operator_of signs.GreaterEqual = Some operators.GreaterEqual
operator_of signs.ShiftLeft = Some operators.Left
operator_of signs.ShiftRight = Some operators.Right
operator_of signs.Plus = Some operators.Add
operator_of signs.Minus = Some operators.Sub
operator_of signs.Star = Some operators.Mul
operator_of _ = None

abbrev pub operator_at : PlacedToks → Option Operator
operator_at ((at, tokens.Mark sign) ∷ ts) = operator_of sign
operator_at _ = None

-- the branches behind a test and its `?`
unfoldable pub branches_of : Reader → PlacedTree → ℕ → PlacedToks → Answer
branches_of rec c n ts =
    if nat_lt (depth c) n
    then (rec (whole (n - 1) ts) >>= λ a. past_of signs.Colon a.1 >>= λ rest. rec (whole (n - 1) rest) >>= λ b. Some (choose c a.0 b.0, b.1))
    else None

abbrev pub choice_of : Reader → PlacedTree → ℕ → PlacedToks → Answer
choice_of rec c n ((at, tokens.Mark signs.Question) ∷ ts) = branches_of rec c n ts
choice_of rec c n ts = Some (c, ts)

unfoldable pub whole_of : Reader → ℕ → PlacedToks → Answer
whole_of rec n ts = rec (operands [] n ts) >>= λ a. choice_of rec a.0 n a.1

abbrev pub push : ℕ → Stack PlacedTree → PlacedTree → Operator → Option (Stack PlacedTree)
push n stack t o = pushed two depth n stack t o

abbrev pub finish : ℕ → Stack PlacedTree → PlacedTree → Option PlacedTree
finish n stack t = finished two depth n stack t

-- an operand, and what stands behind it
abbrev pub go_on : Option Operator → Reader → Stack PlacedTree → ℕ → PlacedTree → PlacedToks → Answer
go_on None rec stack n t ts = finish n stack t >>= λ x. Some (x, ts)
go_on (Some o) rec stack n t ts = push n stack t o >>= λ more. rec (operands more n (drop 1 ts))

unfoldable pub behind_of : Reader → Stack PlacedTree → ℕ → PlacedTree → PlacedToks → Answer
behind_of rec stack n t ts = go_on (operator_at ts) rec stack n t ts

unfoldable pub operands_of : Reader → Stack PlacedTree → ℕ → PlacedToks → Answer
operands_of rec stack n ts = rec (unary n ts) >>= λ a. behind_of rec stack n a.0 a.1

-- the bits of a name, behind the number of the highest
unfoldable pub bits_of : (at : ℕ) → List ℕ → (high : ℕ) → PlacedToks → Answer
bits_of at name high ((p, tokens.Mark signs.CloseSquare) ∷ ts) = Some (trees.Bits at name high high, ts)
bits_of at name high ((p, tokens.Mark signs.Colon) ∷ (q, tokens.Plain low digits) ∷ (r, tokens.Mark signs.CloseSquare) ∷ ts) = Some (trees.Bits at name high low, ts)
bits_of at name high _ = None

-- the cell of a name, behind its `[`
unfoldable pub cell_of : Reader → (at : ℕ) → List ℕ → ℕ → PlacedToks → Answer
cell_of rec at name n ts = rec (whole (n - 1) ts) >>= λ i. past_of signs.CloseSquare i.1 >>= λ rest. Some (trees.Cell at name i.0, rest)

abbrev pub index_of : Reader → (at : ℕ) → List ℕ → ℕ → PlacedToks → Answer
index_of rec at name n ((p, tokens.Plain high digits) ∷ ts) = bits_of at name high ts
index_of rec at name n ts = cell_of rec at name n ts

-- behind a name that stands at a place
unfoldable pub named_of : Reader → (at : ℕ) → List ℕ → ℕ → PlacedToks → Answer
named_of rec at name n ((p, tokens.Mark signs.OpenSquare) ∷ ts) = index_of rec at name n ts
named_of rec at name n ts = Some (trees.Named at name, ts)

-- behind a `(`, at which the expression begins
unfoldable pub inside_of : Reader → (at : ℕ) → ℕ → PlacedToks → Answer
inside_of rec at n ts = rec (whole n ts) >>= λ a. past_of signs.CloseRound a.1 >>= λ rest. Some (moved at a.0, rest)

-- a part of a concatenation, and what stands behind it; the concatenation gets its place at the end
abbrev pub more_of : Reader → PlacedTrees → ℕ → PlacedToks → Answer
more_of rec front n ((at, tokens.Mark signs.Comma) ∷ ts) = rec (parts front n ts)
more_of rec front n ts = Some (trees.Join 0 front, ts)

unfoldable pub parts_of : Reader → PlacedTrees → ℕ → PlacedToks → Answer
parts_of rec front n ts = rec (whole n ts) >>= λ a. more_of rec (all_then front (trees.Then a.0 trees.End)) n a.1

-- a concatenation, behind the `{` at which it begins
unfoldable pub join_of : Reader → (at : ℕ) → ℕ → PlacedToks → Answer
join_of rec at n ts = rec (parts trees.End (n - 1) ts) >>= λ a. past_of signs.CloseBrace a.1 >>= λ rest. Some (moved at a.0, rest)

-- a replication, behind its second `{`
unfoldable pub repeat_of : Reader → (at times : ℕ) → ℕ → PlacedToks → Answer
repeat_of rec at times n ts =
    if nat_lt 0 times
    then (rec (whole (n - 1) ts) >>= λ a. past_of signs.CloseBrace a.1 >>= λ rest. past_of signs.CloseBrace rest >>= λ behind. Some (trees.Repeat at times a.0, behind))
    else None

-- behind a `{`
abbrev pub braces_of : Reader → (at : ℕ) → ℕ → PlacedToks → Answer
braces_of rec at n ((p, tokens.Plain times digits) ∷ (q, tokens.Mark signs.OpenBrace) ∷ ts) = repeat_of rec at times n ts
braces_of rec at n ts = join_of rec at n ts

unfoldable pub primary_of : Reader → ℕ → PlacedToks → Answer
primary_of rec zero ts = None
primary_of rec (suc n) ((at, tokens.Sized width value) ∷ ts) = Some (trees.Number at width value, ts)
primary_of rec (suc n) ((at, tokens.Named name) ∷ ts) = named_of rec at name (suc n) ts
primary_of rec (suc n) ((at, tokens.Mark signs.OpenRound) ∷ ts) = inside_of rec at (suc n) ts
primary_of rec (suc n) ((at, tokens.Mark signs.OpenBrace) ∷ ts) = braces_of rec at (suc n) ts
primary_of rec (suc n) _ = None

-- behind a `~` or `!`
abbrev pub one_of : Reader → (at : ℕ) → VOne → ℕ → PlacedToks → Answer
one_of rec at o n ts = rec (primary n ts) >>= λ a. Some (trees.One at o a.0, a.1)

unfoldable pub unary_of : Reader → ℕ → PlacedToks → Answer
unary_of rec zero ts = None
unary_of rec (suc n) ((at, tokens.Mark signs.Tilde) ∷ ts) = one_of rec at ones.Complement n ts
unary_of rec (suc n) ((at, tokens.Mark signs.Exclamation) ∷ ts) = one_of rec at ones.Negate n ts
unary_of rec (suc n) ts = rec (primary (suc n) ts)

abbrev pub want_of : Reader → Want → ℕ → PlacedToks → Answer
want_of rec Whole n ts = whole_of rec n ts
want_of rec (Operands stack) n ts = operands_of rec stack n ts
want_of rec Unary n ts = unary_of rec n ts
want_of rec Primary n ts = primary_of rec n ts
want_of rec (Parts front) n ts = parts_of rec front n ts

abbrev pub step : Reader → Task → Answer
step rec t = want_of rec t.want t.budget t.tokens

abbrev pub want_size : Want → ℕ
want_size (Parts front) = 4
want_size Whole = 3
want_size (Operands stack) = 2
want_size Unary = 1
want_size Primary = 0

abbrev pub size : Task → ℕ
size t = 5 * length t.tokens + want_size t.want

unfoldable pub reads : Reader
reads t = fix size None step t
