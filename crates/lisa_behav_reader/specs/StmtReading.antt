-- Reading statements from left to right.
use Rattle.std.specs.Prelude.{ℕ, zero, suc, ◌+◌, ◌-◌, ◌*◌, Bool, true, false, List, [], ◌∷◌, length, codes, Option, Some, None, if◌then◌else◌}
use Rattle.std.specs.Str.{bytes_eq}
use Rattle.lisa_tree.specs.declared.tokens.Keyword.TheVariants as keywords
use Rattle.lisa_tree.specs.declared.tokens.Shape.{Shape}
use Rattle.lisa_tree.specs.declared.tokens.Sign.TheVariants as signs
use Rattle.lisa_tree.specs.declared.tokens.TokenPart.TheVariants as parts
use Rattle.lisa_tree.specs.Expressions as expressions
use Rattle.lisa_tree.specs.Expressions.{ExprTree}
use Rattle.lisa_tree.specs.Statements as statements
use Rattle.lisa_tree.specs.Statements.{HeadTree, StmtTree, StmtTrees}
use Rattle.lisa_tree.specs.Grammar.{Toks}
use Rattle.lisa_words.specs.FixEach.{fix_each}
use Rattle.lisa_words.specs.Steps.{◌>>=◌}
use Rattle.lisa_behav_reader.specs.Past.{past_of}
use Rattle.lisa_behav_reader.specs.Reading as expr_reading
use Rattle.lisa_behav_reader.specs.Reading.{reads, whole, name_of}

-- a statement, or all up to a `}` or the end
pub data Want : Type 0 where
  One : Want
  Many : Want

pub record Task : Type 0 where
  pub want : Want
  pub budget : ℕ
  pub tokens : Toks

abbrev pub Kind : Want → Type 0
Kind One = StmtTree
Kind Many = StmtTrees

abbrev pub Out : Task → Type 0
Out t = Option (Kind t.want × Toks)

abbrev pub one : ℕ → Toks → Task
one n ts = record { want = One; budget = n; tokens = ts }

abbrev pub many : ℕ → Toks → Task
many n ts = record { want = Many; budget = n; tokens = ts }

abbrev pub Reader : Type 0
Reader = (t : Task) → Out t

-- a statement and the tokens behind it
abbrev pub Answer : Type 0
Answer = Option (StmtTree × Toks)

abbrev pub expr : ℕ → Toks → Option (ExprTree × Toks)
expr n ts = reads (whole n ts)

abbrev pub ends : Toks → Bool
ends [] = true
ends (parts.Sign signs.CloseBrace ∷ ts) = true
ends _ = false

-- `= e ;` behind a place
unfoldable pub assign_of : ExprTree → ℕ → Toks → Answer
assign_of place n ts = past_of signs.Equal ts >>= λ a. expr (n - 1) a >>= λ v. past_of signs.Semicolon v.1 >>= λ rest. Some (statements.Assign place v.0, rest)

-- behind `name [`
unfoldable pub element_of : List ℕ → ℕ → Toks → Answer
element_of name n ts = expr (n - 2) ts >>= λ i. past_of signs.CloseSquare i.1 >>= λ rest. assign_of (expressions.Element name i.0) n rest

-- `( ) ;`
unfoldable pub call_end_of : Toks → Option Toks
call_end_of ts = past_of signs.OpenRound ts >>= λ a. past_of signs.CloseRound a >>= λ b. past_of signs.Semicolon b

abbrev pub pipe_call : List ℕ → List ℕ → Toks → Answer
pipe_call pipe word ts =
    if bytes_eq word (codes "execute") then Some (statements.Execute pipe, ts)
    else (if bytes_eq word (codes "shift") then Some (statements.Shift pipe, ts) else None)

abbrev pub stage_call : List ℕ → List ℕ → List ℕ → Toks → Answer
stage_call pipe stage word ts =
    if bytes_eq word (codes "stall") then Some (statements.Stall pipe stage, ts)
    else (if bytes_eq word (codes "flush") then Some (statements.Flush pipe stage, ts) else None)

-- behind `pipe . name .`
unfoldable pub stage_of : List ℕ → List ℕ → Toks → Answer
stage_of pipe stage ts = name_of ts >>= λ word. call_end_of word.1 >>= λ rest. stage_call pipe stage word.0 rest

-- behind `pipe . name`
unfoldable pub control_of : List ℕ → List ℕ → Toks → Answer
control_of pipe name (parts.Sign signs.Dot ∷ ts) = stage_of pipe name ts
control_of pipe name ts = call_end_of ts >>= λ rest. pipe_call pipe name rest

-- behind `pipe .`
unfoldable pub method_of : List ℕ → Toks → Answer
method_of pipe ts = name_of ts >>= λ name. control_of pipe name.0 name.1

-- behind `child (`
unfoldable pub child_of : List ℕ → Toks → Answer
child_of name ts = past_of signs.CloseRound ts >>= λ a. past_of signs.Semicolon a >>= λ rest. Some (statements.Call name, rest)

-- behind a name
unfoldable pub named_of : List ℕ → ℕ → Toks → Answer
named_of name n (parts.Sign signs.OpenSquare ∷ ts) = element_of name n ts
named_of name n (parts.Sign signs.Dot ∷ ts) = method_of name ts
named_of name n (parts.Sign signs.OpenRound ∷ ts) = child_of name ts
named_of name n ts = assign_of (expressions.Named name) n ts

-- behind OUT
unfoldable pub output_of : ℕ → Toks → Answer
output_of n ts = past_of signs.Dot ts >>= λ a. name_of a >>= λ field. assign_of (expressions.Output field.0) n field.1

-- behind a type and a name
unfoldable pub initial_of : Shape → List ℕ → ℕ → Toks → Answer
initial_of shape name n ts = past_of signs.Equal ts >>= λ a. expr (n - 1) a >>= λ v. past_of signs.Semicolon v.1 >>= λ rest. Some (statements.Local shape name (Some v.0), rest)

abbrev pub value_of : Shape → List ℕ → ℕ → Toks → Answer
value_of shape name n (parts.Sign signs.Semicolon ∷ ts) = Some (statements.Local shape name None, ts)
value_of shape name n ts = initial_of shape name n ts

-- behind a type
unfoldable pub local_of : Shape → ℕ → Toks → Answer
local_of shape n ts = name_of ts >>= λ name. value_of shape name.0 n name.1

-- `( e )`
unfoldable pub test_of : ℕ → Toks → Option (ExprTree × Toks)
test_of n ts = past_of signs.OpenRound ts >>= λ a. expr n a >>= λ e. past_of signs.CloseRound e.1 >>= λ rest. Some (e.0, rest)

-- `name = e`
unfoldable pub set_of : ℕ → Toks → Option ((List ℕ × ExprTree) × Toks)
set_of n ts = name_of ts >>= λ name. past_of signs.Equal name.1 >>= λ a. expr n a >>= λ v. Some ((name.0, v.0), v.1)

abbrev pub head : Option Shape → List ℕ × ExprTree → ExprTree → List ℕ × ExprTree → HeadTree
head shape first test step = record { shape = shape; name = first.0; first = first.1; test = test; next = step.0; step = step.1 }

unfoldable pub head_from : Option Shape → ℕ → Toks → Option (HeadTree × Toks)
head_from shape n ts =
    set_of n ts >>= λ first. past_of signs.Semicolon first.1 >>= λ a. expr n a >>= λ test. past_of signs.Semicolon test.1 >>= λ b. set_of n b >>= λ step. Some (head shape first.0 test.0 step.0, step.1)

unfoldable pub head_of : ℕ → Toks → Option (HeadTree × Toks)
head_of n (parts.TypeWord shape ∷ ts) = head_from (Some shape) n ts
head_of n ts = head_from None n ts

unfoldable pub block_of : Reader → ℕ → Toks → Answer
block_of rec n ts = rec (many (n - 1) ts) >>= λ all. past_of signs.CloseBrace all.1 >>= λ rest. Some (statements.Block all.0, rest)

-- behind an `if` and its statement
unfoldable pub else_of : Reader → ExprTree → StmtTree → ℕ → Toks → Answer
else_of rec e s n (parts.Reserved keywords.Else ∷ ts) = rec (one (n - 1) ts) >>= λ u. Some (statements.IfElse e s u.0, u.1)
else_of rec e s n ts = Some (statements.If e s, ts)

unfoldable pub if_of : Reader → ℕ → Toks → Answer
if_of rec n ts = test_of (n - 1) ts >>= λ e. rec (one (n - 1) e.1) >>= λ s. else_of rec e.0 s.0 n s.1

unfoldable pub while_of : Reader → ℕ → Toks → Answer
while_of rec n ts = test_of (n - 1) ts >>= λ e. rec (one (n - 1) e.1) >>= λ s. Some (statements.While e.0 s.0, s.1)

unfoldable pub for_of : Reader → ℕ → Toks → Answer
for_of rec n ts = past_of signs.OpenRound ts >>= λ a. head_of (n - 1) a >>= λ h. past_of signs.CloseRound h.1 >>= λ rest. rec (one (n - 1) rest) >>= λ s. Some (statements.For h.0 s.0, s.1)

unfoldable pub one_of : Reader → ℕ → Toks → Answer
one_of rec zero ts = None
one_of rec (suc n) (parts.Sign signs.Semicolon ∷ ts) = Some (statements.Empty, ts)
one_of rec (suc n) (parts.Sign signs.OpenBrace ∷ ts) = block_of rec (suc n) ts
one_of rec (suc n) (parts.TypeWord shape ∷ ts) = local_of shape (suc n) ts
one_of rec (suc n) (parts.Named name ∷ ts) = named_of name (suc n) ts
one_of rec (suc n) (parts.Reserved keywords.Out ∷ ts) = output_of (suc n) ts
one_of rec (suc n) (parts.Reserved keywords.If ∷ ts) = if_of rec (suc n) ts
one_of rec (suc n) (parts.Reserved keywords.While ∷ ts) = while_of rec (suc n) ts
one_of rec (suc n) (parts.Reserved keywords.For ∷ ts) = for_of rec (suc n) ts
one_of rec (suc n) _ = None

abbrev pub next_of : Reader → ℕ → Toks → Option (StmtTrees × Toks)
next_of rec n ts = rec (one n ts) >>= λ s. rec (many n s.1) >>= λ all. Some (statements.Then s.0 all.0, all.1)

unfoldable pub many_of : Reader → ℕ → Toks → Option (StmtTrees × Toks)
many_of rec n ts = if ends ts then Some (statements.End, ts) else next_of rec n ts

abbrev pub want_of : Reader → (w : Want) → ℕ → Toks → Option (Kind w × Toks)
want_of rec One n ts = one_of rec n ts
want_of rec Many n ts = many_of rec n ts

abbrev pub step : Reader → Reader
step rec t = want_of rec t.want t.budget t.tokens

abbrev pub want_size : Want → ℕ
want_size One = 0
want_size Many = 1

abbrev pub size : Task → ℕ
size t = 2 * length t.tokens + want_size t.want

abbrev pub fails : Reader
fails t = None

unfoldable pub stmts : Reader
stmts t = fix_each {Out = Out} size fails step t
