-- What statements do to a moment, where it is known what is read there and what assignments, calls, stalls and flushes do.
use Rattle.std.specs.Prelude.{ℕ, zero, suc, ◌+◌, ◌*◌, List, length, take, Option, None, Some, if◌then◌else◌}
use Rattle.lisa_words.specs.declared.words.Kind.{Kind}
use Rattle.lisa_words.specs.declared.words.Kind.TheVariants as kinds
use Rattle.lisa_tree.specs.declared.tokens.Shape.{Shape}
use Rattle.lisa_tree.specs.Expressions.{ExprTree}
use Rattle.lisa_tree.specs.Statements as stmts
use Rattle.lisa_tree.specs.Statements.{HeadTree, StmtTree, StmtTrees}
use Rattle.description_places.specs.Literals.{literal}
use Rattle.name_tables.specs.NamedValues.{with_value}
use Rattle.shape_checks.specs.declared.bounds.Bounds.{Bounds}
use Rattle.shape_checks.specs.Bounds.{bounds_of, turns}
use Rattle.typed_values.specs.declared.wholes.Whole.{Whole}
use Rattle.typed_values.specs.Words.{TypedWord, typed, typed_word, fitted, as_shape, zero_of, is_zero, number_value}
use Rattle.typed_values.specs.Operators.{operand}
use Rattle.typed_values.specs.Expressions.{Reader, value}

-- ---- what is assigned

-- What is assigned to a place, by the place's kind: a literal that is all of it takes that kind. Given is the number of such a literal.
abbrev pub whole_of : Option ℕ → TypedWord → Kind → TypedWord
whole_of number v kind = operand number None v (typed kind 1 0)

abbrev pub whole : Reader → ExprTree → Kind → TypedWord
whole reader e = whole_of (literal e) (value reader e)

-- the same of what the code assigns
abbrev pub in_kind : Whole → Kind → TypedWord
in_kind w = whole_of w.literal (typed_word w.value)

-- a value as one of the type of another
abbrev pub like : TypedWord → (Kind → TypedWord) → TypedWord
like old given = typed old.kind old.width (fitted (given old.kind) old.width)

-- ---- moments

-- the locals that are in scope, the latest last
abbrev pub Locals : Type 0
Locals = List (List ℕ × TypedWord)

-- what is read at a moment, and what assignments, calls, stalls and flushes do to it
pub record Doing (M : Type 0) : Type 0 where
  pub reader : M → Reader
  -- gives a place a value
  pub put : ExprTree → (Kind → TypedWord) → M → M
  -- by the child's name
  pub call : List ℕ → M → M
  -- by the stage's name
  pub stall : List ℕ → M → M
  pub flush : List ℕ → M → M
  pub locals : M → Locals
  pub with_locals : Locals → M → M

-- a local with its value; a new one goes last
abbrev pub local_put : Locals → List ℕ → TypedWord → Locals
local_put locals n v = with_value locals n v

abbrev pub with_local : {M : Type 0} → Doing M → List ℕ → TypedWord → M → M
with_local doing n v m = doing.with_locals (local_put (doing.locals m) n v) m

-- the locals that a body declares end with it
abbrev pub leave : {M : Type 0} → Doing M → ℕ → M → M
leave doing count m = doing.with_locals (take count (doing.locals m)) m

-- what a local holds first: 0, or what its declaration assigns
abbrev pub first_of : Shape → Reader → Option ExprTree → TypedWord
first_of shape reader None = zero_of shape
first_of shape reader (Some e) = as_shape shape (whole reader e shape.kind)

-- ---- loops

-- the turns of a loop from one on, one for each value of its variable
abbrev pub turned : {M : Type 0} → (ℕ → M → M) → Bounds → ℕ → ℕ → M → M
turned turn b k zero m = m
turned turn b k (suc n) m = turned turn b (k + 1) n (turn (b.first + k * b.step) m)

-- the variable of a loop; its head assigns nothing, so the number is unsigned
abbrev pub counter_value : Option Shape → ℕ → TypedWord
counter_value None bits = number_value kinds.Unsigned bits
counter_value (Some shape) bits = as_shape shape (number_value kinds.Unsigned bits)

abbrev pub with_counter : {M : Type 0} → Doing M → HeadTree → ℕ → M → M
with_counter doing head bits m = with_local doing head.name (counter_value head.shape bits) m

-- one turn; the locals that it declares end with it
abbrev pub loop_turn : {M : Type 0} → Doing M → (M → M) → HeadTree → ℕ → M → M
loop_turn doing body head bits m = leave doing (length (doing.locals m)) (body (with_counter doing head bits m))

abbrev pub all_turns : {M : Type 0} → Doing M → (M → M) → HeadTree → Option Bounds → M → M
all_turns doing body head None m = m
all_turns doing body head (Some b) m = turned (loop_turn doing body head) b 0 (turns b) m

-- a loop, by the effect of its body
unfoldable pub looped : {M : Type 0} → Doing M → (M → M) → HeadTree → M → M
looped doing body head m = all_turns doing body head (bounds_of head) m

-- ---- statements

-- A loop without bound makes no turn; no accepted description has one. `execute` and `shift` change nothing.
abbrev mutual
  pub effect : {M : Type 0} → Doing M → StmtTree → M → M
  effect doing stmts.Empty m = m
  effect doing (stmts.Block all) m = leave doing (length (doing.locals m)) (effects doing all m)
  effect doing (stmts.Local shape n e) m = with_local doing n (first_of shape (doing.reader m) e) m
  effect doing (stmts.Assign target e) m = doing.put target (whole (doing.reader m) e) m
  effect doing (stmts.If test chosen) m = if is_zero (value (doing.reader m) test) then m else leave doing (length (doing.locals m)) (effect doing chosen m)
  effect doing (stmts.IfElse test chosen other) m = leave doing (length (doing.locals m)) (if is_zero (value (doing.reader m) test) then effect doing other m else effect doing chosen m)
  effect doing (stmts.While test body) m = m
  effect doing (stmts.For head body) m = looped doing (effect doing body) head m
  effect doing (stmts.Call n) m = doing.call n m
  effect doing (stmts.Stall pipe stage) m = doing.stall stage m
  effect doing (stmts.Flush pipe stage) m = doing.flush stage m
  effect doing (stmts.Execute pipe) m = m
  effect doing (stmts.Shift pipe) m = m

  -- one after the other
  pub effects : {M : Type 0} → Doing M → StmtTrees → M → M
  effects doing stmts.End m = m
  effects doing (stmts.Then s rest) m = effects doing rest (effect doing s m)
