-- What `reset` does: a behaviour that reads and assigns registers that are no arrays, and locals.
use Rattle.std.specs.Prelude.{codes, false, ℕ, List, [], map, Option, None, Some, slice_index_or, slice_set}
use Rattle.std.specs.Map.{lookup}
use Rattle.lisa_words.specs.declared.words.Kind.{Kind}
use Rattle.lisa_tree.specs.Expressions as exprs
use Rattle.lisa_tree.specs.Expressions.{ExprTree}
use Rattle.lisa_tree.specs.Statements.{StmtTrees}
use Rattle.lisa_tree.specs.Descriptions as trees
use Rattle.lisa_tree.specs.Descriptions.{ResourceTree, DescriptionTree}
use Rattle.lisa_tree.specs.Same.{same_name}
use Rattle.lisa_tree.specs.Resources.{resource_at}
use Rattle.lisa_tree.specs.Operations.{number_of, behavior_in, sections_at}
use Rattle.typed_values.specs.declared.values.Value.{Value}
use Rattle.typed_values.specs.declared.memories.Memory.{Memory}
use Rattle.typed_values.specs.Words.{TypedWord, typed_word, zero_of, truth}
use Rattle.typed_values.specs.Expressions.{Reader}
use Rattle.typed_values.specs.Effects.{Locals, Doing, local_put, like, effects}

-- the value of each resource, by its number, and the locals by their names
pub record Moment : Type 0 where
  pub registers : List TypedWord
  pub locals : Locals

abbrev pub moment : List TypedWord → Locals → Moment
moment registers locals = record { registers = registers; locals = locals }

-- 0 of a register's type; what is no register counts as a bit
abbrev pub first_value : ResourceTree → TypedWord
first_value (trees.Register word shape name None) = zero_of shape
first_value (trees.Clocked word shape name) = zero_of shape
first_value r = truth false

abbrev pub first_moment : DescriptionTree → Moment
first_moment d = moment (map first_value d.resources) []

-- ---- what is read

abbrev pub register_value : List TypedWord → Option ℕ → TypedWord
register_value registers None = truth false
register_value registers (Some k) = slice_index_or registers k (truth false)

abbrev pub local_or : Option TypedWord → TypedWord → TypedWord
local_or None other = other
local_or (Some v) other = v

-- a local goes before a register
abbrev pub name_value : DescriptionTree → Moment → List ℕ → TypedWord
name_value d m n = local_or (lookup (same_name n) m.locals) (register_value m.registers (resource_at d n))

-- in `reset` nothing else is read
abbrev pub reader : DescriptionTree → Moment → Reader
reader d m = record {
  named = name_value d m;
  element = λ n index. truth false;
  input = λ field. truth false;
  boundary = λ pipe before after field. truth false;
  decoded = truth false;
}

-- ---- what is assigned

abbrev pub with_locals : Locals → Moment → Moment
with_locals locals m = moment m.registers locals

-- a local with its value: a new one goes last
abbrev pub with_local : List ℕ → TypedWord → Moment → Moment
with_local n v m = with_locals (local_put m.locals n v) m

abbrev pub with_register : Option ℕ → (Kind → TypedWord) → Moment → Moment
with_register None given m = m
with_register (Some k) given m = moment (slice_set m.registers k (like (slice_index_or m.registers k (truth false)) given)) m.locals

abbrev pub assigned_name : DescriptionTree → List ℕ → (Kind → TypedWord) → Moment → Option TypedWord → Moment
assigned_name d n given m (Some old) = with_local n (like old given) m
assigned_name d n given m None = with_register (resource_at d n) given m

-- nothing but a name is assigned in `reset`
abbrev pub assigned : DescriptionTree → ExprTree → (Kind → TypedWord) → Moment → Moment
assigned d (exprs.Number v base) given m = m
assigned d (exprs.Named n) given m = assigned_name d n given m (lookup (same_name n) m.locals)
assigned d (exprs.Element n index) given m = m
assigned d (exprs.Input field) given m = m
assigned d (exprs.Output field) given m = m
assigned d (exprs.Boundary pipe before after field) given m = m
assigned d exprs.Decoded given m = m
assigned d (exprs.Cast shape a) given m = m
assigned d (exprs.Complement a) given m = m
assigned d (exprs.Negate a) given m = m
assigned d (exprs.Two operator a b) given m = m
assigned d (exprs.Choose c a b) given m = m

-- ---- the behaviour of `reset`

-- no accepted `reset` calls, stalls or flushes
abbrev pub resetting : DescriptionTree → Doing Moment
resetting d = record {
  reader = reader d;
  put = assigned d;
  call = λ n m. m;
  stall = λ n m. m;
  flush = λ n m. m;
  locals = λ m. m.locals;
  with_locals = with_locals;
}

abbrev pub effect_of : DescriptionTree → Option StmtTrees → Moment → Moment
effect_of d None m = m
effect_of d (Some all) m = effects (resetting d) all m

abbrev pub reset_effect : DescriptionTree → Option ℕ → Moment
reset_effect d None = first_moment d
reset_effect d (Some o) = effect_of d (behavior_in (sections_at d o)) (first_moment d)

-- what stands once `reset` has run, from zeros on
abbrev pub reset_moment : DescriptionTree → Moment
reset_moment d = reset_effect d (number_of d (codes "reset"))

-- the plain moment that the code's memory stands for
abbrev pub moment_of : Memory → Moment
moment_of m = moment (map typed_word m.registers.items) (map (λ (e : List ℕ × Value). (e.0, typed_word e.1)) m.locals.entries.items)
