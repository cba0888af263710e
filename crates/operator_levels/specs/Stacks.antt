-- Operands that wait for what stands behind their operator.
use Rattle.std.specs.Prelude.{◌≡◌, ℕ, List, [], ◌∷◌, map, reverse, Option, Some, None, option_and_then, nat_lt, if◌then◌else◌, Result, Ok, Err}
use Rattle.lisa_words.specs.declared.binary.Operator.{Operator}
use Rattle.lisa_words.specs.Operators.{level_of}
use Rattle.operator_levels.specs.declared.operands.Waiting.{Waiting}
use Rattle.operator_levels.specs.declared.operands.Operands.{Operands}
use Rattle.operator_levels.specs.declared.operands.JoinFault.{JoinFault}
use Rattle.operator_levels.specs.declared.operands.JoinFault.TheVariants as faults

-- The operands that wait, each with the operator behind it, the last one first.
abbrev pub Stack : Type 0 → Type 0
Stack Tree = List (Tree × Operator)

abbrev pub stack_of : {T Tree : Type 0} → (T → Tree) → List (Waiting T) → Stack Tree
stack_of view waiting = map (λ w. (view w.operand, w.operator)) (reverse waiting)

abbrev pub stack_in : {T Tree : Type 0} → (T → Tree) → Operands T → Stack Tree
stack_in view operands = stack_of view operands.waiting.items

-- An operand is joined with those before it whose operators are of this level or tighter ones, from the last one on. None where a tree
-- that is made is deeper than the limit.
abbrev pub joined_before : {Tree : Type 0} → (Operator → Tree → Tree → Tree) → (Tree → ℕ) → ℕ → ℕ → Stack Tree → Tree → Option (Stack Tree × Tree)
joined_before two depth limit level [] t = Some ([], t)
joined_before two depth limit level ((a, o) ∷ rest) t =
    if nat_lt (level_of o) level then Some ((a, o) ∷ rest, t)
    else (if nat_lt limit (depth (two o a t)) then None else joined_before two depth limit level rest (two o a t))

-- an operand with an operator behind it: what waits then
abbrev pub pushed : {Tree : Type 0} → (Operator → Tree → Tree → Tree) → (Tree → ℕ) → ℕ → Stack Tree → Tree → Operator → Option (Stack Tree)
pushed two depth limit stack t o = option_and_then (λ x. Some ((x.1, o) ∷ x.0)) (joined_before two depth limit (level_of o) stack t)

-- the last operand: the tree of all
abbrev pub finished : {Tree : Type 0} → (Operator → Tree → Tree → Tree) → (Tree → ℕ) → ℕ → Stack Tree → Tree → Option Tree
finished two depth limit stack t = option_and_then (λ x. Some x.1) (joined_before two depth limit 1 stack t)

-- an error is want of memory, or a tree would be too deep
abbrev pub JoinFails : {Y : Type 0} → JoinFault → Option Y → Type 0
JoinFails faults.NoMemory joined = Unit {0}
JoinFails faults.TooDeep joined = joined ≡ None

-- what was answered, seen by view, is what joining gives
abbrev pub JoinGives : {X Y : Type 0} → (X → Y) → Result X JoinFault → Option Y → Type 0
JoinGives view (Ok x) joined = joined ≡ Some (view x)
JoinGives view (Err e) joined = JoinFails e joined
