-- Locals of a behaviour in a step program. On the way to the program: nothing here needs to be trusted.
use Rattle.std.specs.Prelude.{◌≡◌, ◌≢◌, ℕ, ◌+◌, ◌<◌, ◌≤◌, false, List, [], ◌∷◌, ◌++◌, map, length, slice_index, ⊤}
use Rattle.lisa_words.specs.declared.words.Kind.{Kind}
use Rattle.lisa_tree.specs.declared.tokens.Shape.{Shape}
use Rattle.lisa_tree.specs.Same.{same_name}
use Rattle.step_program.specs.Programs.{Program, Temp}
use Rattle.step_program.specs.WellFormed.{IsWidth}
use Rattle.lowered_values.specs.Operands.{Operand, operand_of}

-- the temp that holds a local, and its type
pub record Local : Type 0 where
  pub temp : ℕ
  pub kind : Kind
  pub width : ℕ

-- the locals that are in scope, the latest last
abbrev pub Scope : Type 0
Scope = List (List ℕ × Local)

abbrev pub local_operand : Local → Operand
local_operand l = operand_of l.kind l.width (Temp l.temp)

abbrev pub entered : Scope → List ℕ → Local → Scope
entered scope n l = scope ++ (n, l) ∷ []

-- ---- names with their types

abbrev pub Names : Type 0
Names = List (List ℕ × Shape)

abbrev pub local_shape : Local → Shape
local_shape l = record { kind = l.kind; width = l.width }

abbrev pub names_of : Scope → Names
names_of scope = map (λ entry. (entry.0, local_shape entry.1)) scope

-- no local in scope has the name
abbrev pub IsNew : Names → List ℕ → Type 0
IsNew [] n = ⊤
IsNew (x ∷ xs) n = (same_name n x.0 ≡ false) × IsNew xs n

-- ---- temps

-- the locals have temps of their types from `low` up to `high`, each behind the one before
abbrev pub IsScope : Program → (low high : ℕ) → Scope → Type 0
IsScope p low high [] = low ≤ high
IsScope p low high (x ∷ xs) = (low ≤ x.1.temp) × (x.1.temp < length p.temps) × (slice_index p.temps x.1.temp ≡ x.1.width) × IsWidth x.1.width × IsScope p (x.1.temp + 1) high xs

-- no local in scope has the temp
abbrev pub IsFree : Scope → ℕ → Type 0
IsFree [] temp = ⊤
IsFree (x ∷ xs) temp = (x.1.temp ≢ temp) × IsFree xs temp
