-- The turns of a loop, and the values of its variable.
use Rattle.std.specs.Prelude.{◌≡◌, ◌<◌, ◌≤◌, ◌↔◌, ◌+◌, ◌*◌, ◌^◌, ℕ, Some}
use Rattle.lisa_tree.specs.declared.tokens.Shape.{Shape}
use Rattle.lisa_tree.specs.Statements.{HeadTree}
use Rattle.description_places.specs.Literals.{literal}
use Rattle.lisa_machine.specs.shape_checks.declared.bounds.Bounds.{Bounds}
use Rattle.lisa_machine.specs.shape_checks.Bounds.{bounds_of, limit_of, step_of, turns, number_bits}

-- `for (type i = first; i < limit; i = i + step)`: the three are literals, the step is at least 1, the step's variable is the loop's own,
-- and the type has each value that the loop gives it
pub record HoldsValues (head : HeadTree) : Type 0 where
  pub shape : Shape
  pub typed : head.shape ≡ Some shape
  pub bounds : Bounds
  pub are : bounds_of head ≡ Some bounds
  pub next : head.next ≡ head.name
  pub first : literal head.first ≡ Some bounds.first
  pub limit : limit_of head.name head.test ≡ Some bounds.limit
  pub step : step_of head.name head.step ≡ Some bounds.step
  pub onward : 0 < bounds.step
  pub each : (k : ℕ) → k < turns bounds → bounds.first + k * bounds.step < 2 ^ number_bits shape.kind shape.width

-- The loop has one turn for each of the numbers first, first + step, .. that are below the limit, and no other. They are at most 256, and
-- the type has each of them.
pub record TurnsBelow (head : HeadTree) : Type 0 where
  pub shape : Shape
  pub typed : head.shape ≡ Some shape
  pub bounds : Bounds
  pub are : bounds_of head ≡ Some bounds
  pub exact : (k : ℕ) → (k < turns bounds) ↔ (bounds.first + k * bounds.step < bounds.limit)
  pub few : turns bounds ≤ 256
  pub held : (k : ℕ) → bounds.first + k * bounds.step < bounds.limit → bounds.first + k * bounds.step < 2 ^ number_bits shape.kind shape.width
