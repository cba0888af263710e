-- States from their parts.
use Rattle.std.specs.Prelude.{ℕ, List, ◌≡◌}
use Rattle.std.proofs.Common.{subst, sym}
use Rattle.lisa_engine.specs.State.{State}
use Rattle.lisa_engine.specs.Shape.{IsShaped}
use Rattle.lisa_engine.specs.declared.parts.Item.{Item}
use Rattle.lisa_engine.specs.declared.parts.ArrayItem.{ArrayItem}

abbrev pub state_of : (items : List ℕ) → (cells : List (List ℕ)) → State
state_of items cells = record { items = items; cells = cells }

-- the shape of a state, by other items and arrays that are the same
pub shaped_as : {items known : List Item} {arrays given : List ArrayItem} {state : State} → items ≡ known → arrays ≡ given → IsShaped known given state → IsShaped items arrays state
shaped_as {items = items} {given = given} {state = state} is_items is_arrays shape =
    subst (λ arrays. IsShaped items arrays state) (sym is_arrays) (subst (λ items. IsShaped items given state) (sym is_items) shape)
