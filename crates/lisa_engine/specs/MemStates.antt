-- The engine in memory: what it has, and its states.
use Rattle.std.specs.Prelude.{ℕ, ◌+◌, ◌%◌, ◌<◌, ◌≡◌, ◌≢◌, List, [], ◌∷◌, codes, slice_index, slice_index_or, fold, AllPairs}
use Rattle.std.proofs.Common.{zero, suc, arith, sym, subst}
use Rattle.lisa_engine.specs.State.{State}
use Rattle.lisa_engine.specs.Shape.{IsShaped, HaveDistinctNames}
use Rattle.lisa_engine.specs.Touches.{set_cell}
use Rattle.lisa_engine.specs.Machines.{Machine, machine_of}
use Rattle.lisa_engine.specs.declared.parts.Item.{Item}
use Rattle.lisa_engine.specs.declared.parts.ArrayItem.{ArrayItem}

-- a count of edges, and the pin's value in the last one
abbrev pub mem_items : List Item
mem_items = record { name = codes "count"; width = 8 } ∷ record { name = codes "last"; width = 4 } ∷ []

abbrev pub mem_arrays : List ArrayItem
mem_arrays = record { name = codes "M"; width = 8; depth = 4 } ∷ []

abbrev pub mem_pins : List Item
mem_pins = record { name = codes "in"; width = 4 } ∷ []

abbrev pub mem_first : State
mem_first = record { items = 0 ∷ 0 ∷ []; cells = (0 ∷ 0 ∷ 0 ∷ 0 ∷ []) ∷ [] }

-- an edge counts, keeps the pin's value, and writes it to the next cell, after the last one to the first again
abbrev pub mem_next : State → List ℕ → State
mem_next state entry = record {
  items = (slice_index state.items 0 + 1) % 256 ∷ slice_index entry 0 ∷ [];
  cells = set_cell state.cells 0 (slice_index state.items 0 % 4) (slice_index entry 0);
}

abbrev pub mem_defined : List (List ℕ) → State
mem_defined entries = fold mem_next mem_first entries

abbrev pub mem_machine : Machine
mem_machine = machine_of mem_pins mem_items mem_arrays mem_defined

pub mem_shaped : {items : List Item} {arrays : List ArrayItem} {state : State}
    → items ≡ mem_items → arrays ≡ mem_arrays → IsShaped mem_items mem_arrays state → IsShaped items arrays state
mem_shaped {arrays = arrays} {state = state} is_items is_arrays shape =
    subst (λ items. IsShaped items arrays state) (sym is_items) (subst (λ arrays. IsShaped mem_items arrays state) (sym is_arrays) shape)

two_names : (d : Item) (i j : ℕ) → i < j → j < 2 → (slice_index_or mem_items i d).name ≢ (slice_index_or mem_items j d).name
two_names d zero (suc zero) less within = λ e. cc
two_names d zero zero less within = absurd (omega arith)
two_names d zero (suc (suc j)) less within = absurd (omega arith)
two_names d (suc i) zero less within = absurd (omega arith)
two_names d (suc i) (suc j) less within = absurd (omega arith)

pub mem_named : {items : List Item} {arrays : List ArrayItem} {pins : List Item}
    → items ≡ mem_items → arrays ≡ mem_arrays → pins ≡ mem_pins → HaveDistinctNames items arrays pins
mem_named is_items is_arrays is_pins = record {
  of_items = subst (λ items. AllPairs (λ a b. a.name ≢ b.name) items) (sym is_items) (λ i j d. two_names d i j);
  of_arrays = subst (λ items. AllPairs (λ a b. a.name ≢ b.name) items) (sym is_arrays) (λ i j d less within. absurd (omega arith));
  of_pins = subst (λ items. AllPairs (λ a b. a.name ≢ b.name) items) (sym is_pins) (λ i j d less within. absurd (omega arith));
}
