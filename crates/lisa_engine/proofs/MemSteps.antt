-- One edge of the engine in memory, forth and back.
use Rattle.std.proofs.Common.{◌≡◌, ℕ, zero, suc, ◌+◌, ◌^◌, ◌%◌, ◌<◌, List, [], ◌∷◌, length, refl, sym, ap, ◌∙◌, subst, arith, get_or, set, fold, ⊎_elim}
use Rattle.std.proofs.lemmas.List.{set-set, set-get_or, length-set, get_or-set_other}
use Rattle.std.proofs.lemmas.Bool.{cases_eq}
use Rattle.std.proofs.lemmas.Grind.{get_or-set_at}
use Rattle.lisa_engine.specs.State.{State}
use Rattle.lisa_engine.specs.Shape.{IsShaped, IsFitting, AreEntries, IsWidth, HaveWidths}
use Rattle.lisa_engine.specs.Touches.{Tracks, IsPlaced, TakesBack, put_back}
use Rattle.lisa_engine.specs.Machines.{machine_of}
use Rattle.lisa_engine.specs.MemStates.{mem_items, mem_arrays, mem_pins, mem_first, mem_next, mem_defined}
use Rattle.lisa_engine.specs.declared.parts.Item.{Item}
use Rattle.lisa_engine.specs.declared.parts.ArrayItem.{ArrayItem}
use Rattle.lisa_engine.specs.declared.parts.Touch.{Touch}
use Rattle.lisa_engine.proofs.Journal.{entries_before, taken_back, taken_shaped}

any_item : Item
any_item = record { name = []; width = 0 }

any_array : ArrayItem
any_array = record { name = []; width = 0; depth = 0 }

pub count_small : {values cells : List ℕ} → IsShaped mem_items mem_arrays (record { items = values; cells = cells ∷ [] }) → get_or values 0 0 < 256
count_small shape = shape.values.within 0 any_item (omega arith)

pub depth_four : {values cells : List ℕ} → IsShaped mem_items mem_arrays (record { items = values; cells = cells ∷ [] }) → length cells ≡ 4
depth_four shape = shape.cells.depths 0 any_array (omega arith)

pub cell_small : {values cells : List ℕ} (i : ℕ) → IsShaped mem_items mem_arrays (record { items = values; cells = cells ∷ [] }) → i < 4 → get_or cells i 0 < 256
cell_small {cells = cells} i shape within = shape.cells.within 0 i any_array (omega arith) (omega (arith, depth_four shape))

pub pin_small : {pins : List Item} {values : List ℕ} → pins ≡ mem_pins → IsFitting pins values → get_or values 0 0 < 16
pin_small {values = values} is fits = (subst (λ pins. IsFitting pins values) is fits).within 0 any_item (omega arith)

pub pin_there : {pins : List Item} (values : List ℕ) → pins ≡ mem_pins → IsFitting pins values → length values ≡ 1
pin_there values is fits = (subst (λ pins. IsFitting pins values) is fits).count

within_set : (cells : List ℕ) (i j value : ℕ) → value < 256 → get_or cells j 0 < 256 → j < length cells → get_or (set cells i value) j 0 < 256
within_set cells i j value small was within = ⊎_elim
    (λ e. rw (get_or-set_at cells i j value 0 e (omega arith)) small)
    (λ ne. rw (get_or-set_other cells i j value 0 ne) was)
    (cases_eq j i)

pub shaped_next : {values cells : List ℕ} (i count pin : ℕ) → IsShaped mem_items mem_arrays (record { items = values; cells = cells ∷ [] })
    → count < 256 → pin < 16 → IsShaped mem_items mem_arrays (record { items = count ∷ pin ∷ []; cells = set cells i pin ∷ [] })
shaped_next {cells = cells} i count pin shape small low = record {
  values = record { count = refl; within = values };
  cells = record { count = refl; depths = depths; within = within };
}
  where
    values : (k : ℕ) (item : Item) → k < 2 → get_or (count ∷ pin ∷ []) k 0 < 2 ^ (get_or mem_items k item).width
    values zero item within = small
    values (suc zero) item within = low
    values (suc (suc k)) item within = absurd (omega arith)

    depths : (k : ℕ) (array : ArrayItem) → k < 1 → length (get_or (set cells i pin ∷ []) k []) ≡ (get_or mem_arrays k array).depth
    depths zero array here = length-set cells i pin ∙ depth_four shape
    depths (suc k) array here = absurd (omega arith)

    within : (k j : ℕ) (array : ArrayItem) → k < 1 → j < length (get_or (set cells i pin ∷ []) k []) → get_or (get_or (set cells i pin ∷ []) k []) j 0 < 2 ^ (get_or mem_arrays k array).width
    within zero j array here there =
        let in_cells : j < length cells = omega (arith, length-set cells i pin, there) in
        within_set cells i j pin (omega arith) (cell_small j shape (omega (arith, depth_four shape, in_cells))) in_cells
    within (suc k) j array here there = absurd (omega arith)

pub tracks_edge : (arrays : List ArrayItem) (cells : List ℕ) (i count pin : ℕ) → arrays ≡ mem_arrays → i < 4 → count < 256 → get_or cells i 0 < 256
    → Tracks arrays (cells ∷ []) (set cells i pin ∷ []) (record { array = 0; index = i; before = get_or cells i 0 } ∷ record { array = 0; index = i; before = count } ∷ [])
tracks_edge arrays cells i count pin is within small was =
    subst (λ arrays. Tracks arrays (cells ∷ []) (set cells i pin ∷ []) (record { array = 0; index = i; before = get_or cells i 0 } ∷ record { array = 0; index = i; before = count } ∷ [])) (sym is)
    (record { places = places; back = back })
  where
    placed : (before : ℕ) → before < 256 → IsPlaced mem_arrays (record { array = 0; index = i; before = before })
    placed before small = record { array = omega arith; index = λ item. within; value = λ item. small }

    places : (k : ℕ) (d : Touch) → k < 2 → IsPlaced mem_arrays (get_or (record { array = 0; index = i; before = get_or cells i 0 } ∷ record { array = 0; index = i; before = count } ∷ []) k d)
    places zero d here = placed (get_or cells i 0) was
    places (suc zero) d here = placed count small
    places (suc (suc k)) d here = absurd (omega arith)

    back : set (set (set cells i pin) i count) i (get_or cells i 0) ∷ [] ≡ cells ∷ []
    back = ap (λ cs. cs ∷ []) (set-set (set cells i pin) i count (get_or cells i 0) ∙ set-set cells i pin (get_or cells i 0) ∙ set-get_or cells i 0)

depth_at : (k : ℕ) → k < 1 → (get_or mem_arrays k any_array).depth ≡ 4
depth_at zero within = refl
depth_at (suc k) within = absurd (omega arith)

pub mem_index : (touch : Touch) → IsPlaced mem_arrays touch → touch.index < 4
mem_index touch placed = omega (arith, placed.index any_array, depth_at touch.array placed.array)

-- ---- the shape of every state that the definition gives

next_shaped : (values : List ℕ) (rows : List (List ℕ)) (entry : List ℕ) → IsShaped mem_items mem_arrays (record { items = values; cells = rows }) → IsFitting mem_pins entry
    → IsShaped mem_items mem_arrays (mem_next (record { items = values; cells = rows }) entry)
next_shaped values [] entry shape fit = absurd (omega (arith, shape.cells.count))
next_shaped values (cells ∷ []) entry shape fit = shaped_next (get_or values 0 0 % 4) ((get_or values 0 0 + 1) % 256) (get_or entry 0 0) shape (omega arith) (pin_small refl fit)
next_shaped values (cells ∷ more ∷ rest) entry shape fit = absurd (omega (arith, shape.cells.count))

first_shaped : IsShaped mem_items mem_arrays mem_first
first_shaped = record {
  values = record { count = refl; within = values };
  cells = record { count = refl; depths = depths; within = within };
}
  where
    values : (k : ℕ) (item : Item) → k < 2 → get_or mem_first.items k 0 < 2 ^ (get_or mem_items k item).width
    values zero item within = omega arith
    values (suc zero) item within = omega arith
    values (suc (suc k)) item within = absurd (omega arith)

    depths : (k : ℕ) (array : ArrayItem) → k < 1 → length (get_or mem_first.cells k []) ≡ (get_or mem_arrays k array).depth
    depths zero array here = refl
    depths (suc k) array here = absurd (omega arith)

    within : (k j : ℕ) (array : ArrayItem) → k < 1 → j < length (get_or mem_first.cells k []) → get_or (get_or mem_first.cells k []) j 0 < 2 ^ (get_or mem_arrays k array).width
    within zero zero array here there = omega arith
    within zero (suc zero) array here there = omega arith
    within zero (suc (suc zero)) array here there = omega arith
    within zero (suc (suc (suc zero))) array here there = omega arith
    within zero (suc (suc (suc (suc j)))) array here there = absurd (omega arith)
    within (suc k) j array here there = absurd (omega arith)

shaped_from : (state : State) (l : List (List ℕ)) → IsShaped mem_items mem_arrays state → AreEntries mem_pins l → IsShaped mem_items mem_arrays (fold mem_next state l)
shaped_from state [] shape entries = shape
shaped_from state (entry ∷ l) shape entries =
    shaped_from (mem_next state entry) l (next_shaped state.items state.cells entry shape (entries 0 entry (omega arith))) (λ k d within. entries (suc k) d (omega arith))

pub mem_shapes : {items : List Item} {arrays : List ArrayItem} {pins : List Item} → items ≡ mem_items → arrays ≡ mem_arrays → pins ≡ mem_pins
    → (l : List (List ℕ)) → AreEntries pins l → IsShaped items arrays (mem_defined l)
mem_shapes {items = items} is_items is_arrays is_pins l entries =
    subst (λ arrays. IsShaped items arrays (mem_defined l)) (sym is_arrays)
    (subst (λ items. IsShaped items mem_arrays (mem_defined l)) (sym is_items)
    (shaped_from mem_first l first_shaped (subst (λ pins. AreEntries pins l) is_pins entries)))

-- two values, one by one
two_values : (values : List ℕ) → length values ≡ 2 → get_or values 0 0 ∷ get_or values 1 0 ∷ [] ≡ values
two_values [] long = absurd (omega (arith, long))
two_values (a ∷ []) long = absurd (omega (arith, long))
two_values (a ∷ b ∷ []) long = refl
two_values (a ∷ b ∷ c ∷ rest) long = absurd (omega (arith, long))

-- an edge taken back
module _ {pins items : List Item} {arrays : List ArrayItem} {present : State} {given cells : List ℕ} {touches : List Touch} {l : List (List ℕ)} {entry : List ℕ}
    (shapes : (l : List (List ℕ)) → AreEntries pins l → IsShaped items arrays (mem_defined l)) (is_items : items ≡ mem_items) (is_arrays : arrays ≡ mem_arrays)
    (is_cells : cells ∷ [] ≡ put_back touches present.cells) (t : TakesBack (machine_of pins items arrays mem_defined) present given touches l entry) where
  pub given_two : length given ≡ 2
  given_two = (taken_shaped shapes t).values.count ∙ ap length is_items

  pub mem_back : record { items = get_or given 0 0 ∷ get_or given 1 0 ∷ []; cells = cells ∷ [] } ≡ mem_defined l
  mem_back = (λ i. record { items = two_values given given_two i; cells = is_cells i }) ∙ sym (taken_back t)

  pub mem_back_shaped : IsShaped mem_items mem_arrays (record { items = get_or given 0 0 ∷ get_or given 1 0 ∷ []; cells = cells ∷ [] })
  mem_back_shaped =
      subst (IsShaped mem_items mem_arrays) (sym mem_back)
      (subst (λ items. IsShaped items mem_arrays (mem_defined l)) is_items (subst (λ arrays. IsShaped items arrays (mem_defined l)) is_arrays (shapes l (entries_before pins l entry t.entries))))

pub mem_sizes : {items : List Item} {arrays : List ArrayItem} {pins : List Item} → items ≡ mem_items → arrays ≡ mem_arrays → pins ≡ mem_pins → HaveWidths items arrays pins
mem_sizes is_items is_arrays is_pins = record {
  of_items = subst (λ items. (k : ℕ) (item : Item) → k < length items → IsWidth (get_or items k item).width) (sym is_items) of_items;
  of_arrays = subst (λ arrays. (k : ℕ) (array : ArrayItem) → k < length arrays → IsWidth (get_or arrays k array).width) (sym is_arrays) of_arrays;
  of_pins = subst (λ pins. (k : ℕ) (item : Item) → k < length pins → IsWidth (get_or pins k item).width) (sym is_pins) of_pins;
}
  where
    of_items : (k : ℕ) (item : Item) → k < 2 → IsWidth (get_or mem_items k item).width
    of_items zero item within = (omega arith, omega arith)
    of_items (suc zero) item within = (omega arith, omega arith)
    of_items (suc (suc k)) item within = absurd (omega arith)

    of_arrays : (k : ℕ) (array : ArrayItem) → k < 1 → IsWidth (get_or mem_arrays k array).width
    of_arrays zero array within = (omega arith, omega arith)
    of_arrays (suc k) array within = absurd (omega arith)

    of_pins : (k : ℕ) (item : Item) → k < 1 → IsWidth (get_or mem_pins k item).width
    of_pins zero item within = (omega arith, omega arith)
    of_pins (suc k) item within = absurd (omega arith)
