-- The cells with touches put back, cell by cell.
use Rattle.std.proofs.Common.{◌≡◌, ℕ, zero, suc, ◌+◌, ◌<◌, ◌≤◌, Bool, true, false, List, [], ◌∷◌, length, get_or, set, refl, sym, ap, ◌∙◌, subst, arith, ⊎_elim, Option, Some, None}
use Rattle.std.specs.Prelude.{All, find, ◌==◌, ◌&&◌}
use Rattle.std.specs.Option.{option_map_or}
use Rattle.std.proofs.lemmas.Bool.{cases_Bool, cases_eq, and_parts, eqb-true, eqb-false, ne_eqb, eq-eqb, and_from, true≢false, cases_lt}
use Rattle.std.proofs.lemmas.Grind.{get_or-set_at}
use Rattle.std.proofs.lemmas.List.{length-set, get_or-set_other, set_past}
use Rattle.lisa_engine.specs.Shape.{AreCells}
use Rattle.lisa_engine.specs.Touches.{IsPlaced, put_back, set_cell}
use Rattle.lisa_engine.specs.Changes.{is_at, value_before}
use Rattle.lisa_engine.specs.declared.parts.ArrayItem.{ArrayItem}
use Rattle.lisa_engine.specs.declared.parts.Touch.{Touch}

-- a write changes no length
pub set_cell_count : (cells : List (List ℕ)) (array index value : ℕ) → length (set_cell cells array index value) ≡ length cells
set_cell_count cells array index value = length-set cells array (set (get_or cells array []) index value)

pub set_cell_row : (cells : List (List ℕ)) (array index value k : ℕ) → length (get_or (set_cell cells array index value) k []) ≡ length (get_or cells k [])
set_cell_row cells array index value k = ⊎_elim
    (λ e. ⊎_elim
    (λ there. ap length (get_or-set_at cells array k (set (get_or cells array []) index value) [] e there) ∙ length-set (get_or cells array []) index value ∙ ap (λ j. length (get_or cells j [])) (sym e))
    (λ past. ap (λ cs. length (get_or cs k [])) (set_past cells array (set (get_or cells array []) index value) past))
    (cases_lt array (length cells)))
    (λ ne. ap length (get_or-set_other cells array k (set (get_or cells array []) index value) [] ne))
    (cases_eq k array)

pub back_count : (touches : List Touch) (cells : List (List ℕ)) → length (put_back touches cells) ≡ length cells
back_count [] cells = refl
back_count (t ∷ ts) cells = set_cell_count (put_back ts cells) t.array t.index t.before ∙ back_count ts cells

pub back_row : (touches : List Touch) (cells : List (List ℕ)) (k : ℕ) → length (get_or (put_back touches cells) k []) ≡ length (get_or cells k [])
back_row [] cells k = refl
back_row (t ∷ ts) cells k = set_cell_row (put_back ts cells) t.array t.index t.before k ∙ back_row ts cells k

-- the cell that is written, and any other
set_here : (cells : List (List ℕ)) (array index value : ℕ) → array < length cells → index < length (get_or cells array []) → get_or (get_or (set_cell cells array index value) array []) index 0 ≡ value
set_here cells array index value in_cells in_row =
    ap (λ row. get_or row index 0) (get_or-set_at cells array array (set (get_or cells array []) index value) [] refl in_cells) ∙ get_or-set_at (get_or cells array []) index index value 0 refl in_row

set_elsewhere : (cells : List (List ℕ)) (array index value k j : ℕ) → array < length cells → (k ≡ array → j ≡ index → ⊥)
    → get_or (get_or (set_cell cells array index value) k []) j 0 ≡ get_or (get_or cells k []) j 0
set_elsewhere cells array index value k j in_cells other = ⊎_elim
    (λ e. ap (λ row. get_or row j 0) (get_or-set_at cells array k (set (get_or cells array []) index value) [] e in_cells)
    ∙ get_or-set_other (get_or cells array []) index j value 0 (other e) ∙ ap (λ a. get_or (get_or cells a []) j 0) (sym e))
    (λ ne. ap (λ row. get_or row j 0) (get_or-set_other cells array k (set (get_or cells array []) index value) [] ne))
    (cases_eq k array)

-- a touch's place is in the cells
pub record IsIn (cells : List (List ℕ)) (touch : Touch) : Type 0 where
  pub array : touch.array < length cells
  pub index : touch.index < length (get_or cells touch.array [])

pub is_in : {arrays : List ArrayItem} {cells : List (List ℕ)} → AreCells arrays cells → (touch : Touch) → IsPlaced arrays touch → IsIn cells touch
is_in shape touch placed =
    let any : ArrayItem = record { name = []; width = 0; depth = 0 } in
    record { array = omega (arith, placed.array, shape.count); index = omega (arith, placed.index any, shape.depths touch.array any placed.array) }

-- a cell with the touches put back has the value of its first touch, and its own where it has none
pub back_at : (touches : List Touch) (cells : List (List ℕ)) → All (IsIn cells) touches → (k j : ℕ)
    → get_or (get_or (put_back touches cells) k []) j 0 ≡ value_before touches k j (get_or (get_or cells k []) j 0)
back_at [] cells places k j = refl
back_at (t ∷ ts) cells places k j = ⊎_elim
    (λ here. let parts = and_parts (t.array == k) (t.index == j) here in
    let same_k : t.array ≡ k = eqb-true t.array k parts.0 in
    let same_j : t.index ≡ j = eqb-true t.index j parts.1 in
    let now = places 0 t (omega arith) in
    rw here (subst (λ a. get_or (get_or (put_back (t ∷ ts) cells) a []) j 0 ≡ t.before) same_k
    (subst (λ b. get_or (get_or (put_back (t ∷ ts) cells) t.array []) b 0 ≡ t.before) same_j
    (set_here (put_back ts cells) t.array t.index t.before (omega (arith, now.array, back_count ts cells)) (omega (arith, now.index, back_row ts cells t.array))))))
    (λ other. rw other (set_elsewhere (put_back ts cells) t.array t.index t.before k j (omega (arith, (places 0 t (omega arith)).array, back_count ts cells)) (differs other)
    ∙ back_at ts cells (λ h d b. places (suc h) d (omega arith)) k j))
    (cases_Bool (is_at k j t))
  where
    differs : is_at k j t ≡ false → k ≡ t.array → j ≡ t.index → ⊥
    differs other a b = true≢false (sym (and_from (t.array == k) (t.index == j) (eq-eqb t.array k (sym a)) (eq-eqb t.index j (sym b))) ∙ other)
