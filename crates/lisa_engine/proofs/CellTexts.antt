-- The lines of changed cells by the touches are those by the cells.
use Rattle.std.proofs.Common.{◌≡◌, ℕ, ◌+◌, ◌<◌, ◌≤◌, List, [], ◌∷◌, length, get_or, refl, sym, ap, ◌∙◌, subst, arith}
use Rattle.std.specs.Prelude.{All, find}
use Rattle.std.specs.Option.{option_map_or}
use Rattle.std.specs.List.{flat_map, zip, enumerate_from}
use Rattle.std.proofs.lemmas.List.FromFn.{get_or-enumerate_from, length-enumerate_from}
use Rattle.std.proofs.lemmas.Slice.Zip.{get_or-zip, length-zip}
use Rattle.lisa_engine.specs.Shape.{AreCells}
use Rattle.lisa_engine.specs.Touches.{IsPlaced, put_back}
use Rattle.lisa_engine.specs.Text.{changed_cell, changed_array, changed_cells}
use Rattle.lisa_engine.specs.Changes.{is_at, value_before, touched_line, touched_array}
use Rattle.lisa_engine.specs.declared.parts.ArrayItem.{ArrayItem}
use Rattle.lisa_engine.specs.declared.parts.Touch.{Touch}
use Rattle.lisa_engine.proofs.Silent.{same_texts}
use Rattle.lisa_engine.proofs.Touched.{back_count, back_row, back_at, is_in}

numbered_at : {X : Type 0} (xs : List X) (k : ℕ) (d : X) → k < length xs → get_or (enumerate_from 0 xs) k (0, d) ≡ (k, get_or xs k d)
numbered_at xs k d within = let e : 0 + k ≡ k = omega arith in get_or-enumerate_from 0 xs k (0, d) within ∙ (λ i. (e i, get_or xs k d))

zipped_at : {X Y : Type 0} (xs : List X) (ys : List Y) (k : ℕ) (d : X) (e : Y) → k < length xs → length ys ≡ length xs → get_or (zip xs ys) k (d, e) ≡ (get_or xs k d, get_or ys k e)
zipped_at xs ys k d e within long = get_or-zip xs ys k (d, e) within (omega arith)

module _ (arrays : List ArrayItem) (touches row : List Touch) (now : List (List ℕ)) (shape : AreCells arrays now) (places : All (IsPlaced arrays) touches)
    (same : (array index : ℕ) → find (is_at array index) row ≡ find (is_at array index) touches) where
  before : List (List ℕ)
  before = put_back touches now

  any : ArrayItem
  any = record { name = []; width = 0; depth = 0 }

  same_before : (k j value : ℕ) → value_before row k j value ≡ value_before touches k j value
  same_before k j value = ap (λ o. option_map_or (λ t. t.before) o value) (same k j)

  same_cell : (k j : ℕ) (name : List ℕ) → touched_line row name k (j, get_or (get_or now k []) j 0) ≡ changed_cell name (j, (get_or (get_or (put_back touches now) k []) j 0, get_or (get_or now k []) j 0))
  same_cell k j name = ap (λ b. changed_cell name (j, (b, get_or (get_or now k []) j 0)))
      (same_before k j (get_or (get_or now k []) j 0) ∙ sym (back_at touches now (λ h d b. is_in shape (get_or touches h d) (places h d b)) k j))

  same_array : (k : ℕ) (array : ArrayItem) → touched_array row (k, (array, get_or now k [])) ≡ changed_array (array, (get_or (put_back touches now) k [], get_or now k []))
  same_array k array =
      let cells = get_or now k [] in
      let cells_before = get_or (put_back touches now) k [] in
      let long : length cells ≡ length cells_before = sym (back_row touches now k) in
      same_texts (touched_line row array.name k) (changed_cell array.name) (enumerate_from 0 cells) (enumerate_from 0 (zip cells_before cells)) (0, 0) (0, (0, 0))
      (omega (arith, length-enumerate_from 0 cells, length-enumerate_from 0 (zip cells_before cells), length-zip cells_before cells, long))
      (λ j h. let within : j < length cells = omega (arith, length-enumerate_from 0 cells, h) in
      ap (touched_line row array.name k) (numbered_at cells j 0 within) ∙ same_cell k j array.name
      ∙ ap (λ p. changed_cell array.name (j, p)) (sym (zipped_at cells_before cells j 0 0 (omega (arith, long)) long))
      ∙ ap (changed_cell array.name) (sym (numbered_at (zip cells_before cells) j (0, 0) (omega (arith, length-zip cells_before cells, long)))))

  pub same_arrays : flat_map (touched_array row) (enumerate_from 0 (zip arrays now)) ≡ changed_cells arrays (put_back touches now) now
  same_arrays =
      let long : length (zip (put_back touches now) now) ≡ length arrays = omega (arith, length-zip (put_back touches now) now, back_count touches now, shape.count) in
      same_texts (touched_array row) changed_array (enumerate_from 0 (zip arrays now)) (zip arrays (zip (put_back touches now) now)) (0, (any, [])) (any, ([], []))
      (omega (arith, length-enumerate_from 0 (zip arrays now), length-zip arrays now, length-zip arrays (zip (put_back touches now) now), long, shape.count))
      (λ k h. let within : k < length arrays = omega (arith, length-enumerate_from 0 (zip arrays now), length-zip arrays now, h) in
      ap (touched_array row) (numbered_at (zip arrays now) k (any, []) (omega (arith, length-enumerate_from 0 (zip arrays now), h)) ∙ ap (λ p. (k, p)) (zipped_at arrays now k any [] within shape.count))
      ∙ same_array k (get_or arrays k any)
      ∙ ap (λ p. changed_array (get_or arrays k any, p)) (sym (zipped_at (put_back touches now) now k [] [] (omega (arith, back_count touches now, shape.count)) (sym (back_count touches now))))
      ∙ ap changed_array (sym (zipped_at arrays (zip (put_back touches now) now) k any ([], []) within long)))
