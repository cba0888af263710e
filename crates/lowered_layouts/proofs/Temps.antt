-- Where the temps that last stand.
use Rattle.std.proofs.Common.{◌≡◌, ◌<◌, ◌≤◌, ◌+◌, ◌-◌, ◌*◌, ◌∙◌, ℕ, zero, suc, List, [], ◌∷◌, ◌++◌, length, get_or, replicate, refl, sym, ap, ap₂, arith}
use Rattle.std.specs.Prelude.{slice_index}
use Rattle.std.specs.List.{flat_map, range_with_len}
use Rattle.std.proofs.lemmas.List.{length-append, length-replicate, get_or-replicate, get_or_append_left, get_or-append-add}
use Rattle.lisa_tree.specs.Descriptions.{DescriptionTree}
use Rattle.lisa_tree.specs.Resources.{stages, fields}
use Rattle.pipeline_time.specs.Acts.{size}
use Rattle.state_items.specs.lisa_meaning.Cores.{core_of}
use Rattle.step_pieces.specs.Formed.{Lies}
use Rattle.lowered_time.specs.Building.{time_temps, held_at, open_at, slot_at}
use Rattle.lowered_resources.specs.Places.{Lasting, Written, Out, Stall, Flush, HasField, Has, field_width, lasting_width}
use Rattle.lowered_words.specs.Ways.{all_ways}
use Rattle.lowered_words.specs.Rows.{row_widths, row_size}
use Rattle.lowered_layouts.specs.Temps.{boundary_size, boundary_count, boundaries_at, controls_at, rows_at, row_base, row_count, temp, time_widths, boundary_widths, boundaries_widths, controls_widths, rows_widths, lasting_widths}
use Rattle.lowered_layouts.proofs.Blocks.{in_block, same_block, blocks_length, blocks_at}

module _ (d : DescriptionTree) where
  -- ---- how many there are

  abbrev Stages : ℕ
  Stages = length (stages d)

  pub row_long : (width : ℕ) → length (row_widths d width) ≡ row_size d
  row_long width = let long = length-replicate {A = ℕ} (length (all_ways d)) 1 in omega (arith, long)

  module _ (width : ℕ) where
    pub time_long : length (time_widths d width) ≡ boundaries_at d
    time_long = let long = length-replicate {A = ℕ} (time_temps (core_of d) - 2) 1 in omega (arith, long)

    pub boundary_long : length (boundary_widths d width) ≡ boundary_size d
    boundary_long = blocks_length (λ f. 1 ∷ field_width d f ∷ []) 2 (λ f. refl) 0 (length (fields d))

    pub boundaries_long : length (boundaries_widths d width) ≡ boundary_count d * boundary_size d
    boundaries_long = blocks_length (λ s. boundary_widths d width) (boundary_size d) (λ s. boundary_long) 0 (boundary_count d)

    pub controls_long : length (controls_widths d width) ≡ Stages * 2
    controls_long = length-replicate (Stages * 2) 1

    pub rows_long : length (rows_widths d width) ≡ row_count d * row_size d
    rows_long = blocks_length (λ row. row_widths d width) (row_size d) (λ row. row_long width) 0 (row_count d)

    pub lasting_long : length (lasting_widths d width) ≡ rows_at d + row_count d * row_size d
    lasting_long =
        let t = time_long in
        let b = boundaries_long in
        let c = controls_long in
        let r = rows_long in
        let whole = length-append (time_widths d width) (boundaries_widths d width ++ (controls_widths d width ++ rows_widths d width)) in
        let behind = length-append (boundaries_widths d width) (controls_widths d width ++ rows_widths d width) in
        let last = length-append (controls_widths d width) (rows_widths d width) in
        omega (arith, t, b, c, r, whole, behind, last)

    pub times_last : boundaries_at d ≤ length (lasting_widths d width)
    times_last = let long = lasting_long in omega (arith, long)

    -- ---- what stands where

    abbrev at : ℕ → ℕ
    at k = get_or (lasting_widths d width) k 0

    -- behind the temps of time, those of boundaries, and those of controls
    past_time : (k : ℕ) → at (boundaries_at d + k) ≡ get_or (boundaries_widths d width ++ (controls_widths d width ++ rows_widths d width)) k 0
    past_time k =
        ap (λ (n : ℕ). at (n + k)) (sym time_long)
        ∙ get_or-append-add (time_widths d width) (boundaries_widths d width ++ (controls_widths d width ++ rows_widths d width)) k 0

    past_boundaries : (k : ℕ) → at (controls_at d + k) ≡ get_or (controls_widths d width ++ rows_widths d width) k 0
    past_boundaries k =
        let long = boundaries_long in
        let here : controls_at d + k ≡ boundaries_at d + (length (boundaries_widths d width) + k) = omega (arith, long) in
        ap at here ∙ past_time (length (boundaries_widths d width) + k)
        ∙ get_or-append-add (boundaries_widths d width) (controls_widths d width ++ rows_widths d width) k 0

    past_controls : (k : ℕ) → at (rows_at d + k) ≡ get_or (rows_widths d width) k 0
    past_controls k =
        let long = controls_long in
        let here : rows_at d + k ≡ controls_at d + (length (controls_widths d width) + k) = omega (arith, long) in
        ap at here ∙ past_boundaries (length (controls_widths d width) + k)
        ∙ get_or-append-add (controls_widths d width) (rows_widths d width) k 0

    pub time_at : (k : ℕ) → k < boundaries_at d → at k ≡ get_or (time_widths d width) k 0
    time_at k low =
        let long = time_long in
        get_or_append_left (time_widths d width) (boundaries_widths d width ++ (controls_widths d width ++ rows_widths d width)) 0 k (omega (arith, long, low))

    pub boundary_at : (s f j : ℕ) → HasField d s f → j < 2 → at (boundaries_at d + (s * boundary_size d + (f * 2 + j))) ≡ get_or (1 ∷ field_width d f ∷ []) j 0
    boundary_at s f j has small =
        let place : f * 2 + j < boundary_size d = in_block f (length (fields d)) 2 j has.1 small in
        let count : s < boundary_count d = (let least = has.0 in omega (arith, least)) in
        let inside : s * boundary_size d + (f * 2 + j) < boundary_count d * boundary_size d = in_block s (boundary_count d) (boundary_size d) (f * 2 + j) count place in
        let long = boundaries_long in
        past_time (s * boundary_size d + (f * 2 + j))
        ∙ get_or_append_left (boundaries_widths d width) (controls_widths d width ++ rows_widths d width) 0 (s * boundary_size d + (f * 2 + j)) (omega (arith, inside, long))
        ∙ blocks_at (λ t. boundary_widths d width) (boundary_size d) (λ t. boundary_long) 0 (boundary_count d) s (f * 2 + j) count place
        ∙ blocks_at (λ g. 1 ∷ field_width d g ∷ []) 2 (λ g. refl) 0 (length (fields d)) f j has.1 small
        ∙ (let same : 0 + f ≡ f = omega arith in ap (λ (g : ℕ). get_or (1 ∷ field_width d g ∷ []) j 0) same)

    pub control_at : (k : ℕ) → k < Stages * 2 → at (controls_at d + k) ≡ 1
    control_at k low =
        let long = controls_long in
        past_boundaries k
        ∙ get_or_append_left (controls_widths d width) (rows_widths d width) 0 k (omega (arith, low, long))
        ∙ get_or-replicate (Stages * 2) k 1 0 low

    pub row_at : (row k : ℕ) → row < row_count d → k < row_size d → at (row_base d row + k) ≡ get_or (row_widths d width) k 0
    row_at row k low small =
        let here : row_base d row + k ≡ rows_at d + (row * row_size d + k) = omega arith in
        ap at here ∙ past_controls (row * row_size d + k)
        ∙ blocks_at (λ r. row_widths d width) (row_size d) (λ r. row_long width) 0 (row_count d) row k low small

  -- ---- temps of boundaries and controls

  boundary_low : (s f j : ℕ) → HasField d s f → j < 2 → boundaries_at d + (s * boundary_size d + (f * 2 + j)) < controls_at d
  boundary_low s f j has small =
      let count : s < boundary_count d = (let least = has.0 in omega (arith, least)) in
      let inside = in_block s (boundary_count d) (boundary_size d) (f * 2 + j) count (in_block f (length (fields d)) 2 j has.1 small) in
      omega (arith, inside)

  pub temp_first : (x : Lasting) → Has d x → boundaries_at d ≤ temp d x
  temp_first (Written s f) has = omega arith
  temp_first (Out s f) has = omega arith
  temp_first (Stall level) has = omega arith
  temp_first (Flush level) has = omega arith

  -- all are before the rows
  pub temp_low : (x : Lasting) → Has d x → temp d x < rows_at d
  temp_low (Written s f) has = let low = boundary_low s f 0 has (omega arith) in omega (arith, low)
  temp_low (Out s f) has = let low = boundary_low s f 1 has (omega arith) in omega (arith, low)
  temp_low (Stall level) has = let least = has.0 in let most = has.1 in omega (arith, least, most)
  temp_low (Flush level) has = let least = has.0 in let most = has.1 in omega (arith, least, most)

  pub temp_wide : (width : ℕ) (x : Lasting) → Has d x → get_or (lasting_widths d width) (temp d x) 0 ≡ lasting_width d x
  temp_wide width (Written s f) has = boundary_at width s f 0 has (omega arith)
  temp_wide width (Out s f) has = boundary_at width s f 1 has (omega arith)
  temp_wide width (Stall level) has = let least = has.0 in let most = has.1 in control_at width ((level - 1) * 2 + 0) (omega (arith, least, most))
  temp_wide width (Flush level) has = let least = has.0 in let most = has.1 in control_at width ((level - 1) * 2 + 1) (omega (arith, least, most))

  -- ---- each for one thing alone

  same_field : (s f i t g j : ℕ) → HasField d s f → HasField d t g → i < 2 → j < 2
      → boundaries_at d + (s * boundary_size d + (f * 2 + i)) ≡ boundaries_at d + (t * boundary_size d + (g * 2 + j)) → (s ≡ t) × (f ≡ g) × (i ≡ j)
  same_field s f i t g j has also small little e =
      let both = same_block s t (boundary_size d) (f * 2 + i) (g * 2 + j) (in_block f (length (fields d)) 2 i has.1 small) (in_block g (length (fields d)) 2 j also.1 little) (omega (arith, e)) in
      let inner = same_block f g 2 i j small little both.1 in
      (both.0, inner.0, inner.1)

  same_level : (level other : ℕ) → 0 < level → 0 < other → (i j : ℕ) → i < 2 → j < 2 → controls_at d + ((level - 1) * 2 + i) ≡ controls_at d + ((other - 1) * 2 + j) → (level ≡ other) × (i ≡ j)
  same_level level other least also i j small little e =
      let inner = same_block (level - 1) (other - 1) 2 i j small little (omega (arith, e)) in
      let levels = inner.0 in
      (omega (arith, levels, least, also), inner.1)

  never : (s f j level i : ℕ) → HasField d s f → j < 2 → boundaries_at d + (s * boundary_size d + (f * 2 + j)) ≡ controls_at d + ((level - 1) * 2 + i) → ⊥
  never s f j level i has small e = let low = boundary_low s f j has small in omega (arith, low, e)

  pub temps_apart : (x y : Lasting) → Has d x → Has d y → temp d x ≡ temp d y → x ≡ y
  temps_apart (Written s f) (Written t g) has also e = let same = same_field s f 0 t g 0 has also (omega arith) (omega arith) e in ap₂ Written same.0 same.1
  temps_apart (Written s f) (Out t g) has also e = let same = same_field s f 0 t g 1 has also (omega arith) (omega arith) e in let no = same.2 in absurd (omega (arith, no))
  temps_apart (Written s f) (Stall level) has also e = absurd (never s f 0 level 0 has (omega arith) e)
  temps_apart (Written s f) (Flush level) has also e = absurd (never s f 0 level 1 has (omega arith) e)
  temps_apart (Out s f) (Written t g) has also e = let same = same_field s f 1 t g 0 has also (omega arith) (omega arith) e in let no = same.2 in absurd (omega (arith, no))
  temps_apart (Out s f) (Out t g) has also e = let same = same_field s f 1 t g 1 has also (omega arith) (omega arith) e in ap₂ Out same.0 same.1
  temps_apart (Out s f) (Stall level) has also e = absurd (never s f 1 level 0 has (omega arith) e)
  temps_apart (Out s f) (Flush level) has also e = absurd (never s f 1 level 1 has (omega arith) e)
  temps_apart (Stall level) (Written s f) has also e = absurd (never s f 0 level 0 also (omega arith) (sym e))
  temps_apart (Stall level) (Out s f) has also e = absurd (never s f 1 level 0 also (omega arith) (sym e))
  temps_apart (Stall level) (Stall other) has also e = ap Stall (same_level level other has.0 also.0 0 0 (omega arith) (omega arith) e).0
  temps_apart (Stall level) (Flush other) has also e = let same = same_level level other has.0 also.0 0 1 (omega arith) (omega arith) e in let no = same.1 in absurd (omega (arith, no))
  temps_apart (Flush level) (Written s f) has also e = absurd (never s f 0 level 1 also (omega arith) (sym e))
  temps_apart (Flush level) (Out s f) has also e = absurd (never s f 1 level 1 also (omega arith) (sym e))
  temps_apart (Flush level) (Stall other) has also e = let same = same_level level other has.0 also.0 1 0 (omega arith) (omega arith) e in let no = same.1 in absurd (omega (arith, no))
  temps_apart (Flush level) (Flush other) has also e = ap Flush (same_level level other has.0 also.0 1 1 (omega arith) (omega arith) e).0

  -- ---- in a program

  module _ (width : ℕ) (temps : List ℕ) (lie : Lies temps 0 (lasting_widths d width)) where
    pub rows_lie : (row : ℕ) → row < row_count d → Lies temps (row_base d row) (row_widths d width)
    rows_lie row low =
        let long = row_long width in
        let inside : (k : ℕ) → k < row_size d → row_base d row + k < length (lasting_widths d width) = λ k small.
        (let most = in_block row (row_count d) (row_size d) k low small in
        let whole = lasting_long width in
        omega (arith, most, whole)) in
        let last = inside (suc (length (all_ways d))) (omega arith) in
        let room = lie.room in
        record {
          room = omega (arith, long, last, room);
          at = λ k small.
              (let here : row_base d row + k ≡ 0 + (row_base d row + k) = omega arith in
              ap (λ (n : ℕ). slice_index temps n) here ∙ lie.at (row_base d row + k) (inside k (omega (arith, small, long))) ∙ row_at width row k low (omega (arith, small, long)));
        }
