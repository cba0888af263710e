-- Which temps last through an edge: those of time, of boundaries and controls, and then the rows of words. On the way to the program:
-- nothing here needs to be trusted.
use Rattle.std.specs.Prelude.{ℕ, suc, ◌+◌, ◌-◌, ◌*◌, List, [], ◌∷◌, ◌++◌, length, replicate}
use Rattle.std.specs.List.{flat_map, range_with_len}
use Rattle.lisa_tree.specs.Descriptions.{DescriptionTree}
use Rattle.lisa_tree.specs.Resources.{stages, fields}
use Rattle.state_items.specs.lisa_meaning.Cores.{core_of}
use Rattle.lowered_time.specs.Building.{time_temps}
use Rattle.lowered_resources.specs.Places.{Lasting, Written, Out, Stall, Flush, field_width}
use Rattle.lowered_words.specs.Rows.{row_widths, row_size}

module _ (d : DescriptionTree) where
  -- a boundary has two temps for each field: whether it was written, and what
  abbrev pub boundary_size : ℕ
  boundary_size = length (fields d) * 2

  -- there is one behind each stage but the last
  abbrev pub boundary_count : ℕ
  boundary_count = length (stages d) - 1

  abbrev pub boundaries_at : ℕ
  boundaries_at = time_temps (core_of d)

  -- a level has two temps: whether a stall named it, and whether a flush did
  abbrev pub controls_at : ℕ
  controls_at = boundaries_at + boundary_count * boundary_size

  abbrev pub rows_at : ℕ
  rows_at = controls_at + length (stages d) * 2

  -- The base of a row. That of the root's word is the first, and that of a level's word is one more than the level.
  abbrev pub row_base : ℕ → ℕ
  row_base row = rows_at + row * row_size d

  -- how many rows there are
  abbrev pub row_count : ℕ
  row_count = suc (suc (length (stages d)))

  abbrev pub temp : Lasting → ℕ
  temp (Written s f) = boundaries_at + (s * boundary_size + (f * 2 + 0))
  temp (Out s f) = boundaries_at + (s * boundary_size + (f * 2 + 1))
  temp (Stall level) = controls_at + ((level - 1) * 2 + 0)
  temp (Flush level) = controls_at + ((level - 1) * 2 + 1)

  module _ (width : ℕ) where
    -- of time: one bit each, but the slot, which holds a word
    abbrev pub time_widths : List ℕ
    time_widths = 1 ∷ width ∷ replicate (time_temps (core_of d) - 2) 1

    abbrev pub boundary_widths : List ℕ
    boundary_widths = flat_map (λ f. 1 ∷ field_width d f ∷ []) (range_with_len 0 (length (fields d)))

    abbrev pub boundaries_widths : List ℕ
    boundaries_widths = flat_map (λ s. boundary_widths) (range_with_len 0 boundary_count)

    abbrev pub controls_widths : List ℕ
    controls_widths = replicate (length (stages d) * 2) 1

    abbrev pub rows_widths : List ℕ
    rows_widths = flat_map (λ row. row_widths d width) (range_with_len 0 row_count)

    abbrev pub lasting_widths : List ℕ
    lasting_widths = time_widths ++ (boundaries_widths ++ (controls_widths ++ rows_widths))
