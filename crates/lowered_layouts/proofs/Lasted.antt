-- Temps that are added, one after the other.
use Rattle.std.proofs.Common.{◌≡◌, ◌+◌, ◌-◌, ◌*◌, ◌++◌, ◌∙◌, ℕ, List, length, take, replicate, append_assoc, ap, ap₂, arith}
use Rattle.std.specs.List.{flat_map, range_with_len}
use Rattle.std.proofs.lemmas.List.{take_all}
use Rattle.lisa_tree.specs.Descriptions.{DescriptionTree}
use Rattle.lisa_tree.specs.Resources.{stages}
use Rattle.lowered_words.specs.Rows.{row_widths}
use Rattle.lowered_layouts.specs.Temps.{row_count, time_widths, boundary_widths, boundaries_widths, controls_widths, rows_widths, lasting_widths}

pub more_bits : (xs new : List ℕ) (count n : ℕ) → n ≡ length xs + count → new ≡ take n xs ++ replicate (n - length xs) 1 → new ≡ xs ++ replicate count 1
more_bits xs new count n is made =
    made
    ∙ ap₂ (λ (ys zs : List ℕ). ys ++ zs) (take_all n xs (omega (arith, is))) (ap (λ (k : ℕ). replicate k 1) (let left : n - length xs ≡ count = omega (arith, is) in left))

-- those of time, of boundaries, of controls, and of rows
pub all_lasting : (d : DescriptionTree) (width staged before : ℕ) (boundary row first second third last : List ℕ) → staged ≡ length (stages d) → before ≡ staged - 1
    → boundary ≡ boundary_widths d width → row ≡ row_widths d width → first ≡ time_widths d width → second ≡ first ++ flat_map (λ k. boundary) (range_with_len 0 before)
    → third ≡ second ++ replicate (staged * 2) 1 → last ≡ third ++ flat_map (λ k. row) (range_with_len 0 (staged + 2)) → last ≡ lasting_widths d width
all_lasting d width staged before boundary row first second third last is_staged is_before is_boundary is_row one two three four =
    let block = λ (xs : List ℕ) (n : ℕ). flat_map (λ (k : ℕ). xs) (range_with_len 0 n) in
    let joined = λ (xs ys : List ℕ). xs ++ ys in
    let boundaries : block boundary before ≡ boundaries_widths d width = ap₂ block is_boundary (is_before ∙ ap (λ (s : ℕ). s - 1) is_staged) in
    let controls : replicate (staged * 2) 1 ≡ controls_widths d width = ap (λ (s : ℕ). replicate (s * 2) 1) is_staged in
    let count : staged + 2 ≡ row_count d = omega (arith, is_staged) in
    let rows : block row (staged + 2) ≡ rows_widths d width = ap₂ block is_row count in
    four ∙ ap₂ joined (three ∙ ap₂ joined (two ∙ ap₂ joined one boundaries) controls) rows
    ∙ append_assoc (time_widths d width ++ boundaries_widths d width) (controls_widths d width) (rows_widths d width)
    ∙ append_assoc (time_widths d width) (boundaries_widths d width) (controls_widths d width ++ rows_widths d width)
