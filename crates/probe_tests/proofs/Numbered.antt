-- Forms whose patterns are their numbers.
use Rattle.std.proofs.Common.{◌≡◌, ◌<◌, ◌+◌, ◌++◌, ◌∷◌, [], ◌∙◌, ℕ, List, length, map, ap, arith}
use Rattle.std.specs.Prelude.{slice_index}
use Rattle.std.specs.List.{range_with_len}
use Rattle.std.proofs.lemmas.List.{get_or-map, length-map}
use Rattle.std.proofs.lemmas.List.FromFn.{length-map-range_with_len, get_or-map-range_with_len, map-range_with_len_more}
use Rattle.pattern_tables.specs.declared.entry.Entry.{Entry}
use Rattle.pattern_tables.specs.Entries.{entry}
use Rattle.pattern_tables.specs.Rising.{IsRising}

abbrev pub of_number : ℕ → Entry
of_number k = entry 2047 k k

abbrev pub numbered : ℕ → List Entry
numbered n = map of_number (range_with_len 0 n)

pub one_more : (n : ℕ) → numbered (n + 1) ≡ numbered n ++ of_number n ∷ []
one_more n = map-range_with_len_more of_number 0 n n (omega arith)

pub length-numbered : (n : ℕ) → length (numbered n) ≡ n
length-numbered n = length-map-range_with_len of_number 0 n

pattern_at : (n k : ℕ) → k < n → slice_index (map (λ (e : Entry). e.pattern) (numbered n)) k ≡ k
pattern_at n k h =
    get_or-map (λ (e : Entry). e.pattern) (numbered n) k (of_number 0) 0 (let l = length-numbered n in omega (arith, h))
    ∙ ap (λ (e : Entry). e.pattern) (get_or-map-range_with_len of_number 0 n k k (of_number 0) h (omega arith))

pub they_rise : (n : ℕ) → IsRising (map (λ (e : Entry). e.pattern) (numbered n))
they_rise n i j less within =
    let l : length (map (λ (e : Entry). e.pattern) (numbered n)) ≡ n = length-map (numbered n) (λ (e : Entry). e.pattern) ∙ length-numbered n in
    let a = pattern_at n i (omega (arith, less, within)) in
    let b = pattern_at n j (omega (arith, within)) in
    omega arith
