-- The rows of a run, one more at a time.
use Rattle.std.proofs.Common.{◌≡◌, ℕ, zero, suc, ◌+◌, ◌<◌, List, [], ◌∷◌, ◌++◌, length, take, map, refl, ap, ◌∙◌, arith, length-append}
use Rattle.std.specs.List.{range_with_len}
use Rattle.std.proofs.lemmas.List.{take_all, take-append-le}
use Rattle.std.proofs.lemmas.List.FromFn.{map-range_with_len_more}
use Rattle.lisa_engine.specs.Machines.{Machine}
use Rattle.lisa_board.specs.Feeding.{edges_of}
use Rattle.lisa_board.specs.Runs.{rows_of}

-- one more edge
pub edges_more : (earlier : List (List ℕ)) (row next : List ℕ) → edges_of ((earlier ++ row ∷ []) ++ next ∷ []) ≡ edges_of (earlier ++ row ∷ []) ++ (row, next) ∷ []
edges_more [] row next = refl
edges_more (x ∷ []) row next = refl
edges_more (x ∷ y ∷ earlier) row next = ap (λ t. (x, y) ∷ t) (edges_more (y ∷ earlier) row next)

-- the rows before the last one
abbrev pub earlier_of : Machine → List (List ℕ) → List (List ℕ)
earlier_of m entries = map (λ n. (m.defined (take n entries)).items) (range_with_len 0 (length entries))

pub rows_are : (m : Machine) (entries : List (List ℕ)) → rows_of m entries ≡ earlier_of m entries ++ (m.defined entries).items ∷ []
rows_are m entries =
    map-range_with_len_more (λ n. (m.defined (take n entries)).items) 0 (length entries) (length entries) (omega arith)
    ∙ ap (λ l. earlier_of m entries ++ (m.defined l).items ∷ []) (take_all (length entries) entries (omega arith))

pub map_same : {X : Type 0} (f g : ℕ → X) (a n : ℕ) → ((k : ℕ) → k < a + n → f k ≡ g k) → map f (range_with_len a n) ≡ map g (range_with_len a n)
map_same f g a zero same = refl
map_same f g a (suc n) same =
    ap (λ x. x ∷ map f (range_with_len (a + 1) n)) (same a (omega arith))
    ∙ ap (λ t. g a ∷ t) (map_same f g (a + 1) n (λ k l. same k (omega arith)))

-- the rows so far are those before the row after one more entry
pub earlier_more : (m : Machine) (entries : List (List ℕ)) (entry : List ℕ) → earlier_of m (entries ++ entry ∷ []) ≡ rows_of m entries
earlier_more m entries entry =
    ap (λ n. map (λ k. (m.defined (take k (entries ++ entry ∷ []))).items) (range_with_len 0 n)) (length-append entries (entry ∷ []))
    ∙ map_same (λ k. (m.defined (take k (entries ++ entry ∷ []))).items) (λ k. (m.defined (take k entries)).items) 0 (length entries + 1)
    (λ k l. ap (λ t. (m.defined t).items) (take-append-le k entries (entry ∷ []) (omega arith)))
