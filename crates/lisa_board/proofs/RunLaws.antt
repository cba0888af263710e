-- The entries of a run are the only ones that the board feeds, and they go by the values of items alone.
use Rattle.std.proofs.Common.{◌≡◌, ℕ, zero, suc, ◌+◌, ◌<◌, ◌≤◌, List, [], ◌∷◌, ◌++◌, length, take, refl, sym, ap, ◌∙◌, arith, ⊎_elim, length-append}
use Rattle.std.specs.Prelude.{All}
use Rattle.std.proofs.lemmas.Bool.{cases_lt}
use Rattle.std.proofs.lemmas.List.{get_or_append_left, get_or_push, take_more, take_all, take-append-le}
use Rattle.std.proofs.lemmas.List.Elements.{All-take}
use Rattle.lisa_engine.specs.Shape.{IsFitting, IsWidth, AreEntries}
use Rattle.lisa_engine.specs.Machines.{Machine}
use Rattle.lisa_board.specs.Boards.{Devices, IsBoardFor}
use Rattle.lisa_board.specs.Feeding.{feed, printed}
use Rattle.lisa_board.specs.Runs.{rows_of, fed_entries, output, AreFed, AreAlike}
use Rattle.lisa_board.proofs.RowLists.{map_same}
use Rattle.lisa_board.proofs.Running.{entries_fit}

pub count_is : (m : Machine) (board : Devices) (input : List ℕ) (n : ℕ) → length (fed_entries m board input n) ≡ n
count_is m board input zero = refl
count_is m board input (suc n) =
    let before = count_is m board input n in
    let more = length-append (fed_entries m board input n) (feed board input (rows_of m (fed_entries m board input n)) ∷ []) in
    omega (arith, before, more)

pub are_fed : (m : Machine) (board : Devices) (input : List ℕ) (n : ℕ) → AreFed m board input (fed_entries m board input n)
are_fed m board input zero k within = absurd (omega arith)
are_fed m board input (suc n) k within = ⊎_elim
    (λ less. get_or_append_left before (entry ∷ []) [] k less ∙ are_fed m board input n k less
    ∙ ap (λ l. feed board input (rows_of m l)) (sym (take-append-le k before (entry ∷ []) (omega arith))))
    (λ ge. let last : length before ≡ k = omega (arith, length-append before (entry ∷ [])) in
    get_or_push before entry [] k last
    ∙ ap (λ l. feed board input (rows_of m l)) (sym (take-append-le k before (entry ∷ []) (omega arith) ∙ take_all k before (omega arith))))
    (cases_lt k (length before))
  where
    before : List (List ℕ)
    before = fed_entries m board input n

    entry : List ℕ
    entry = feed board input (rows_of m before)

front_is : (m : Machine) (board : Devices) (input : List ℕ) (entries : List (List ℕ)) → AreFed m board input entries → (n : ℕ) → n ≤ length entries → take n entries ≡ fed_entries m board input n
front_is m board input entries fed zero within = refl
front_is m board input entries fed (suc n) within =
    let front : take n entries ≡ fed_entries m board input n = front_is m board input entries fed n (omega arith) in
    let next : suc n ≡ n + 1 = omega arith in
    ap (λ k. take k entries) next
    ∙ take_more entries n [] (omega arith)
    ∙ ap (λ e. take n entries ++ e ∷ []) (fed n (omega arith))
    ∙ ap (λ l. l ++ feed board input (rows_of m l) ∷ []) front

pub only_fed : (m : Machine) (board : Devices) (input : List ℕ) (entries : List (List ℕ)) → AreFed m board input entries → entries ≡ fed_entries m board input (length entries)
only_fed m board input entries fed = sym (take_all (length entries) entries (omega arith)) ∙ front_is m board input entries fed (length entries) (omega arith)

-- ---- machines that are alike

rows_alike : (m n : Machine) (entries : List (List ℕ)) → AreAlike m n → AreEntries m.pins entries → rows_of m entries ≡ rows_of n entries
rows_alike m n entries alike fits =
    map_same (λ k. (m.defined (take k entries)).items) (λ k. (n.defined (take k entries)).items) 0 (length entries + 1)
    (λ k l. alike (take k entries) (All-take (IsFitting m.pins) k entries fits))

module _ (m n : Machine) (board : Devices) (input : List ℕ) (alike : AreAlike m n) (for : IsBoardFor m.items m.pins board) (widths : All (λ pin. IsWidth pin.width) m.pins)
    (bytes : All (λ byte. byte < 256) input) where
  entries_alike : (count : ℕ) → fed_entries m board input count ≡ fed_entries n board input count
  entries_alike zero = refl
  entries_alike (suc count) =
      ap (λ rows. fed_entries m board input count ++ feed board input rows ∷ []) (rows_alike m n (fed_entries m board input count) alike (entries_fit m board input count widths for bytes))
      ∙ ap (λ l. l ++ feed board input (rows_of n l) ∷ []) (entries_alike count)

  pub output_alike : (count : ℕ) → output m board input count ≡ output n board input count
  output_alike count =
      ap (printed board) (rows_alike m n (fed_entries m board input count) alike (entries_fit m board input count widths for bytes))
      ∙ ap (λ l. printed board (rows_of n l)) (entries_alike count)
