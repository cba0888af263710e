-- The text of a run, piece by piece.
use Rattle.std.proofs.Common.{ℕ, zero, suc, ◌+◌, ◌^◌, ◌<◌, ◌≤◌, Bool, true, false, cond, List, [], ◌∷◌, ◌++◌, map, refl, subst, arith}
use Rattle.std.specs.Prelude.{⊤, codes, ◌==◌, Some}
use Rattle.std.specs.List.{flat_map, zip, enumerate_from}
use Rattle.std.proofs.lemmas.List.{append-nil}
use Rattle.lisa_engine.specs.declared.parts.Item.{Item}
use Rattle.vcd_trace.specs.VcdText.{item_code, declaration_line, declarations_text, value_line, changed_value, value_change, time_line, first_values, edges_text, vcd_text}
use Rattle.vcd_trace.specs.Written.{Variable, Change}
use Rattle.vcd_trace.specs.declared.parts.Part.TheVariants as parts
use Rattle.vcd_trace.specs.declared.parts.Event.{Event}
use Rattle.vcd_trace.specs.declared.parts.Event.TheVariants as events
use Rattle.vcd_trace.specs.declared.places.Place.TheVariants.{Head, Body}
use Rattle.vcd_trace.proofs.Pieces.{IsWord, Piece, piece_none, piece_both, piece_line}
use Rattle.vcd_trace.proofs.LineParts.{variable_at, declaration_piece, bare_time, time_piece, value_piece, fixed_words}

-- an item that can be written: its width is that of a word, and its name is one word
pub record IsGood (item : Item) : Type 0 where
  pub some : 1 ≤ item.width
  pub most : item.width ≤ 64
  pub named : IsWord item.name

abbrev pub AreGood : List Item → Type 0
AreGood [] = ⊤
AreGood (item ∷ items) = IsGood item × AreGood items

-- one value for each item, within its width
abbrev pub Fit : List Item → List ℕ → Type 0
Fit [] [] = ⊤
Fit [] (v ∷ vs) = ⊥
Fit (item ∷ items) [] = ⊥
Fit (item ∷ items) (v ∷ vs) = (v < 2 ^ item.width) × (v < 2 ^ 64) × Fit items vs

abbrev pub variables_from : ℕ → List Item → List Variable
variables_from k [] = []
variables_from k (item ∷ items) = variable_at (k, item) ∷ variables_from (k + 1) items

abbrev pub new_value : ℕ → ℕ → Change
new_value place value = record { at = 0; code = item_code place; value = Some value }

abbrev pub all_from : ℕ → List Item → List ℕ → List Change
all_from k [] values = []
all_from k (item ∷ items) [] = []
all_from k (item ∷ items) (v ∷ vs) = new_value k v ∷ all_from (k + 1) items vs

abbrev pub some_from : ℕ → List Item → List ℕ → List ℕ → List Change
some_from k [] before now = []
some_from k (item ∷ items) [] now = []
some_from k (item ∷ items) (b ∷ bs) [] = []
some_from k (item ∷ items) (b ∷ bs) (n ∷ ns) = cond (b == n) (some_from (k + 1) items bs ns) (new_value k n ∷ some_from (k + 1) items bs ns)

abbrev pub shown : List Change → List Event
shown cs = map (λ c. events.Change c) cs

abbrev pub edge_events : List Item → (ℕ → List ℕ) → ℕ → List Event
edge_events items values zero = []
edge_events items values (suc n) = edge_events items values n ++ (bare_time (suc n) ∷ shown (some_from 0 items (values n) (values (suc n))))

abbrev pub run_events : List Item → (ℕ → List ℕ) → ℕ → List Event
run_events items values n = bare_time 0 ∷ (shown (all_from 0 items (values 0)) ++ edge_events items values n)

declared_piece : (k : ℕ) (items : List Item) → AreGood items → Piece (flat_map declaration_line (enumerate_from k items)) (Head 1) (Head 1) (variables_from k items) []
declared_piece k [] good = piece_none (Head 1)
declared_piece k (item ∷ items) good =
    piece_both (declaration_line (k, item)) (flat_map declaration_line (enumerate_from (k + 1) items)) (Head 1) (Head 1) (Head 1) (variable_at (k, item) ∷ []) (variables_from (k + 1) items) [] []
    (declaration_piece k item (let h = good.0.most in omega arith) good.0.named) (declared_piece (k + 1) items good.1)

values_piece : (k : ℕ) (items : List Item) (values : List ℕ) → AreGood items → Fit items values
    → Piece (flat_map value_line (zip items (enumerate_from k values))) (Body true) (Body true) [] (shown (all_from k items values))
values_piece k [] values good fit = piece_none (Body true)
values_piece k (item ∷ items) [] good fit = absurd fit
values_piece k (item ∷ items) (v ∷ vs) good fit =
    piece_both (value_change item.width k v) (flat_map value_line (zip items (enumerate_from (k + 1) vs))) (Body true) (Body true) (Body true) [] []
    (events.Change (new_value k v) ∷ []) (shown (all_from (k + 1) items vs))
    (value_piece true item.width k v good.0.most fit.0 fit.1) (values_piece (k + 1) items vs good.1 fit.2)

changes_piece : (k : ℕ) (items : List Item) (before now : List ℕ) → AreGood items → Fit items before → Fit items now
    → Piece (flat_map changed_value (zip items (enumerate_from k (zip before now)))) (Body false) (Body false) [] (shown (some_from k items before now))
changes_piece k [] before now good fits fit = piece_none (Body false)
changes_piece k (item ∷ items) [] now good fits fit = absurd fits
changes_piece k (item ∷ items) (b ∷ bs) [] good fits fit = absurd fit
changes_piece k (item ∷ items) (b ∷ bs) (n ∷ ns) good fits fit = go (b == n) (changes_piece (k + 1) items bs ns good.1 fits.2 fit.2)
  where
    go : (t : Bool) → Piece (flat_map changed_value (zip items (enumerate_from (k + 1) (zip bs ns)))) (Body false) (Body false) [] (shown (some_from (k + 1) items bs ns))
        → Piece (cond t [] (value_change item.width k n) ++ flat_map changed_value (zip items (enumerate_from (k + 1) (zip bs ns)))) (Body false) (Body false) []
        (shown (cond t (some_from (k + 1) items bs ns) (new_value k n ∷ some_from (k + 1) items bs ns)))
    go true rest = rest
    go false rest =
        piece_both (value_change item.width k n) (flat_map changed_value (zip items (enumerate_from (k + 1) (zip bs ns)))) (Body false) (Body false) (Body false) [] []
        (events.Change (new_value k n) ∷ []) (shown (some_from (k + 1) items bs ns))
        (value_piece false item.width k n good.0.most fit.0 fit.1) rest

edges_piece : (items : List Item) (values : ℕ → List ℕ) (n : ℕ) → AreGood items → ((k : ℕ) → k ≤ n → Fit items (values k)) → n < 2 ^ 64
    → Piece (edges_text items values n) (Body false) (Body false) [] (edge_events items values n)
edges_piece items values zero good fit small = piece_none (Body false)
edges_piece items values (suc n) good fit small =
    piece_both (edges_text items values n) (time_line (suc n) ++ flat_map changed_value (zip items (enumerate_from 0 (zip (values n) (values (suc n)))))) (Body false) (Body false) (Body false) [] []
    (edge_events items values n) (bare_time (suc n) ∷ shown (some_from 0 items (values n) (values (suc n))))
    (edges_piece items values n good (λ k le. fit k (omega arith)) (omega arith))
    (piece_both (time_line (suc n)) (flat_map changed_value (zip items (enumerate_from 0 (zip (values n) (values (suc n)))))) (Body false) (Body false) (Body false) [] []
    (bare_time (suc n) ∷ []) (shown (some_from 0 items (values n) (values (suc n))))
    (time_piece (suc n) small) (changes_piece 0 items (values n) (values (suc n)) good (fit n (omega arith)) (fit (suc n) (omega arith))))

timescale_piece : Piece (codes "$timescale 1 ns $end\n") (Head 0) (Head 0) [] []
timescale_piece =
    piece_line (codes "$timescale" ∷ codes "1" ∷ codes "ns" ∷ codes "$end" ∷ []) (Head 0) (Head 0) (λ at. parts.Note)
    (fixed_words (codes "$timescale" ∷ codes "1" ∷ codes "ns" ∷ codes "$end" ∷ []) refl) (λ at later. refl) (λ at. refl) [] (λ at. refl) [] (λ at. refl)

scope_piece : Piece (codes "$scope module machine $end\n") (Head 0) (Head 1) [] []
scope_piece =
    piece_line (codes "$scope" ∷ codes "module" ∷ codes "machine" ∷ codes "$end" ∷ []) (Head 0) (Head 1) (λ at. parts.Opens)
    (fixed_words (codes "$scope" ∷ codes "module" ∷ codes "machine" ∷ codes "$end" ∷ []) refl) (λ at later. refl) (λ at. refl) [] (λ at. refl) [] (λ at. refl)

upscope_piece : Piece (codes "$upscope $end\n") (Head 1) (Head 0) [] []
upscope_piece =
    piece_line (codes "$upscope" ∷ codes "$end" ∷ []) (Head 1) (Head 0) (λ at. parts.Closes) (fixed_words (codes "$upscope" ∷ codes "$end" ∷ []) refl)
    (λ at later. refl) (λ at. refl) [] (λ at. refl) [] (λ at. refl)

definitions_piece : Piece (codes "$enddefinitions $end\n") (Head 0) (Body false) [] []
definitions_piece =
    piece_line (codes "$enddefinitions" ∷ codes "$end" ∷ []) (Head 0) (Body false) (λ at. parts.Definitions) (fixed_words (codes "$enddefinitions" ∷ codes "$end" ∷ []) refl)
    (λ at later. refl) (λ at. refl) [] (λ at. refl) [] (λ at. refl)

begin_piece : Piece (codes "$dumpvars\n") (Body false) (Body true) [] []
begin_piece = piece_line (codes "$dumpvars" ∷ []) (Body false) (Body true) (λ at. parts.Begins) (fixed_words (codes "$dumpvars" ∷ []) refl) (λ at later. refl) (λ at. refl) [] (λ at. refl) [] (λ at. refl)

end_piece : Piece (codes "$end\n") (Body true) (Body false) [] []
end_piece = piece_line (codes "$end" ∷ []) (Body true) (Body false) (λ at. parts.Ends) (fixed_words (codes "$end" ∷ []) refl) (λ at later. refl) (λ at. refl) [] (λ at. refl) [] (λ at. refl)

head_piece : (items : List Item) → AreGood items → Piece (declarations_text items) (Head 0) (Body false) (variables_from 0 items) []
head_piece items good =
    subst (λ (vs : List Variable). Piece (declarations_text items) (Head 0) (Body false) vs []) (append-nil (variables_from 0 items))
    (piece_both (codes "$timescale 1 ns $end\n$scope module machine $end\n") (flat_map declaration_line (enumerate_from 0 items) ++ codes "$upscope $end\n$enddefinitions $end\n")
    (Head 0) (Head 1) (Body false) [] (variables_from 0 items ++ []) [] []
    (piece_both (codes "$timescale 1 ns $end\n") (codes "$scope module machine $end\n") (Head 0) (Head 0) (Head 1) [] [] [] [] timescale_piece scope_piece)
    (piece_both (flat_map declaration_line (enumerate_from 0 items)) (codes "$upscope $end\n$enddefinitions $end\n") (Head 1) (Head 1) (Body false) (variables_from 0 items) [] [] []
    (declared_piece 0 items good)
    (piece_both (codes "$upscope $end\n") (codes "$enddefinitions $end\n") (Head 1) (Head 0) (Body false) [] [] [] [] upscope_piece definitions_piece)))

first_piece : (items : List Item) (values : List ℕ) → AreGood items → Fit items values → Piece (first_values items values) (Body false) (Body false) [] (bare_time 0 ∷ shown (all_from 0 items values))
first_piece items values good fit =
    subst (λ (es : List Event). Piece (first_values items values) (Body false) (Body false) [] (bare_time 0 ∷ es)) (append-nil (shown (all_from 0 items values)))
    (piece_both (time_line 0) (codes "$dumpvars\n" ++ (flat_map value_line (zip items (enumerate_from 0 values)) ++ codes "$end\n")) (Body false) (Body false) (Body false) [] []
    (bare_time 0 ∷ []) (shown (all_from 0 items values) ++ []) (time_piece 0 (omega arith))
    (piece_both (codes "$dumpvars\n") (flat_map value_line (zip items (enumerate_from 0 values)) ++ codes "$end\n") (Body false) (Body true) (Body false) [] [] [] (shown (all_from 0 items values) ++ []) begin_piece
    (piece_both (flat_map value_line (zip items (enumerate_from 0 values))) (codes "$end\n") (Body true) (Body true) (Body false) [] [] (shown (all_from 0 items values)) []
    (values_piece 0 items values good fit) end_piece)))

pub run_piece : (items : List Item) (values : ℕ → List ℕ) (n : ℕ) → AreGood items → ((k : ℕ) → k ≤ n → Fit items (values k)) → n < 2 ^ 64
    → Piece (vcd_text items values n) (Head 0) (Body false) (variables_from 0 items) (run_events items values n)
run_piece items values n good fit small =
    subst (λ (vs : List Variable). Piece (vcd_text items values n) (Head 0) (Body false) vs (run_events items values n)) (append-nil (variables_from 0 items))
    (piece_both (declarations_text items) (first_values items (values 0) ++ edges_text items values n) (Head 0) (Body false) (Body false) (variables_from 0 items) [] [] (run_events items values n)
    (head_piece items good)
    (piece_both (first_values items (values 0)) (edges_text items values n) (Body false) (Body false) (Body false) [] [] (bare_time 0 ∷ shown (all_from 0 items (values 0))) (edge_events items values n)
    (first_piece items (values 0) good (fit 0 (omega arith))) (edges_piece items values n good fit small)))
