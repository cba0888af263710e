-- The parts that the lines of a run make up.
use Rattle.std.proofs.Common.{◌≡◌, ℕ, zero, suc, ◌+◌, ◌/◌, ◌%◌, ◌^◌, ◌<◌, ◌≤◌, Bool, true, false, cond, List, [], ◌∷◌, ◌++◌, length, Option, Some, None, refl, sym, ap, subst, ◌∙◌, arith, ⊎_elim, eqb}
use Rattle.std.specs.Prelude.{not, All, codes, decimal, nat_lt, ◌==◌, ◌&&◌, ◌||◌}
use Rattle.std.specs.Char.{digit_value}
use Rattle.std.specs.List.{list_all}
use Rattle.std.specs.Str.Parse.{AllDigits, IsNumeral, digits_value}
use Rattle.std.proofs.lemmas.Bool.{cases_lt, lt-ltb, ltb-true, ne_eqb, and_from, and_parts, eqb-true}
use Rattle.std.proofs.lemmas.Fmt.{decimal_is_IsNumeral, digits_is_IsNumeral}
use Rattle.std.proofs.lemmas.List.Elements.{All-nil, All-cons}
use Rattle.lisa_words.specs.Steps.{◌>>=◌}
use Rattle.lisa_engine.specs.declared.parts.Item.{Item}
use Rattle.vcd_trace.specs.VcdText.{item_code, declaration_line, binary, value_change, time_line}
use Rattle.vcd_trace.specs.VcdWords.{is_solid}
use Rattle.vcd_trace.specs.Written.{Variable}
use Rattle.vcd_trace.specs.Parts.{numeral_of, is_binary, bits_of, change_at, time_at, with_words}
use Rattle.vcd_trace.specs.declared.parts.Part.TheVariants as parts
use Rattle.vcd_trace.specs.declared.parts.Event.{Event}
use Rattle.vcd_trace.specs.declared.parts.Event.TheVariants as events
use Rattle.vcd_trace.specs.declared.places.Place.TheVariants.{Head, Body}
use Rattle.vcd_trace.proofs.BinaryDigits.{one_digit}
use Rattle.vcd_trace.proofs.Pieces.{line, IsWord, Piece, piece_line}

-- ---- bytes that aren't blank

pub high_solid : (c : ℕ) → 33 ≤ c → is_solid c ≡ true
high_solid c high =
    let a : eqb c 32 ≡ false = ne_eqb c 32 (λ e. absurd (omega arith)) in
    let b : eqb c 9 ≡ false = ne_eqb c 9 (λ e. absurd (omega arith)) in
    let d : eqb c 10 ≡ false = ne_eqb c 10 (λ e. absurd (omega arith)) in
    let e : eqb c 13 ≡ false = ne_eqb c 13 (λ f. absurd (omega arith)) in
    λ i. not (a i || b i || d i || e i)

digit_high : (c : ℕ) → digit_value c < 36 → 48 ≤ c
digit_high c low = ⊎_elim
    (λ l. let e : digit_value c ≡ 36 = rw (lt-ltb c 48 l) refl in absurd (omega (arith, e)))
    (λ l. l)
    (cases_lt c 48)

digits_solid : (radix : ℕ) (ds : List ℕ) → radix ≤ 36 → AllDigits radix ds → list_all is_solid ds ≡ true
digits_solid radix [] most all = refl
digits_solid radix (c ∷ cs) most all = and_from _ _ (high_solid c (omega (arith, digit_high c (omega (arith, all.0))))) (digits_solid radix cs most all.1)

digits_pass : (radix : ℕ) (ds : List ℕ) → AllDigits radix ds → list_all (λ c. nat_lt (digit_value c) radix) ds ≡ true
digits_pass radix [] all = refl
digits_pass radix (c ∷ cs) all = and_from _ _ (lt-ltb (digit_value c) radix all.0) (digits_pass radix cs all.1)

numeral_word : (radix : ℕ) (ds : List ℕ) → radix ≤ 36 → IsNumeral radix ds → IsWord ds
numeral_word radix ds most is = record { some = is.0; solid = digits_solid radix ds most is.1 }

-- ---- numbers

pub decimal_word : (n : ℕ) → n < 2 ^ 64 → IsWord (decimal n)
decimal_word n small = numeral_word 10 (decimal n) (omega arith) (decimal_is_IsNumeral n small).0

pub decimal_read : (n : ℕ) → n < 2 ^ 64 → numeral_of (decimal n) ≡ Some n
decimal_read n small =
    let is = decimal_is_IsNumeral n small in
    let fits : digits_value 10 (decimal n) < 2 ^ 64 = omega (arith, is.1) in
    ap (λ (b : Bool). cond b (Some (digits_value 10 (decimal n))) None)
    (and_from _ _ (lt-ltb 0 (length (decimal n)) is.0.0) (and_from _ _ (digits_pass 10 (decimal n) is.0.1) (lt-ltb (digits_value 10 (decimal n)) (2 ^ 64) fits)))
    ∙ ap (λ (k : ℕ). Some k) is.1

binary_is : (v : ℕ) → v < 2 ^ 64 → IsNumeral 2 (binary v) × (digits_value 2 (binary v) ≡ v)
binary_is v small = digits_is_IsNumeral 2 false (omega arith) (omega arith) v (omega arith)

binary_bits : (v : ℕ) → v < 2 ^ 64 → bits_of (binary v) ≡ Some v
binary_bits v small =
    let is = binary_is v small in
    let fits : digits_value 2 (binary v) < 2 ^ 64 = omega (arith, is.1) in
    ap (λ (b : Bool). cond b (Some (digits_value 2 (binary v))) None) (lt-ltb (digits_value 2 (binary v)) (2 ^ 64) fits) ∙ ap (λ (k : ℕ). Some k) is.1

binary_passes : (v : ℕ) → v < 2 ^ 64 → is_binary (binary v) ≡ true
binary_passes v small = let is = binary_is v small in and_from _ _ (lt-ltb 0 (length (binary v)) is.0.0) (digits_pass 2 (binary v) is.0.1)

-- ---- codes

pub code_word : (place : ℕ) → IsWord (item_code place)
code_word place = go (nat_lt place 94)
  where
    go : (b : Bool) → IsWord (cond b ((33 + place) ∷ []) ((33 + place % 94) ∷ (33 + place / 94) ∷ []))
    go true = record { some = omega arith; solid = and_from _ _ (high_solid (33 + place) (omega arith)) refl }
    go false = record { some = omega arith; solid = and_from _ _ (high_solid (33 + place % 94) (omega arith)) (and_from _ _ (high_solid (33 + place / 94) (omega arith)) refl) }

-- ---- lines

fixed : (w : List ℕ) → 0 < length w → list_all is_solid w ≡ true → IsWord w
fixed w some solid = record { some = some; solid = solid }

-- several words, by their test
abbrev pub are_words : List (List ℕ) → Bool
are_words [] = true
are_words (w ∷ ws) = (nat_lt 0 (length w) && list_all is_solid w) && are_words ws

pub fixed_words : (ws : List (List ℕ)) → are_words ws ≡ true → All IsWord ws
fixed_words [] e = All-nil IsWord
fixed_words (w ∷ ws) e =
    let a = and_parts (nat_lt 0 (length w) && list_all is_solid w) (are_words ws) e in
    let b = and_parts (nat_lt 0 (length w)) (list_all is_solid w) a.0 in
    All-cons IsWord w ws (record { some = ltb-true 0 (length w) b.0; solid = b.1 }) (fixed_words ws a.1)

end_word : IsWord (codes "$end")
end_word = fixed (codes "$end") (omega arith) refl

pub one_word : (w : List ℕ) → IsWord w → All IsWord (w ∷ [])
one_word w is = All-cons IsWord w [] is (All-nil IsWord)

two_words : (v w : List ℕ) → IsWord v → IsWord w → All IsWord (v ∷ w ∷ [])
two_words v w is_v is_w = All-cons IsWord v (w ∷ []) is_v (one_word w is_w)

abbrev pub variable_at : ℕ × Item → Variable
variable_at (place, item) = record { code = item_code place; name = item.name; width = item.width }

pub declaration_piece : (place : ℕ) (item : Item) → item.width < 2 ^ 64 → IsWord item.name → Piece (declaration_line (place, item)) (Head 1) (Head 1) (variable_at (place, item) ∷ []) []
declaration_piece place item narrow named =
    piece_line (codes "$var" ∷ codes "reg" ∷ decimal item.width ∷ item_code place ∷ item.name ∷ codes "$end" ∷ []) (Head 1) (Head 1)
    (λ at. parts.Declares (variable_at (place, item)))
    (All-cons IsWord (codes "$var") (codes "reg" ∷ decimal item.width ∷ item_code place ∷ item.name ∷ codes "$end" ∷ []) (fixed (codes "$var") (omega arith) refl)
    (All-cons IsWord (codes "reg") (decimal item.width ∷ item_code place ∷ item.name ∷ codes "$end" ∷ []) (fixed (codes "reg") (omega arith) refl)
    (All-cons IsWord (decimal item.width) (item_code place ∷ item.name ∷ codes "$end" ∷ []) (decimal_word item.width narrow)
    (All-cons IsWord (item_code place) (item.name ∷ codes "$end" ∷ []) (code_word place) (two_words item.name (codes "$end") named end_word)))))
    (λ at later. ap (λ (o : Option ℕ). o >>= λ bits. Some (parts.Declares (record { code = item_code place; name = item.name; width = bits }), later)) (decimal_read item.width narrow))
    (λ at. refl) (variable_at (place, item) ∷ []) (λ at. refl) [] (λ at. refl)

abbrev pub bare_time : ℕ → Event
bare_time time = events.Time (record { at = 0; time = time })

pub time_piece : (time : ℕ) → time < 2 ^ 64 → Piece (time_line time) (Body false) (Body false) [] (bare_time time ∷ [])
time_piece time small =
    piece_line ((35 ∷ decimal time) ∷ []) (Body false) (Body false) (λ at. time_at at time)
    (one_word (35 ∷ decimal time) (let is = decimal_word time small in record { some = omega arith; solid = is.solid }))
    (λ at later. ap (λ (o : Option ℕ). with_words later (o >>= λ t. Some (time_at at t))) (decimal_read time small))
    (λ at. refl) [] (λ at. refl) (bare_time time ∷ []) (λ at. refl)

abbrev pub bare_value : ℕ → ℕ → Event
bare_value place value = events.Change (record { at = 0; code = item_code place; value = Some value })

some_length : (w : List ℕ) → 0 < length w → (length w == 0) ≡ false
some_length w some = ne_eqb (length w) 0 (λ e. absurd (omega arith))

scalar_piece : (inside : Bool) (place value : ℕ) → value < 2 → Piece (((48 + value) ∷ item_code place) ++ 10 ∷ []) (Body inside) (Body inside) [] (bare_value place value ∷ [])
scalar_piece inside place zero small =
    piece_line ((48 ∷ item_code place) ∷ []) (Body inside) (Body inside) (λ at. change_at at (item_code place) (Some 0))
    (one_word (48 ∷ item_code place) (let is = code_word place in record { some = omega arith; solid = is.solid }))
    (λ at later. ap (λ (b : Bool). with_words later (cond b None (Some (change_at at (item_code place) (Some 0))))) (some_length (item_code place) (code_word place).some))
    (λ at. refl) [] (λ at. refl) (bare_value place 0 ∷ []) (λ at. refl)
scalar_piece inside place (suc zero) small =
    piece_line ((49 ∷ item_code place) ∷ []) (Body inside) (Body inside) (λ at. change_at at (item_code place) (Some 1))
    (one_word (49 ∷ item_code place) (let is = code_word place in record { some = omega arith; solid = is.solid }))
    (λ at later. ap (λ (b : Bool). with_words later (cond b None (Some (change_at at (item_code place) (Some 1))))) (some_length (item_code place) (code_word place).some))
    (λ at. refl) [] (λ at. refl) (bare_value place 1 ∷ []) (λ at. refl)
scalar_piece inside place (suc (suc value)) small = absurd (omega arith)

vector_piece : (inside : Bool) (place value : ℕ) → value < 2 ^ 64 → Piece (line ((98 ∷ binary value) ∷ item_code place ∷ [])) (Body inside) (Body inside) [] (bare_value place value ∷ [])
vector_piece inside place value small =
    piece_line ((98 ∷ binary value) ∷ item_code place ∷ []) (Body inside) (Body inside) (λ at. change_at at (item_code place) (Some value))
    (two_words (98 ∷ binary value) (item_code place) (let is = numeral_word 2 (binary value) (omega arith) (binary_is value small).0 in record { some = omega arith; solid = is.solid }) (code_word place))
    (λ at later. ap (λ (b : Bool). cond b (Some (change_at at (item_code place) (bits_of (binary value)), later)) None) (binary_passes value small)
    ∙ ap (λ (o : Option ℕ). Some (change_at at (item_code place) o, later)) (binary_bits value small))
    (λ at. refl) [] (λ at. refl) (bare_value place value ∷ []) (λ at. refl)

pub value_piece : (inside : Bool) (width place value : ℕ) → width ≤ 64 → value < 2 ^ width → value < 2 ^ 64 → Piece (value_change width place value) (Body inside) (Body inside) [] (bare_value place value ∷ [])
value_piece inside width place value most fits small = go (width == 1) (λ e. eqb-true width 1 e)
  where
    go : (b : Bool) → (b ≡ true → width ≡ 1) → Piece (cond b (binary value ++ (item_code place ++ 10 ∷ [])) (codes "b" ++ (binary value ++ (codes " " ++ (item_code place ++ 10 ∷ []))))) (Body inside) (Body inside) [] (bare_value place value ∷ [])
    go true is =
        let one : width ≡ 1 = is refl in
        let bit : value < 2 = subst (λ (w : ℕ). value < 2 ^ w) one fits in
        subst (λ (t : List ℕ). Piece (t ++ (item_code place ++ 10 ∷ [])) (Body inside) (Body inside) [] (bare_value place value ∷ [])) (sym (one_digit value bit)) (scalar_piece inside place value bit)
    go false is = vector_piece inside place value small
