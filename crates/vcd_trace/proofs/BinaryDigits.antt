-- Binary digits, one at a time from the end.
use Rattle.std.proofs.Common.{◌≡◌, ℕ, zero, suc, ◌+◌, ◌/◌, ◌%◌, ◌^◌, ◌<◌, ◌≤◌, List, [], ◌∷◌, ◌++◌, length, take, set, false, cond, refl, sym, ap, ◌∙◌, arith, append_assoc, ⊎_elim, eq-eqb, ne_eqb, length-append}
use Rattle.std.proofs.lemmas.Bool.{cases_lt, lt-ltb}
use Rattle.std.proofs.lemmas.List.{take_more_set}
use Rattle.std.specs.Fmt.{digits, digits_onto, digit_glyph}

abbrev spell : ℕ → ℕ → List ℕ → List ℕ
spell k n acc = digits_onto k 2 false n acc

abbrev last_glyph : ℕ → ℕ
last_glyph n = digit_glyph false (n % 2)

digits-spell : (n : ℕ) → digits 2 false n ≡ spell 64 n []
unfolding digits
digits-spell n = refl

spell_last : (k n : ℕ) (acc : List ℕ) → n < 2 → spell (suc k) n acc ≡ last_glyph n ∷ acc
spell_last k n acc h = ap (λ t. cond t (last_glyph n ∷ acc) (spell k (n / 2) (last_glyph n ∷ acc))) (eq-eqb (n / 2) 0 (omega arith))

spell_next : (k n : ℕ) (acc : List ℕ) → 2 ≤ n → spell (suc k) n acc ≡ spell k (n / 2) (last_glyph n ∷ acc)
spell_next k n acc h = ap (λ t. cond t (last_glyph n ∷ acc) (spell k (n / 2) (last_glyph n ∷ acc))) (ne_eqb (n / 2) 0 (λ e. omega arith))

spell-append : (k n : ℕ) (acc : List ℕ) → spell k n acc ≡ spell k n [] ++ acc
spell-append zero n acc = refl
spell-append (suc k) n acc = ⊎_elim
    (λ l. spell_last k n acc l ∙ ap (λ x. x ++ acc) (sym (spell_last k n [] l)))
    (λ l. spell_next k n acc l ∙ spell-append k (n / 2) (last_glyph n ∷ acc) ∙ sym (append_assoc (spell k (n / 2) []) (last_glyph n ∷ []) acc) ∙ ap (λ x. x ++ acc) (sym (spell_next k n [] l ∙ spell-append k (n / 2) (last_glyph n ∷ []))))
    (cases_lt n 2)

spell_enough : (j k n : ℕ) (acc : List ℕ) → n < 2 ^ suc j → n < 2 ^ suc k → spell (suc j) n acc ≡ spell (suc k) n acc
spell_enough zero k n acc p q = spell_last zero n acc (omega arith) ∙ sym (spell_last k n acc (omega arith))
spell_enough (suc j) zero n acc p q = spell_last (suc j) n acc (omega arith) ∙ sym (spell_last zero n acc (omega arith))
spell_enough (suc j) (suc k) n acc p q = ⊎_elim
    (λ l. spell_last (suc j) n acc l ∙ sym (spell_last (suc k) n acc l))
    (λ l. spell_next (suc j) n acc l ∙ spell_enough j k (n / 2) (last_glyph n ∷ acc) (omega arith) (omega arith) ∙ sym (spell_next (suc k) n acc l))
    (cases_lt n 2)

binary_step : (n : ℕ) → 2 ≤ n → n < 2 ^ 64 → digits 2 false n ≡ digits 2 false (n / 2) ++ (last_glyph n ∷ [])
binary_step n h small =
    digits-spell n ∙ spell_next 63 n [] h ∙ spell_enough 62 63 (n / 2) (last_glyph n ∷ []) (omega arith) (omega arith) ∙ spell-append 64 (n / 2) (last_glyph n ∷ [])
    ∙ ap (λ x. x ++ (last_glyph n ∷ [])) (sym (digits-spell (n / 2)))

binary_digit : (n : ℕ) → n < 2 → digits 2 false n ≡ last_glyph n ∷ []
binary_digit n h = digits-spell n ∙ spell_last 63 n [] h

-- at most k digits below 2 ^ k
length-spell : (k j n : ℕ) → k ≤ j → 0 < k → n < 2 ^ k → n < 2 ^ 64 → length (spell j n []) ≤ k
length-spell zero j n le some small fits = absurd (omega arith)
length-spell (suc k) zero n le some small fits = absurd (omega arith)
length-spell (suc zero) (suc j) n le some small fits = let e = ap length (spell_last j n [] (omega arith)) in omega (arith, e)
length-spell (suc (suc k)) (suc j) n le some small fits = ⊎_elim
    (λ l. let e = ap length (spell_last j n [] l) in omega (arith, e))
    (λ l. let e = ap length (spell_next j n [] l ∙ spell-append j (n / 2) (last_glyph n ∷ [])) in
    let f = length-spell (suc k) j (n / 2) (omega arith) (omega arith) (omega arith) (omega arith) in
    omega (arith, e, f, length-append (spell j (n / 2) []) (last_glyph n ∷ [])))
    (cases_lt n 2)

-- a number below 2 ^ k has at most k digits
pub length-binary-le : (k n : ℕ) → 0 < k → k ≤ 64 → n < 2 ^ k → n < 2 ^ 64 → length (digits 2 false n) ≤ k
length-binary-le k n some few small fits = let e = ap length (digits-spell n) in omega (arith, e, length-spell k 64 n few some small fits)

glyph_is : (d : ℕ) → d < 2 → digit_glyph false d ≡ 48 + d
glyph_is d small = ap (λ b. cond b (48 + d) (87 + d)) (lt-ltb d 10 (omega arith))

-- a text, its front and its last byte
extended : (n : ℕ) (xs front text : List ℕ) (last : ℕ) → n < length xs → take n xs ≡ front → text ≡ front ++ last ∷ [] → take (n + 1) (set xs n last) ≡ text
extended n xs front text last room is e = take_more_set xs n last room ∙ ap (λ f. f ++ last ∷ []) is ∙ sym e

pub one_digit : (v : ℕ) → v < 2 → digits 2 false v ≡ (48 + v) ∷ []
one_digit v small = let e : v % 2 ≡ v = omega arith in binary_digit v small ∙ ap (λ d. digit_glyph false d ∷ []) e ∙ ap (λ d. d ∷ []) (glyph_is v small)

more_digits : (v : ℕ) → 2 ≤ v → v < 2 ^ 64 → digits 2 false v ≡ digits 2 false (v / 2) ++ (48 + v % 2) ∷ []
more_digits v le fits = binary_step v le fits ∙ ap (λ d. digits 2 false (v / 2) ++ d ∷ []) (glyph_is (v % 2) (omega arith))

pub binary_first : (v : ℕ) (xs : List ℕ) → v < 2 → 0 < length xs → take 1 (set xs 0 (48 + v)) ≡ digits 2 false v
binary_first v xs small room = extended 0 xs [] (digits 2 false v) (48 + v) room refl (one_digit v small)

pub binary_count : (v count : ℕ) → 2 ≤ v → v < 2 ^ 64 → count ≡ length (digits 2 false (v / 2)) → count + 1 ≡ length (digits 2 false v)
binary_count v count le fits is = is_length (digits 2 false (v / 2)) (digits 2 false v) (48 + v % 2) count (more_digits v le fits) is
  where
    is_length : (front text : List ℕ) (last n : ℕ) → text ≡ front ++ last ∷ [] → n ≡ length front → n + 1 ≡ length text
    is_length front text last n e h = omega (arith, length-append front (last ∷ []), ap length e)

pub binary_room : (v count : ℕ) → 2 ≤ v → v < 2 ^ 64 → count ≡ length (digits 2 false (v / 2)) → count < 64
binary_room v count le fits is = omega (arith, binary_count v count le fits is, length-binary-le 64 v (omega arith) (omega arith) (omega arith) fits)

pub binary_more : (v count : ℕ) (xs : List ℕ) → 2 ≤ v → v < 2 ^ 64 → count < length xs → take count xs ≡ digits 2 false (v / 2) → take (count + 1) (set xs count (48 + v % 2)) ≡ digits 2 false v
binary_more v count xs le fits room is = extended count xs (digits 2 false (v / 2)) (digits 2 false v) (48 + v % 2) room is (more_digits v le fits)
