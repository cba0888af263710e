-- The runs and signs of a tree's bytes are those that its form's shape spells with its values.
use Rattle.std.proofs.Common.{◌≡◌, ℕ, ◌+◌, ◌-◌, ◌^◌, ◌<◌, ◌≤◌, Bool, true, false, cond, List, [], ◌∷◌, ◌++◌, map, Option, Some, refl, sym, ap, ◌∙◌, subst, arith, nat_lt, inl, inr, ◌⊎◌, append_assoc}
use Rattle.std.proofs.lemmas.List.{append-nil}
use Rattle.std.proofs.lemmas.Bool.{and_parts, not-true, ltb-true, lt-ltb, le-ltb, cases_lt}
use Rattle.std.proofs.lemmas.Bool.Decides.{nat_tests}
use Rattle.instruction_texts.specs.declared.shapes.Shape.{Shape}
use Rattle.instruction_texts.specs.declared.shapes.Shape.TheVariants.{Other, Signed}
use Rattle.instruction_texts.specs.declared.shapes.Token.{Token}
use Rattle.instruction_texts.specs.declared.shapes.Token.TheVariants.{Word, Sign}
use Rattle.instruction_texts.specs.Runs.{digit, base_of, all_digits, is_plain}
use Rattle.instruction_texts.specs.Shapes as shapes
use Rattle.instruction_texts.specs.Shapes.{whole, upper, lower, before_sign, Spells, other, literal, unsigned, positive, negative}
use Rattle.asm_source.specs.Bytes.{is_word}
use Rattle.instruction_texts.specs.Symbols.{Decimal, WithSign, Hexadecimal, Sym, Byte, Gap, Shown, flush_shape, gather, shown_values, parts_from, is_clean}
use Rattle.instruction_texts.specs.Shapes.{zero_x}
use Rattle.instruction_texts.specs.Texts.{flush, tokens, written, bytes, InRange}
use Rattle.instruction_texts.specs.Written.{numeral}
use Rattle.instruction_trees.proofs.Numbers.{doubled}
use Rattle.instruction_texts.proofs.CommonRuns.{number_from}
use Rattle.instruction_texts.proofs.NumeralValues.{IsNumeral, numeral_is, base_small}

-- ---- runs

digit_word : (base c : ℕ) → base ≤ 16 → nat_lt (digit c) base ≡ true → is_word c ≡ true
digit_word base c le h = grind (arith, nat_tests, ltb-true)

-- digits go to the run
run_on : (base : ℕ) → base ≤ 16 → (p cs : List ℕ) (s : List (Option ℕ)) → all_digits base cs ≡ true → tokens p (map (λ c. Some c) cs ++ s) ≡ tokens (p ++ cs) s
run_on base le p [] s h = ap (λ (l : List ℕ). tokens l s) (sym (append-nil p))
run_on base le p (c ∷ cs) s h =
    let t = and_parts (nat_lt (digit c) base) (all_digits base cs) h in
    rw (digit_word base c le t.0) (run_on base le (p ++ c ∷ []) cs s t.1 ∙ ap (λ (l : List ℕ). tokens l s) (append_assoc p (c ∷ []) cs))

-- behind a number the run is over
run_over : (p : List ℕ) (s : List (Sym ℕ)) → parts_from s ≡ true → tokens p (bytes s) ≡ flush p (tokens [] (bytes s))
run_over p [] h = refl
run_over p (Gap ∷ s) h = refl
run_over p (Byte c ∷ s) h = rw (not-true (is_word c) h) refl
run_over p (Shown kind n v ∷ s) h = absurd cc

flushed : (p cs : List ℕ) (ts : List Token) → is_plain cs ≡ true → flush (p ++ cs) ts ≡ Word (p ++ cs) ∷ ts
flushed [] [] ts h = absurd cc
flushed [] (c ∷ cs) ts h = refl
flushed (c ∷ p) cs ts h = refl

-- ---- a tree's text

flush_spells : (p : List ℕ) {ss : List Shape} {vs : List ℕ} {ts : List Token} → Spells ss vs ts → Spells (flush_shape p ss) vs (flush p ts)
flush_spells [] s = s
flush_spells (c ∷ p) s = literal s

flush_sign : (p : List ℕ) (ts : List Token) → flush p ts ≡ before_sign p ts
flush_sign [] ts = refl
flush_sign (c ∷ p) ts = refl

-- a numeral behind a prefix, and what follows
number_text : (hex : Bool) (p cs : List ℕ) (s : List (Sym ℕ)) (v : ℕ) → IsNumeral hex v cs → parts_from s ≡ true
    → tokens p (map (λ c. Some c) cs ++ bytes s) ≡ Word (p ++ cs) ∷ tokens [] (bytes s)
number_text hex p cs s v is apart = run_on (base_of hex) (base_small hex) p cs (bytes s) is.digits ∙ run_over (p ++ cs) s apart ∙ flushed p cs (tokens [] (bytes s)) is.plain

pub gathered : (p : List ℕ) (s : List (Sym ℕ)) → is_clean s ≡ true → InRange s → Spells (gather p s) (shown_values s) (tokens p (bytes s))
gathered p [] clean in_range = flush_spells p shapes.end
gathered p (Gap ∷ s) clean in_range = flush_spells p (gathered [] s clean in_range)
gathered p (Byte c ∷ s) clean in_range = go (is_word c) (gathered (p ++ c ∷ []) s clean in_range) (flush_spells p (other (gathered [] s clean in_range))) where
  go : (b : Bool) → Spells (gather (p ++ c ∷ []) s) (shown_values s) (tokens (p ++ c ∷ []) (bytes s)) → Spells (flush_shape p (Other c ∷ gather [] s)) (shown_values s) (flush p (Sign c ∷ tokens [] (bytes s)))
      → Spells (cond b (gather (p ++ c ∷ []) s) (flush_shape p (Other c ∷ gather [] s))) (shown_values s) (cond b (tokens (p ++ c ∷ []) (bytes s)) (flush p (Sign c ∷ tokens [] (bytes s))))
  go true x y = x
  go false x y = y
gathered p (Shown Decimal n v ∷ s) clean in_range =
    let t = and_parts (parts_from s) (is_clean s) clean in
    let is : IsNumeral false v (numeral 10 v) = numeral_is false v in
    unsigned (numeral 10 v) (number_from false false (2 ^ n - 1) (numeral 10 v) (record { digits = is.digits; plain = is.plain; below = subst (λ (k : ℕ). k ≤ 2 ^ n - 1) (sym is.is) (omega (arith, in_range.1)); above = λ e. absurd cc })) (sym is.is)
    (gathered [] s t.1 in_range.2) (number_text false p (numeral 10 v) s v is t.0)
gathered p (Shown Hexadecimal n v ∷ s) clean in_range =
    let t = and_parts (parts_from s) (is_clean s) clean in
    let is : IsNumeral true v (numeral 16 v) = numeral_is true v in
    unsigned (numeral 16 v) (number_from true false (2 ^ n - 1) (numeral 16 v) (record { digits = is.digits; plain = is.plain; below = subst (λ (k : ℕ). k ≤ 2 ^ n - 1) (sym is.is) (omega (arith, in_range.1)); above = λ e. absurd cc })) (sym is.is)
    (gathered [] s t.1 in_range.2) (ap (λ (l : List ℕ). tokens l (map (λ c. Some c) (numeral 16 v) ++ bytes s)) (append_assoc p (48 ∷ []) (120 ∷ [])) ∙ number_text true (p ++ zero_x) (numeral 16 v) s v is t.0)
gathered p (Shown WithSign n v ∷ s) clean in_range = go (cases_lt v (2 ^ (n - 1))) (gathered [] s (and_parts (parts_from s) (is_clean s) clean).1 in_range.2) where
  go : (v < 2 ^ (n - 1)) ⊎ (2 ^ (n - 1) ≤ v) → Spells (gather [] s) (shown_values s) (tokens [] (bytes s)) → Spells (Signed p n ∷ gather [] s) (v ∷ shown_values s) (tokens p (map (λ c. Some c) (written WithSign n v) ++ bytes s))
  go (inl lt) rest =
      let t = and_parts (parts_from s) (is_clean s) clean in
      let is : IsNumeral false v (numeral 10 v) = numeral_is false v in
      rw (lt-ltb v (2 ^ (n - 1)) lt)
      (positive (numeral 10 v) (number_from false false (2 ^ (n - 1) - 1) (numeral 10 v) (record { digits = is.digits; plain = is.plain; below = subst (λ (k : ℕ). k ≤ 2 ^ (n - 1) - 1) (sym is.is) (omega arith); above = λ e. absurd cc })) (sym is.is)
      rest (number_text false p (numeral 10 v) s v is t.0))
  go (inr le) rest =
      let t = and_parts (parts_from s) (is_clean s) clean in
      let u = 2 ^ n - v in
      let some : 0 < n = in_range.0 in
      let below : v < 2 ^ n = in_range.1 in
      let two : 2 ^ n ≡ 2 ^ (n - 1) + 2 ^ (n - 1) = ap (λ (k : ℕ). 2 ^ k) (omega arith) ∙ doubled (n - 1) in
      let is : IsNumeral false u (numeral 10 u) = numeral_is false u in
      rw (le-ltb v (2 ^ (n - 1)) le)
      (negative (numeral 10 u) (number_from false true (2 ^ (n - 1)) (numeral 10 u) (record { digits = is.digits; plain = is.plain; below = subst (λ (k : ℕ). k ≤ 2 ^ (n - 1)) (sym is.is) (omega arith); above = λ e. subst (λ (k : ℕ). 0 < k) (sym is.is) (omega arith) }))
      (let e : 2 ^ n - u ≡ v = omega arith in sym (ap (λ (k : ℕ). 2 ^ n - k) is.is ∙ e))
      rest (ap (λ (ts : List Token). flush p (Sign 45 ∷ ts)) (number_text false [] (numeral 10 u) s u is t.0) ∙ flush_sign p (Sign 45 ∷ Word (numeral 10 u) ∷ tokens [] (bytes s))))
