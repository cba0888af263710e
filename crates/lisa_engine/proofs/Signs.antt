-- A word's last `=`.
use Rattle.std.proofs.Common.{◌≡◌, ℕ, ◌+◌, ◌-◌, ◌<◌, ◌≤◌, List, [], length, take, drop, get_or, ap, arith}
use Rattle.std.specs.Prelude.{not, ◌==◌}
use Rattle.std.specs.List.{suffix_len, before_last, after_last}
use Rattle.std.proofs.lemmas.Bool.{ne_eqb, eq-eqb}
use Rattle.std.proofs.lemmas.List.Sums.{suffix_len_is}

passed_over : (word : List ℕ) (end : ℕ) → end ≤ length word → ((k : ℕ) → end ≤ k → k < length word → get_or word k 0 ≡ 61 → ⊥) → (0 < end → get_or word (end - 1) 0 ≡ 61)
    → suffix_len (λ c. not (c == 61)) word ≡ length word - end
passed_over word end within after here =
    suffix_len_is (λ c. not (c == 61)) word end 0 within
    (λ k from below. ap not (ne_eqb (get_or word k 0) 61 (after k from below)))
    (λ some. ap not (eq-eqb (get_or word (end - 1) 0) 61 (here some)))

pub no_sign : (word : List ℕ) → ((k : ℕ) → 0 ≤ k → k < length word → get_or word k 0 ≡ 61 → ⊥) → before_last (λ c. c == 61) word ≡ []
no_sign word none = let n : suffix_len (λ c. not (c == 61)) word ≡ length word - 0 = passed_over word 0 (omega arith) none (λ some. absurd (omega arith)) in
    ap (λ k. take k word) {x = length word - suffix_len (λ c. not (c == 61)) word - 1} {y = 0} (omega (arith, n))

pub sign_at : (word : List ℕ) (end : ℕ) → 0 < end → end ≤ length word → ((k : ℕ) → end ≤ k → k < length word → get_or word k 0 ≡ 61 → ⊥) → get_or word (end - 1) 0 ≡ 61
    → (end - 1 < length word) × (before_last (λ c. c == 61) word ≡ take (end - 1) word) × (after_last (λ c. c == 61) word ≡ drop (end - 1 + 1) word)
sign_at word end some within after here =
    let n : suffix_len (λ c. not (c == 61)) word ≡ length word - end = passed_over word end within after (λ _. here) in (
      omega arith,
      ap (λ k. take k word) {x = length word - suffix_len (λ c. not (c == 61)) word - 1} {y = end - 1} (omega (arith, n)),
      ap (λ k. drop k word) {x = length word - suffix_len (λ c. not (c == 61)) word} {y = end - 1 + 1} (omega (arith, n)),
    )
