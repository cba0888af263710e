-- What the loop over the digits of a digest keeps.
use Rattle.std.proofs.Common.{◌≡◌, ℕ, zero, suc, Bool, false, ◌+◌, ◌-◌, ◌<◌, ◌≤◌, List, [], ◌∷◌, ◌++◌, length, take, set, Option, Some, None, refl, sym, ap, subst, ◌∙◌, append_assoc, arith}
use Rattle.std.proofs.lemmas.List.{append-nil, take_more_set, take_all, nil_from_length}
use Rattle.std.specs.Prelude.{nat_eq}
use Rattle.std.proofs.lemmas.Bool.Decides.{nat_tests}
use Rattle.lisa_object.specs.Reading.{◌>>=◌, Word, pair_of, bytes_of}

abbrev pub bytes_with : List ℕ → Option (List ℕ) → Option (List ℕ)
bytes_with front more = more >>= λ all. Some (front ++ all)

pub begins : (r : Option (List ℕ)) → bytes_with [] r ≡ r
begins (Some x) = refl
begins None = refl

regroup : (front : List ℕ) (b : ℕ) (r : Option (List ℕ)) → bytes_with front (r >>= λ all. Some (b ∷ all)) ≡ bytes_with (front ++ b ∷ []) r
regroup front b (Some x) = ap (λ (l : List ℕ). Some l) (simp append_assoc)
regroup front b None = refl

one : (k : ℕ) (digits : Word) (r : Option (ℕ × Word)) → pair_of digits ≡ r → bytes_of (suc k) digits ≡ (r >>= λ p. bytes_of k p.1 >>= λ all. Some (p.0 ∷ all))
unfolding bytes_of
one k digits r e = ap (λ (q : Option (ℕ × Word)). q >>= λ p. bytes_of k p.1 >>= λ all. Some (p.0 ∷ all)) e

module _ (digest : List ℕ) (i : ℕ) (rest : Word) (total : Option (List ℕ)) (same : bytes_with (take i digest) (bytes_of (32 - i) rest) ≡ total) (lt : i < 32) where
  step : (r : Option (ℕ × Word)) → pair_of rest ≡ r → bytes_of (32 - i) rest ≡ (r >>= λ p. bytes_of (32 - (i + 1)) p.1 >>= λ all. Some (p.0 ∷ all))
  step r e = let k : 32 - i ≡ suc (32 - (i + 1)) = omega arith in ap (λ (n : ℕ). bytes_of n rest) k ∙ one (32 - (i + 1)) rest r e

  pub goes_on : (b : ℕ) (behind : Word) → pair_of rest ≡ Some (b, behind) → length digest ≡ 32 → bytes_with (take (i + 1) (set digest i b)) (bytes_of (32 - (i + 1)) behind) ≡ total
  goes_on b behind e long =
      ap (λ (l : List ℕ). bytes_with l (bytes_of (32 - (i + 1)) behind)) (take_more_set digest i b (omega arith))
      ∙ sym (regroup (take i digest) b (bytes_of (32 - (i + 1)) behind)) ∙ ap (bytes_with (take i digest)) (sym (step (Some (b, behind)) e)) ∙ same

  pub fails : pair_of rest ≡ None → total ≡ None
  fails e = sym same ∙ ap (bytes_with (take i digest)) (step None e)

none_left : bytes_of zero [] ≡ Some []
unfolding bytes_of
none_left = refl

some_left : (b : ℕ) (rest : Word) → bytes_of zero (b ∷ rest) ≡ None
unfolding bytes_of
some_left b rest = refl

pub whole : (digest : List ℕ) (i : ℕ) (rest : Word) (total : Option (List ℕ)) → bytes_with (take i digest) (bytes_of (32 - i) rest) ≡ total → 32 ≤ i → length digest ≡ 32 → length rest ≡ 0 → total ≡ Some digest
whole digest i rest total same le long none =
    let spent : 32 - i ≡ zero = omega arith in
    sym same ∙ ap (λ (n : ℕ). bytes_with (take i digest) (bytes_of n rest)) spent ∙ ap (λ (l : Word). bytes_with (take i digest) (bytes_of zero l)) (nil_from_length rest none)
    ∙ ap (bytes_with (take i digest)) none_left ∙ ap (λ (l : List ℕ). Some l) (append-nil (take i digest) ∙ take_all i digest (omega arith))

pub too_long : (digest : List ℕ) (i : ℕ) (rest : Word) (total : Option (List ℕ)) → bytes_with (take i digest) (bytes_of (32 - i) rest) ≡ total → 32 ≤ i → 0 < length rest → total ≡ None
too_long digest i [] total same le some = absurd (omega arith)
too_long digest i (b ∷ rest) total same le some =
    let spent : 32 - i ≡ zero = omega arith in
    sym same ∙ ap (λ (n : ℕ). bytes_with (take i digest) (bytes_of n (b ∷ rest))) spent ∙ ap (bytes_with (take i digest)) (some_left b rest)

pub some_from : (n : ℕ) → nat_eq n 0 ≡ false → 0 < n
some_from n e = grind (arith, nat_tests)
