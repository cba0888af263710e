-- Names of which no two are the same: the first is not among the rest, and the rest are so themselves.
use Rattle.std.proofs.Common.{◌≡◌, ◌≢◌, ℕ, suc, ◌-◌, ◌≤◌, List, [], ◌∷◌, length, take, drop, get_or, sym, ap, ap₂, ◌∙◌, subst, arith}
use Rattle.std.specs.Prelude.{AllPairs, Contains}
use Rattle.std.proofs.Math.Seq.{take-length}

rest_apart : (x : List ℕ) (xs : List (List ℕ)) → AllPairs (λ (a b : List ℕ). a ≢ b) (x ∷ xs) → AllPairs (λ (a b : List ℕ). a ≢ b) xs
rest_apart x xs apart i j d less within same = apart (suc i) (suc j) d (omega (arith, less)) (omega (arith, within)) same

head_apart : (x : List ℕ) (xs : List (List ℕ)) → AllPairs (λ (a b : List ℕ). a ≢ b) (x ∷ xs) → Contains xs x → ⊥
head_apart x xs apart there = apart 0 (suc there.0) x (omega arith) (omega (arith, there.1)) (sym there.2)

-- what stands behind the first name
abbrev pub behind_first : List (List ℕ) → List (List ℕ)
behind_first names = take (length names - 1) (drop 1 names)

whole : (names : List (List ℕ)) (x : List ℕ) → 1 ≤ length names → x ≡ get_or names 0 x → names ≡ x ∷ behind_first names
whole [] x some is = absurd (omega (arith, some))
whole (y ∷ ys) x some is =
    let many : length (y ∷ ys) - 1 ≡ length ys = omega arith in
    ap₂ (λ (z : List ℕ) (zs : List (List ℕ)). z ∷ zs) (sym is) (sym (ap (λ (n : ℕ). take n ys) many ∙ take-length ys))

pub first_not_behind : (names : List (List ℕ)) (x : List ℕ) → 1 ≤ length names → x ≡ get_or names 0 x → AllPairs (λ (a b : List ℕ). a ≢ b) names → Contains (behind_first names) x → ⊥
first_not_behind names x some is apart =
    head_apart x (behind_first names) (subst (λ (all : List (List ℕ)). AllPairs (λ (a b : List ℕ). a ≢ b) all) (whole names x some is) apart)

pub behind_apart : (names : List (List ℕ)) (x : List ℕ) → 1 ≤ length names → x ≡ get_or names 0 x → AllPairs (λ (a b : List ℕ). a ≢ b) names → AllPairs (λ (a b : List ℕ). a ≢ b) (behind_first names)
behind_apart names x some is apart =
    rest_apart x (behind_first names) (subst (λ (all : List (List ℕ)). AllPairs (λ (a b : List ℕ). a ≢ b) all) (whole names x some is) apart)
