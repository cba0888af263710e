-- Edges up to the first after which a test holds.
use Rattle.std.proofs.Common.{◌≡◌, ℕ, zero, suc, ◌+◌, ◌-◌, ◌<◌, Bool, true, false, refl, sym, ap, ◌∙◌, arith}
use Rattle.lisa_debug.specs.Answers.{edges_until}

-- after some edges that don't meet the test the rest is what it is from there
pub until_more : (holds : ℕ → Bool) (edge count made : ℕ) → made < count → holds (edge + made) ≡ false → edges_until holds edge count ≡ edges_until holds (edge + made) (count - made)
    → edges_until holds edge count ≡ edges_until holds (edge + (made + 1)) (count - (made + 1))
until_more holds edge count made less not so_far =
    let e : count - made ≡ suc (count - (made + 1)) = omega arith in
    let f : suc (edge + made) ≡ edge + (made + 1) = omega arith in
    so_far ∙ ap (edges_until holds (edge + made)) e ∙ step (count - (made + 1)) ∙ ap (λ k. edges_until holds k (count - (made + 1))) f
  where
    step : (n : ℕ) → edges_until holds (edge + made) (suc n) ≡ edges_until holds (suc (edge + made)) n
    step n = rw not refl

pub until_met : (holds : ℕ → Bool) (edge count made : ℕ) → holds (edge + made) ≡ true → edges_until holds edge count ≡ edges_until holds (edge + made) (count - made)
    → edge + made ≡ edges_until holds edge count
until_met holds edge count made met so_far = sym (so_far ∙ stop (count - made))
  where
    stop : (n : ℕ) → edges_until holds (edge + made) n ≡ edge + made
    stop zero = refl
    stop (suc n) = rw met refl

pub until_all : (holds : ℕ → Bool) (edge count made : ℕ) → made ≡ count → edges_until holds edge count ≡ edges_until holds (edge + made) (count - made)
    → edge + made ≡ edges_until holds edge count
until_all holds edge count made all so_far =
    let none : count - made ≡ 0 = omega arith in
    sym (so_far ∙ ap (edges_until holds (edge + made)) none)

pub until_none : (holds : ℕ → Bool) (edge count : ℕ) → edges_until holds edge count ≡ edges_until holds (edge + 0) (count - 0)
until_none holds edge count =
    let e : edge ≡ edge + 0 = omega arith in
    let f : count ≡ count - 0 = omega arith in
    ap (λ k. edges_until holds k count) e ∙ ap (edges_until holds (edge + 0)) f
