-- The first operation with a root that occurs twice, by going over all of them.
use Rattle.std.proofs.Common.{◌≡◌, ◌<◌, ◌+◌, ◌-◌, ◌^◌, ℕ, zero, suc, Bool, true, false, Option, None, Some, cond, nat_lt, length, min, refl, sym, ap, ◌∙◌, arith}
use Rattle.std.proofs.lemmas.Bool.Decides.{nat_tests}
use Rattle.lisa_tree.specs.Descriptions.{DescriptionTree}
use Rattle.activation_trees.specs.Unfolding.{capped, counted, occurrences}
use Rattle.activation_trees.specs.Twice.{is_twice, first_from}

pub two_are_counted : (n : ℕ) → nat_lt 1 (capped n) ≡ nat_lt 1 n
two_are_counted n = grind (arith, nat_tests)

step_is : (d : DescriptionTree) (k n : ℕ) → k < n → first_from d k (n - k) ≡ cond (is_twice d k) (Some k) (first_from d (k + 1) (n - (k + 1)))
step_is d k n h = ap (first_from d k) (let e : n - k ≡ suc (n - (k + 1)) = omega arith in e)

pub goes_past : (d : DescriptionTree) (k n : ℕ) → k < n → is_twice d k ≡ false → first_from d k (n - k) ≡ first_from d (k + 1) (n - (k + 1))
goes_past d k n h e = step_is d k n h ∙ ap (λ (b : Bool). cond b (Some k) (first_from d (k + 1) (n - (k + 1)))) e

pub stops_at : (d : DescriptionTree) (k n : ℕ) → k < n → is_twice d k ≡ true → first_from d k (n - k) ≡ Some k
stops_at d k n h e = step_is d k n h ∙ ap (λ (b : Bool). cond b (Some k) (first_from d (k + 1) (n - (k + 1)))) e
