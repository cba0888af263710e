-- The first size that exceeds its limit.
use Rattle.std.proofs.Common.{◌≡◌, ◌<◌, ◌≤◌, ◌+◌, ◌-◌, ◌^◌, ℕ, suc, Bool, true, false, List, [], ◌∷◌, None, Some, cond, length, min, nat_lt, get_or, drop, drop-cons, map, refl, sym, ap, ◌∙◌, arith, add-one}
use Rattle.std.specs.Prelude.{find, option_map}
use Rattle.std.specs.List.{AllByRecursion}
use Rattle.std.proofs.lemmas.Bool.Decides.{nat_tests}
use Rattle.lisa_tree.specs.declared.faults.DescFault.TheVariants as faults
use Rattle.description_sizes.specs.declared.sizes.Measure.{Measure}
use Rattle.description_sizes.specs.declared.sizes.Measure.TheVariants as measures
use Rattle.description_sizes.specs.declared.sizes.Size.{Size}
use Rattle.description_sizes.specs.Limits.{word_of, limit_of, exceeds, told, fault}

-- ---- one size after the other

step_is : (all : List Size) (i : ℕ) (s : Size) → i < length all → s ≡ get_or all i s → find exceeds (drop i all) ≡ cond (exceeds s) (Some s) (find exceeds (drop (i + 1) all))
step_is all i s h e =
    ap (find exceeds) (drop-cons all i s h)
    ∙ ap (λ (x : Size). cond (exceeds x) (Some x) (find exceeds (drop (suc i) all))) (sym e)
    ∙ ap (λ (m : ℕ). cond (exceeds s) (Some s) (find exceeds (drop m all))) (sym (add-one i))

pub goes_past : (all : List Size) (i : ℕ) (s : Size) → i < length all → s ≡ get_or all i s → exceeds s ≡ false → find exceeds (drop i all) ≡ find exceeds (drop (i + 1) all)
goes_past all i s h e off = step_is all i s h e ∙ ap (λ (b : Bool). cond b (Some s) (find exceeds (drop (i + 1) all))) off

pub stops_at : (all : List Size) (i : ℕ) (s : Size) → i < length all → s ≡ get_or all i s → exceeds s ≡ true → find exceeds (drop i all) ≡ Some s
stops_at all i s h e on = step_is all i s h e ∙ ap (λ (b : Bool). cond b (Some s) (find exceeds (drop (i + 1) all))) on

-- ---- counts that are told as 2 ^ 64 - 1

limit_small : (what : Measure) → limit_of what < 2 ^ 64 - 1
limit_small measures.Stages = omega arith
limit_small measures.Pins = omega arith
limit_small measures.Operations = omega arith
limit_small measures.Arrays = omega arith
limit_small measures.Cells = omega arith
limit_small measures.Forms = omega arith
limit_small measures.Occurrences = omega arith
limit_small measures.Items = omega arith
limit_small measures.Statements = omega arith
limit_small measures.Nodes = omega arith

less_told : (limit n top : ℕ) → limit < top → nat_lt limit (min n top) ≡ nat_lt limit n
less_told limit n top h = grind (arith, nat_tests)

pub exceeds_told : (s : Size) → exceeds (told s) ≡ exceeds s
exceeds_told s = less_told (limit_of s.what) s.count (2 ^ 64 - 1) (limit_small s.what)

twice_told : (n top : ℕ) → min (min n top) top ≡ min n top
twice_told n top = omega arith

pub fault_told : (s : Size) → fault (told s) ≡ fault s
fault_told s = ap (λ (n : ℕ). faults.TooMany (word_of s.what) n (limit_of s.what)) (twice_told s.count (2 ^ 64 - 1))

pub find_told : (all : List Size) → find exceeds (map told all) ≡ option_map told (find exceeds all)
find_told [] = refl
find_told (s ∷ rest) =
    ap (λ (b : Bool). cond b (Some (told s)) (find exceeds (map told rest))) (exceeds_told s)
    ∙ at (exceeds s) (find_told rest)
  where
    at : (b : Bool) → find exceeds (map told rest) ≡ option_map told (find exceeds rest) → cond b (Some (told s)) (find exceeds (map told rest)) ≡ option_map told (cond b (Some s) (find exceeds rest))
    at true e = refl
    at false e = e

-- ---- nothing exceeds its limit

pub none_exceeds : (all : List Size) → find exceeds all ≡ None → AllByRecursion (λ (s : Size). s.count ≤ limit_of s.what) all
none_exceeds [] e = tt
none_exceeds (s ∷ rest) e = at (exceeds s) refl e (none_exceeds rest)
  where
    at : (b : Bool) → exceeds s ≡ b → cond b (Some s) (find exceeds rest) ≡ None → (find exceeds rest ≡ None → AllByRecursion (λ (s : Size). s.count ≤ limit_of s.what) rest)
        → (s.count ≤ limit_of s.what) × AllByRecursion (λ (s : Size). s.count ≤ limit_of s.what) rest
    at true is h more = absurd (cc h)
    at false is h more = (grind (arith, nat_tests), more h)

pub exceeds_none : (all : List Size) → AllByRecursion (λ (s : Size). s.count ≤ limit_of s.what) all → find exceeds all ≡ None
exceeds_none [] h = refl
exceeds_none (s ∷ rest) h =
    let off : exceeds s ≡ false = (let l = h.0 in grind (arith, nat_tests)) in
    ap (λ (b : Bool). cond b (Some s) (find exceeds rest)) off ∙ exceeds_none rest h.1
