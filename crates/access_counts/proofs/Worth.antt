-- What counts are worth once one of them is added to, where they stay at 2 ^ 64 - 1.
use Rattle.std.proofs.Common.{◌≡◌, ◌<◌, ◌≤◌, ◌+◌, ◌-◌, ◌*◌, ◌^◌, ℕ, zero, suc, min, List, [], ◌∷◌, length, get_or, set, drop, drop-cons, add-one, replicate, refl, ap, ap₂, sym, ◌∙◌, arith, ⊎_elim}
use Rattle.std.proofs.lemmas.Bool.{cases_lt}
use Rattle.access_counts.specs.Ledgers.{capped, worth_from, worth, Gains}

-- ---- capped sums

pub capped_more : (x y z : ℕ) → capped x ≡ capped y → capped (x + z) ≡ capped (y + z)
capped_more x y z e = omega (arith, e)

pub capped_both : (x y z w : ℕ) → capped x ≡ capped y → capped z ≡ capped w → capped (x + z) ≡ capped (y + w)
capped_both x y z w e f = omega (arith, e, f)

times_suc : (a c : ℕ) → a * suc c ≡ a + a * c
times_suc a c = grind arith

times_zero : (a : ℕ) → a * 0 ≡ 0
times_zero a = grind arith

zero_times : (a : ℕ) → 0 * a ≡ 0
zero_times a = grind arith

times_more : (a b c : ℕ) → (a + b) * c ≡ a * c + b * c
times_more a b c = grind arith

times_sum : (a b c : ℕ) → a * (b + c) ≡ a * b + a * c
times_sum a b c = grind arith

times_group : (a b c : ℕ) → (a * b) * c ≡ a * (b * c)
times_group a b c = grind arith

large : (z t c : ℕ) → 2 ^ 64 - 1 ≤ t → capped (z + t * suc c) ≡ 2 ^ 64 - 1
large z t c h =
    let e = times_suc t c in
    omega (arith, e, h)

pub capped_times : (z v c : ℕ) → capped (z + capped v * c) ≡ capped (z + v * c)
capped_times z v zero = ap (λ (n : ℕ). capped (z + n)) (times_zero (capped v) ∙ sym (times_zero v))
capped_times z v (suc c) = ⊎_elim
    (λ (s : v < 2 ^ 64). ap (λ (n : ℕ). capped (z + n * suc c)) (let e : capped v ≡ v = omega (arith, s) in e))
    (λ (l : 2 ^ 64 ≤ v). large z (capped v) c (omega (arith, l)) ∙ sym (large z v c (omega (arith, l))))
    (cases_lt v (2 ^ 64))

-- ---- one count that is added to

regroup : (a w b : ℕ) → (a + w) + b ≡ (b + w) + a
regroup a w b = omega arith

from_set : (price : ℕ → ℕ) (s : ℕ) (xs : List ℕ) (i k y : ℕ) → k ≡ s + i → i < length xs → worth_from price s (set xs i y) + get_or xs i 0 * price k ≡ worth_from price s xs + y * price k
from_set price s [] i k y is h = absurd (omega arith)
from_set price s (x ∷ xs) zero k y is h =
    ap (λ (j : ℕ). (y * price s + worth_from price (s + 1) xs) + x * price j) is'
    ∙ regroup (y * price s) (worth_from price (s + 1) xs) (x * price s)
    ∙ sym (ap (λ (j : ℕ). (x * price s + worth_from price (s + 1) xs) + y * price j) is')
  where
    is' : k ≡ s
    is' = omega (arith, is)
from_set price s (x ∷ xs) (suc i) k y is h =
    let e = from_set price (s + 1) xs i k y (omega (arith, is)) (omega arith) in
    omega (arith, e)

rest_and : (new old none here there : ℕ) → new + here ≡ old + there → none + here ≡ old + 0 → new ≡ none + there
rest_and new old none here there e f = omega (arith, e, f)

pub worth_add : (price : ℕ → ℕ) (xs : List ℕ) (i m y : ℕ) → i < length xs → y ≡ capped (get_or xs i 0 + m) → Gains (worth price xs) (m * price i) (worth price (set xs i y))
worth_add price xs i m y h is =
    let c = price i in
    let g = get_or xs i 0 in
    let none = worth price (set xs i 0) in
    let new = from_set price 0 xs i i y (omega arith) h in
    let gone : none + g * c ≡ worth price xs + 0 = from_set price 0 xs i i 0 (omega arith) h ∙ ap (λ (n : ℕ). worth price xs + n) (zero_times c) in
    let split : worth price (set xs i y) ≡ none + y * c = rest_and _ (worth price xs) none (g * c) (y * c) new gone in
    let both : none + (g + m) * c ≡ worth price xs + m * c = (let e = times_more g m c in omega (arith, e, gone)) in
    record { same = ap capped (split ∙ ap (λ (n : ℕ). none + n * c) is) ∙ capped_times none (g + m) c ∙ ap capped both }

-- ---- one count after the other

pub from_drop : (price : ℕ → ℕ) (xs : List ℕ) (i : ℕ) → i < length xs → worth_from price i (drop i xs) ≡ get_or xs i 0 * price i + worth_from price (i + 1) (drop (i + 1) xs)
from_drop price xs i h =
    ap (worth_from price i) (drop-cons xs i 0 h)
    ∙ ap (λ (k : ℕ). get_or xs i 0 * price i + worth_from price (i + 1) (drop k xs)) (sym (add-one i))

pub from_zeros : (price : ℕ → ℕ) (i n : ℕ) → worth_from price i (replicate n 0) ≡ 0
from_zeros price i zero = refl
from_zeros price i (suc n) = ap₂ (λ (a b : ℕ). a + b) (zero_times (price i)) (from_zeros price (i + 1) n)

-- ---- costs that are added one after the other

pub gains_nothing : (old times : ℕ) → Gains old (times * 0) old
gains_nothing old times = record { same = ap capped (let e = times_zero times in let f : old ≡ old + times * 0 = omega (arith, e) in f) }

pub gains_never : (old x : ℕ) → Gains old (0 * x) old
gains_never old x = record { same = ap capped (let e = zero_times x in let f : old ≡ old + 0 * x = omega (arith, e) in f) }

pub gains_both : (a b c times x y : ℕ) → Gains a (times * x) b → Gains b (times * y) c → Gains a (times * (x + y)) c
gains_both a b c times x y f g = record {
  same = g.same ∙ capped_more b (a + times * x) (times * y) f.same ∙ ap capped (let e = times_sum times x y in let f : a + times * x + times * y ≡ a + times * (x + y) = omega (arith, e) in f);
}

pub gains_turns : (a b times turns x m : ℕ) → m ≡ capped (times * turns) → Gains a (m * x) b → Gains a (times * (turns * x)) b
gains_turns a b times turns x m is f = record {
  same = f.same ∙ ap (λ (n : ℕ). capped (a + n * x)) is ∙ capped_times a (times * turns) x ∙ ap (λ (n : ℕ). capped (a + n)) (times_group times turns x);
}

-- of one of several parts
pub gains_first : (a b rest x : ℕ) → Gains a x b → Gains (a + rest) x (b + rest)
gains_first a b rest x f = record {
  same = capped_more b (a + x) rest f.same ∙ ap capped (let e : a + x + rest ≡ a + rest + x = omega arith in e);
}

pub gains_later : (a b front x : ℕ) → Gains a x b → Gains (front + a) x (front + b)
gains_later a b front x f = record {
  same = ap capped (let e : front + b ≡ b + front = omega arith in e) ∙ capped_more b (a + x) front f.same ∙ ap capped (let e : a + x + front ≡ front + a + x = omega arith in e);
}

-- ---- what is left

swap : (a b c : ℕ) → a + b + c ≡ a + c + b
swap a b c = omega arith

pub goes_on : (now next goal times here left : ℕ) → Gains now (times * here) next → capped (now + times * (here + left)) ≡ goal → capped (next + times * left) ≡ goal
goes_on now next goal times here left g e =
    capped_more next (now + times * here) (times * left) g.same
    ∙ ap capped (let s = times_sum times here left in let f : now + times * here + times * left ≡ now + times * (here + left) = omega (arith, s) in f)
    ∙ e

pub ends : (now goal times : ℕ) → capped (now + times * 0) ≡ goal → capped now ≡ goal
ends now goal times e = ap capped (let z = times_zero times in let f : now ≡ now + times * 0 = omega (arith, z) in f) ∙ e

-- ---- over a list of counts

pub from_past : (price : ℕ → ℕ) (i k : ℕ) (xs : List ℕ) → length xs ≤ k → worth_from price i (drop k xs) ≡ 0
from_past price i zero [] h = refl
from_past price i (suc k) [] h = refl
from_past price i zero (x ∷ xs) h = absurd (omega (arith, h))
from_past price i (suc k) (x ∷ xs) h = from_past price i k xs (omega (arith, h))

pub one_worth : (price : ℕ → ℕ) (xs : List ℕ) (i now next goal : ℕ) → i < length xs → Gains now (get_or xs i 0 * price i) next
    → capped (now + worth_from price i (drop i xs)) ≡ goal → capped (next + worth_from price (i + 1) (drop (i + 1) xs)) ≡ goal
one_worth price xs i now next goal h g e =
    let here = get_or xs i 0 * price i in
    let left = worth_from price (i + 1) (drop (i + 1) xs) in
    capped_more next (now + here) left g.same
    ∙ ap capped (let f : now + here + left ≡ now + (here + left) = omega arith in f)
    ∙ ap (λ (n : ℕ). capped (now + n)) (sym (from_drop price xs i h))
    ∙ e

pub all_worth : (price : ℕ → ℕ) (xs : List ℕ) (i now goal : ℕ) → length xs ≤ i → capped (now + worth_from price i (drop i xs)) ≡ goal → capped now ≡ goal
all_worth price xs i now goal h e =
    ap capped (let z = from_past price i i xs h in let f : now ≡ now + worth_from price i (drop i xs) = omega (arith, z) in f) ∙ e

pub free : (price : ℕ → ℕ) (i : ℕ) (xs : List ℕ) → ((k : ℕ) → price k ≡ 0) → worth_from price i xs ≡ 0
free price i [] h = refl
free price i (x ∷ xs) h = ap₂ (λ (a b : ℕ). a + b) (ap (λ (n : ℕ). x * n) (h i) ∙ times_zero x) (free price (i + 1) xs h)

pub starts : (a w : ℕ) → a ≡ 0 → capped (a + w) ≡ capped w
starts a w e = ap capped (let f : a + w ≡ w = omega (arith, e) in f)

-- an element that is none is worth nothing
pub skipped : (price : ℕ → ℕ) (xs : List ℕ) (i : ℕ) → i < length xs → get_or xs i 0 ≡ 0 → worth_from price (i + 1) (drop (i + 1) xs) ≡ worth_from price i (drop i xs)
skipped price xs i h e =
    let none : get_or xs i 0 * price i ≡ 0 = ap (λ (n : ℕ). n * price i) e ∙ zero_times (price i) in
    let step = from_drop price xs i h in
    omega (arith, none, step)

pub any_default : (xs : List ℕ) (i d x : ℕ) → i < length xs → x ≡ get_or xs i d → x ≡ get_or xs i 0
any_default [] i d x h e = absurd (omega (arith, h))
any_default (y ∷ xs) zero d x h e = e
any_default (y ∷ xs) (suc i) d x h e = any_default xs i d x (omega (arith, h)) e
