-- Sums of counts that stay at 2 ^ 64 - 1.
use Rattle.std.proofs.Common.{◌≡◌, ◌<◌, ◌≤◌, ◌+◌, ◌-◌, ◌*◌, ◌^◌, ℕ, zero, suc, min, List, [], ◌∷◌, Bool, true, false, cond, nat_eq, length, get_or, set, drop, drop-cons, add-one, map, filter, refl, ap, ap₂, sym, ◌∙◌, arith}
use Rattle.std.specs.Prelude.{sum_by}
use Rattle.std.specs.List.{AllByRecursion, range_with_len}
use Rattle.std.proofs.lemmas.Bool.{eq-eqb, ne_eqb}
use Rattle.std.proofs.lemmas.List.Sums.{sum_by-cons, sum_by-drop_more}
use Rattle.instruction_trees.specs.Bits.{one_if}
use Rattle.access_counts.specs.Ledgers.{capped, worth, worth_from, Gains}
use Rattle.access_counts.proofs.Worth.{capped_more, capped_both, capped_times, free, worth_add}
use Rattle.description_weight.specs.Weights.{one_at}

nothing_more : (n : ℕ) → n ≡ 0 + n
nothing_more n = omega arith

swapped : (a b : ℕ) → a * b ≡ b * a
swapped a b = grind arith

times_none : (a : ℕ) → a * 0 ≡ 0
times_none a = grind arith

times_one : (a : ℕ) → a * 1 ≡ a
times_one a = grind arith

left_capped : (a b : ℕ) → capped (capped a * b) ≡ capped (a * b)
left_capped a b = ap capped (nothing_more (capped a * b)) ∙ capped_times 0 a b ∙ sym (ap capped (nothing_more (a * b)))

pub products : (a b x y : ℕ) → capped a ≡ capped x → capped b ≡ capped y → capped (a * b) ≡ capped (x * y)
products a b x y e f =
    sym (left_capped a b) ∙ ap (λ (n : ℕ). capped (n * b)) e ∙ left_capped x b
    ∙ ap capped (swapped x b)
    ∙ sym (left_capped b x) ∙ ap (λ (n : ℕ). capped (n * x)) f ∙ left_capped y x
    ∙ ap capped (swapped y x)

-- ---- sums over a range

module _ (f g h w : ℕ → ℕ) where
  pub product_sums : (i n : ℕ) → ((k : ℕ) → i ≤ k → k < i + n → capped (f k) ≡ capped (h k)) → ((k : ℕ) → i ≤ k → k < i + n → capped (g k) ≡ capped (w k))
      → capped (sum_by (λ k. f k * g k) (range_with_len i n)) ≡ capped (sum_by (λ k. h k * w k) (range_with_len i n))
  product_sums i zero p q = refl
  product_sums i (suc n) p q =
      ap capped (sum_by-cons (λ k. f k * g k) i (range_with_len (i + 1) n))
      ∙ capped_both (f i * g i) (h i * w i) _ _ (products (f i) (g i) (h i) (w i) (p i (omega arith) (omega arith)) (q i (omega arith) (omega arith)))
      (product_sums (i + 1) n (λ k l m. p k (omega (arith, l)) (omega (arith, m))) (λ k l m. q k (omega (arith, l)) (omega (arith, m))))
      ∙ sym (ap capped (sum_by-cons (λ k. h k * w k) i (range_with_len (i + 1) n)))

pub range_step : (f : ℕ → ℕ) (i n : ℕ) → i < n → sum_by f (range_with_len i (n - i)) ≡ f i + sum_by f (range_with_len (i + 1) (n - (i + 1)))
range_step f i n h =
    let e : n - i ≡ suc (n - (i + 1)) = omega (arith, h) in
    ap (λ (k : ℕ). sum_by f (range_with_len i k)) e ∙ sum_by-cons f i (range_with_len (i + 1) (n - (i + 1)))

-- ---- the worth of one count alone

later_free : (k i : ℕ) (xs : List ℕ) → k < i → worth_from (one_at k) i xs ≡ 0
later_free k i [] h = refl
later_free k i (x ∷ xs) h =
    ap₂ (λ (a b : ℕ). a + b)
    (ap (λ (b : Bool). x * one_if b) (ne_eqb i k (λ e. absurd (omega (arith, e, h)))) ∙ times_none x)
    (later_free k (i + 1) xs (omega (arith, h)))

one_from : (k i j : ℕ) (xs : List ℕ) → k ≡ i + j → worth_from (one_at k) i xs ≡ get_or xs j 0
one_from k i zero [] is = refl
one_from k i (suc j) [] is = refl
one_from k i zero (x ∷ xs) is =
    let same : i ≡ k = omega (arith, is) in
    let none = later_free k (i + 1) xs (omega (arith, is)) in
    let here : x * one_if (nat_eq i k) ≡ x = ap (λ (b : Bool). x * one_if b) (eq-eqb i k same) ∙ times_one x in
    omega (arith, here, none)
one_from k i (suc j) (x ∷ xs) is =
    ap₂ (λ (a b : ℕ). a + b)
    (ap (λ (b : Bool). x * one_if b) (ne_eqb i k (λ e. absurd (omega (arith, e, is)))) ∙ times_none x)
    (one_from k (i + 1) j xs (omega (arith, is)))
    ∙ sym (nothing_more (get_or xs j 0))

pub worth_one : (k : ℕ) (xs : List ℕ) → worth (one_at k) xs ≡ get_or xs k 0
worth_one k xs = one_from k 0 k xs (omega arith)

-- ---- elements of lists all of which have something

pub all_at : {X : Type 0} (P : X → Type 0) (xs : List X) → AllByRecursion P xs → (i : ℕ) (d : X) → i < length xs → P (get_or xs i d)
all_at P [] all i d h = absurd (omega (arith, h))
all_at P (x ∷ xs) all zero d h = all.0
all_at P (x ∷ xs) all (suc i) d h = all_at P xs all.1 i d (omega (arith, h))

-- ---- two parts

pub two : (a b x y n : ℕ) → a ≡ capped x → b ≡ capped y → n ≡ capped (a + b) → n ≡ capped (x + y)
two a b x y n p q t = t ∙ ap capped (ap₂ (λ (m k : ℕ). m + k) p q) ∙ two_sums x y
  where
    two_sums : (m k : ℕ) → capped (capped m + capped k) ≡ capped (m + k)
    two_sums m k = omega arith

-- ---- the sum so far, and that of what is left

pub summed : (sum new here found left goal : ℕ) → new ≡ capped (sum + found) → found ≡ capped here → capped (sum + (here + left)) ≡ goal → capped (new + left) ≡ goal
summed sum new here found left goal e f h = (let g : capped (new + left) ≡ capped (sum + (here + left)) = omega (arith, e, f) in g) ∙ h

pub told : (sum left goal : ℕ) → sum < 2 ^ 64 → left ≡ 0 → capped (sum + left) ≡ goal → sum ≡ goal
told sum left goal s e h = (let g : sum ≡ capped (sum + left) = omega (arith, s, e) in g) ∙ h

pub passed : {X : Type 0} (f : X → ℕ) (xs : List X) (i : ℕ) → length xs ≤ i → sum_by f (drop i xs) ≡ 0
passed f [] zero h = refl
passed f [] (suc i) h = refl
passed f (x ∷ xs) zero h = absurd (omega (arith, h))
passed f (x ∷ xs) (suc i) h = passed f xs i (omega (arith, h))

pub range_past : (f : ℕ → ℕ) (i n : ℕ) → n ≤ i → sum_by f (range_with_len i (n - i)) ≡ 0
range_past f i n h = let e : n - i ≡ 0 = omega (arith, h) in ap (λ (k : ℕ). sum_by f (range_with_len i k)) e

pub one_time : (price : ℕ → ℕ) (xs : List ℕ) (i y : ℕ) → i < length xs → y ≡ capped (get_or xs i 0 + 1) → (left goal : ℕ) → capped (worth price xs + (price i + left)) ≡ goal → capped (worth price (set xs i y) + left) ≡ goal
one_time price xs i y h is left goal e =
    let g = worth_add price xs i 1 y h is in
    let one : 1 * price i ≡ price i = grind arith in
    capped_more (worth price (set xs i y)) (worth price xs + 1 * price i) left g.same
    ∙ ap capped (let s : worth price xs + 1 * price i + left ≡ worth price xs + (price i + left) = omega (arith, one) in s)
    ∙ e

pub one_summed : {X : Type 0} (f : X → ℕ) (all : List X) (i : ℕ) (x : X) → i < length all → x ≡ get_or all i x → sum_by f (drop i all) ≡ f x + sum_by f (drop (i + 1) all)
one_summed {X = X} f all i x h e = sum_by-drop_more f all i x h ∙ ap (λ (y : X). f y + sum_by f (drop (i + 1) all)) (sym e)
