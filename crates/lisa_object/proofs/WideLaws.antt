-- Numbers of up to 21 digits, from their last digit on.
use Rattle.std.proofs.Common.{◌≡◌, ℕ, ◌+◌, ◌-◌, ◌*◌, ◌/◌, ◌%◌, ◌^◌, ◌<◌, ◌≤◌, List, [], ◌∷◌, ◌++◌, length, take, get_or, refl, sym, ap, subst, ◌∙◌, inl, inr, arith, length-append}
use Rattle.std.specs.Prelude.{decimal, ◌⊎◌}
use Rattle.std.proofs.lemmas.List.{take_at, take_all, take_more}
use Rattle.std.proofs.lemmas.Bool.{cases_lt}
use Rattle.std.proofs.lemmas.Fmt.{decimal_digit, decimal_step_wide, length-decimal-le_wide}

pub wide_one : (d : ℕ) (text : List ℕ) → d < 10 → text ≡ (48 + d) ∷ [] → text ≡ decimal d
wide_one d text lt is = is ∙ sym (decimal_digit d lt)

pub wide_more : (v d : ℕ) (front text : List ℕ) → 0 < v → v < 10 ^ 20 → d < 10 → front ≡ decimal v → text ≡ front ++ (48 + d) ∷ [] → text ≡ decimal (10 * v + d)
wide_more v d front text some small lt is e =
    let up : (10 * v + d) / 10 ≡ v = omega arith in
    let low : (10 * v + d) % 10 ≡ d = omega arith in
    e ∙ ap (λ (l : List ℕ). l ++ (48 + d) ∷ []) is ∙ ap (λ (n : ℕ). decimal n ++ (48 + d) ∷ []) (sym up) ∙ ap (λ (n : ℕ). decimal ((10 * v + d) / 10) ++ (48 + n) ∷ []) (sym low)
    ∙ sym (decimal_step_wide (10 * v + d) (omega arith) (omega arith))

pub no_digits : (n : ℕ) → n < 10 ^ 21 → decimal n ≡ [] → ⊥
no_digits n lt e = elim (cases_lt n 10) [
  | inl low ↦ let f = sym (decimal_digit n low) ∙ e in cc
  | inr high ↦ let f : length (decimal (n / 10)) + 1 ≡ 0 = sym (length-append (decimal (n / 10)) ((48 + n % 10) ∷ [])) ∙ ap length (sym (decimal_step_wide n high (omega arith)) ∙ e) in omega (arith, f)
]

last_at : (p : List ℕ) (d : ℕ) → get_or (p ++ d ∷ []) (length p) 0 ≡ d
last_at [] d = refl
last_at (x ∷ p) d = last_at p d

abbrev pub front_of : List ℕ → List ℕ
front_of text = take (length text - 1) text

abbrev pub last_of : List ℕ → ℕ
last_of text = get_or text (length text - 1) 0

record Snoc (text f : List ℕ) (d : ℕ) : Type 0 where
  front : front_of text ≡ f
  last : last_of text ≡ d
  size : length text ≡ length f + 1

snoc : (text f : List ℕ) (d : ℕ) → text ≡ f ++ d ∷ [] → Snoc text f d
snoc text f d e =
    let size : length text ≡ length f + 1 = ap length e ∙ length-append f (d ∷ []) in
    let less : length text - 1 ≡ length f = omega arith in
    record {
      front = ap (λ (n : ℕ). take n text) less ∙ ap (take (length f)) e ∙ take_at f (d ∷ []) (length f) refl;
      last = ap (λ (n : ℕ). get_or text n 0) less ∙ ap (λ (l : List ℕ). get_or l (length f) 0) e ∙ last_at f d;
      size = size;
    }

pub data Written (text : List ℕ) (n : ℕ) : Type 0 where
  small : n < 10 → length text ≡ 1 → last_of text ≡ 48 + n → Written text n
  large : 10 ≤ n → front_of text ≡ decimal (n / 10) → 0 < length (decimal (n / 10)) → length text ≡ length (decimal (n / 10)) + 1 → last_of text ≡ 48 + n % 10 → Written text n

some_digits : (n : ℕ) → n < 10 ^ 21 → 0 < length (decimal n)
some_digits n lt = go (decimal n) refl
  where
    go : (l : List ℕ) → decimal n ≡ l → 0 < length (decimal n)
    go [] e = absurd (no_digits n lt e)
    go (d ∷ ds) e = rw e (omega arith)

pub written : (text : List ℕ) (n : ℕ) → n < 10 ^ 21 → text ≡ decimal n → Written text n
written text n lt e = elim (cases_lt n 10) [
  | inl low ↦ let s = snoc text [] (48 + n) (e ∙ decimal_digit n low) in small low s.size s.last
  | inr high ↦ let s = snoc text (decimal (n / 10)) (48 + n % 10) (e ∙ decimal_step_wide n high (omega arith)) in large high s.front (some_digits (n / 10) (omega arith)) s.size s.last
]

pub whole_text : (text : List ℕ) → 0 < length text → text ≡ front_of text ++ last_of text ∷ []
whole_text text some = sym (take_all (length text - 1 + 1) text (omega arith)) ∙ take_more text (length text - 1) 0 (omega arith)

-- ---- the exits

module _ (text : List ℕ) where
  pub none_there : length text < 1 → (n : ℕ) → n < 10 ^ 21 → text ≡ decimal n → ⊥
  none_there lt n small_ e = go (written text n small_ e)
    where
      go : Written text n → ⊥
      go (small a b f) = omega arith
      go (large a b p s f) = omega arith

  pub bad_digit : (last_of text < 48) ⊎ (57 < last_of text) → (n : ℕ) → n < 10 ^ 21 → text ≡ decimal n → ⊥
  bad_digit (inl lt) n small_ e = go (written text n small_ e)
    where
      go : Written text n → ⊥
      go (small a b f) = omega arith
      go (large a b p s f) = omega arith
  bad_digit (inr lt) n small_ e = go (written text n small_ e)
    where
      go : Written text n → ⊥
      go (small a b f) = omega arith
      go (large a b p s f) = omega arith

  pub one_read : length text ≡ 1 → 48 ≤ last_of text → last_of text ≤ 57 → text ≡ decimal (last_of text - 48)
  one_read one low high =
      let none : front_of text ≡ [] = ap (λ (n : ℕ). take (n - 1) text) one in
      let digit : 48 + (last_of text - 48) ≡ last_of text = omega arith in
      wide_one (last_of text - 48) text (omega arith) (whole_text text (omega arith) ∙ ap (λ (l : List ℕ). l ++ last_of text ∷ []) none ∙ ap (λ (b : ℕ). b ∷ []) (sym digit))

  pub one_found : length text ≡ 1 → (n : ℕ) → n < 10 ^ 21 → text ≡ decimal n → last_of text - 48 ≡ n
  one_found one n small_ e = go (written text n small_ e)
    where
      go : Written text n → last_of text - 48 ≡ n
      go (small a b f) = omega arith
      go (large a b p s f) = absurd (omega arith)

  -- the front's number
  pub front_number : 1 < length text → (n : ℕ) → n < 10 ^ 21 → text ≡ decimal n → (front_of text ≡ decimal (n / 10)) × (10 ≤ n) × (last_of text ≡ 48 + n % 10)
  front_number many n small_ e = go (written text n small_ e)
    where
      go : Written text n → (front_of text ≡ decimal (n / 10)) × (10 ≤ n) × (last_of text ≡ 48 + n % 10)
      go (small a b f) = absurd (omega arith)
      go (large a b p s f) = (b, a, f)

  pub more_read : (v : ℕ) → 0 < length text → 0 < v → v < 10 ^ 20 → 48 ≤ last_of text → last_of text ≤ 57 → front_of text ≡ decimal v → text ≡ decimal (10 * v + (last_of text - 48))
  more_read v some some_ less low high e =
      let digit : 48 + (last_of text - 48) ≡ last_of text = omega arith in
      wide_more v (last_of text - 48) (front_of text) text some_ less (omega arith) e (whole_text text some ∙ ap (λ (b : ℕ). front_of text ++ b ∷ []) (sym digit))

pub too_long : (word : List ℕ) → 21 < length word → (n : ℕ) → n < 10 ^ 21 → word ≡ decimal n → ⊥
too_long word long n lt e = omega (arith, length-decimal-le_wide 21 n (omega arith) lt (omega arith), ap length e)

front_size : (text : List ℕ) → 0 < length text → length text ≡ length (front_of text) + 1
front_size text some = ap length (whole_text text some) ∙ length-append (front_of text) (last_of text ∷ [])

pub front_none : (text : List ℕ) → 1 ≤ length text → length (front_of text) ≡ 0 → length text ≡ 1
front_none text some none = omega (arith, front_size text (omega arith))

pub front_some : (text : List ℕ) → 1 ≤ length text → 0 < length (front_of text) → 1 < length text
front_some text some more = omega (arith, front_size text (omega arith))
