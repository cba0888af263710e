-- What can't be denied: nothing says how it is found.
use Rattle.std.proofs.Common.{◌≡◌, ◌↔◌, ◌⊎◌, ◌≤◌, ◌<◌, ℕ, zero, suc, Bool, true, false, cond, nat_lt, refl, sym, ap, subst, arith, inl, inr, ⊎_elim}
use Rattle.std.proofs.lemmas.Bool.{cases_lt, lt-ltb, le-ltb}

pub record Undenied (A : Type 0) : Type 0 where
  pub stands : (A → ⊥) → ⊥

pub surely : {A : Type 0} → A → Undenied A
surely a = record { stands = λ never. never a }

pub then : {A B : Type 0} → Undenied A → (A → Undenied B) → Undenied B
then a f = record { stands = λ never. a.stands (λ x. (f x).stands never) }

pub either : (P : Type 0) → Undenied (P ⊎ (P → ⊥))
either P = record { stands = λ never. never (inr (λ p. never (inl p))) }

-- ---- values for all numbers

module _ {T : Type 0} (P : ℕ → T → Type 0) (t : T) where
  abbrev Below : ℕ → (ℕ → T) → Type 0
  Below n f = (i : ℕ) → i < n → P i (f i)

  abbrev with_last : ℕ → (ℕ → T) → T → ℕ → T
  with_last n f u i = cond (nat_lt i n) (f i) u

  below_value : (n i : ℕ) (f : ℕ → T) (u : T) → i < n → f i ≡ with_last n f u i
  below_value n i f u h = ap (λ (b : Bool). cond b (f i) u) (sym (lt-ltb i n h))

  last_value : (n i : ℕ) (f : ℕ → T) (u : T) → n ≤ i → u ≡ with_last n f u i
  last_value n i f u h = ap (λ (b : Bool). cond b (f i) u) (sym (le-ltb i n h))

  one_more : (n : ℕ) (f : ℕ → T) (u : T) → Below n f → P n u → Below (suc n) (with_last n f u)
  one_more n f u fs p i h = ⊎_elim
      (λ (l : i < n). subst (P i) (below_value n i f u l) (fs i l))
      (λ (m : n ≤ i). let same : n ≡ i = omega arith in subst (P i) (last_value n i f u m) (subst (λ (k : ℕ). P k u) same p))
      (cases_lt i n)

  -- where each number below a bound has a value, some function has them
  pub chosen : (n : ℕ) → ((i : ℕ) → i < n → Undenied ((u : T) × P i u)) → Undenied ((f : ℕ → T) × ((i : ℕ) → i < n → P i (f i)))
  chosen zero each = surely ((λ _. t), (λ i h. absurd (omega arith)))
  chosen (suc n) each =
      then (chosen n (λ i h. each i (omega arith))) (λ (g : (f : ℕ → T) × Below n f).
      then (each n (omega arith)) (λ (x : (u : T) × P n u). surely (with_last n g.0 x.0, one_more n g.0 x.0 g.1 x.1)))

  -- and one for all numbers, where those from the bound on have this value
  pub table : (n : ℕ) → ((i : ℕ) → n ≤ i → P i t) → ((i : ℕ) → i < n → Undenied ((u : T) × P i u)) → Undenied ((f : ℕ → T) × ((i : ℕ) → P i (f i)))
  table n past each = then (chosen n each) (λ (g : (f : ℕ → T) × Below n f). surely (with_last n g.0 t, all g.0 g.1))
    where
      all : (f : ℕ → T) → Below n f → (i : ℕ) → P i (with_last n f t i)
      all f fs i = ⊎_elim
          (λ (l : i < n). subst (P i) (below_value n i f t l) (fs i l))
          (λ (m : n ≤ i). subst (P i) (last_value n i f t m) (past i m))
          (cases_lt i n)

-- ---- marks

pub marked : (P : Type 0) → Undenied ((b : Bool) × ((b ≡ true) ↔ P))
marked P = then (either P) (λ x. surely (⊎_elim (λ (p : P). holding p) (λ (never : P → ⊥). none never) x))
  where
    holding : P → (b : Bool) × ((b ≡ true) ↔ P)
    holding p = (true, ((λ e. p), (λ q. refl)))

    none : (P → ⊥) → (b : Bool) × ((b ≡ true) ↔ P)
    none never = (false, ((λ e. absurd (cc e)), (λ q. absurd (never q))))

-- what holds of numbers below a bound alone is marked
pub marks : (P : ℕ → Type 0) (n : ℕ) → ((i : ℕ) → P i → i < n) → Undenied ((m : ℕ → Bool) × ((i : ℕ) → (m i ≡ true) ↔ P i))
marks P n below = table (λ i b. (b ≡ true) ↔ P i) false n past (λ i h. marked (P i))
  where
    past : (i : ℕ) → n ≤ i → (false ≡ true) ↔ P i
    past i h = ((λ e. absurd (cc e)), (λ p. absurd (let l = below i p in omega arith)))

-- ---- the first and the last

-- Each number below a bound is good or bad: all are good, or one is the first that is bad.
pub record IsFirstBad (Good Bad : ℕ → Type 0) (n i : ℕ) : Type 0 where
  pub within : i < n
  pub bad : Bad i
  pub good : (j : ℕ) → j < i → Good j

pub first_bad : (Good Bad : ℕ → Type 0) (n : ℕ) → ((i : ℕ) → i < n → Undenied (Good i ⊎ Bad i)) → Undenied (((i : ℕ) → i < n → Good i) ⊎ ((i : ℕ) × IsFirstBad Good Bad n i))
first_bad Good Bad zero each = surely (inl (λ i h. absurd (omega arith)))
first_bad Good Bad (suc n) each =
    then (first_bad Good Bad n (λ i h. each i (omega arith))) (λ x. then (each n (omega arith)) (λ y. surely (next x y)))
  where
    wider : (i : ℕ) → IsFirstBad Good Bad n i → IsFirstBad Good Bad (suc n) i
    wider i f = record { within = (let l = f.within in omega arith); bad = f.bad; good = f.good }

    next : ((i : ℕ) → i < n → Good i) ⊎ ((i : ℕ) × IsFirstBad Good Bad n i) → Good n ⊎ Bad n → ((i : ℕ) → i < suc n → Good i) ⊎ ((i : ℕ) × IsFirstBad Good Bad (suc n) i)
    next (inr f) y = inr (f.0, wider f.0 f.1)
    next (inl all) (inl g) = inl (λ i h. ⊎_elim (λ (l : i < n). all i l) (λ (m : n ≤ i). let same : n ≡ i = omega arith in subst Good same g) (cases_lt i n))
    next (inl all) (inr b) = inr (n, record { within = omega arith; bad = b; good = all })

-- none below a bound has it, or one is the first
pub least : (P : ℕ → Type 0) (n : ℕ) → Undenied (((i : ℕ) → i < n → P i → ⊥) ⊎ ((i : ℕ) × IsFirstBad (λ j. P j → ⊥) P n i))
least P n = first_bad (λ j. P j → ⊥) P n (λ i h. then (either (P i)) (λ x. surely (⊎_elim (λ (p : P i). turned_bad i p) (λ (never : P i → ⊥). turned_good i never) x)))
  where
    turned_bad : (i : ℕ) → P i → (P i → ⊥) ⊎ P i
    turned_bad i p = inr p

    turned_good : (i : ℕ) → (P i → ⊥) → (P i → ⊥) ⊎ P i
    turned_good i never = inl never

-- the first is no greater than another
pub not_past : (P : ℕ → Type 0) (n i j : ℕ) → IsFirstBad (λ k. P k → ⊥) P n i → P j → i ≤ j
not_past P n i j f p = ⊎_elim (λ (l : j < i). absurd (f.good j l p)) (λ (m : i ≤ j). m) (cases_lt j i)

pub record IsGreatest (P : ℕ → Type 0) (i : ℕ) : Type 0 where
  pub has : P i
  pub last : (j : ℕ) → P j → j ≤ i

-- of what numbers below a bound alone have, none has it, or one is the greatest
pub greatest : (P : ℕ → Type 0) (n : ℕ) → ((i : ℕ) → P i → i < n) → Undenied (((i : ℕ) → P i → ⊥) ⊎ ((i : ℕ) × IsGreatest P i))
greatest P zero below = surely (inl (λ i p. absurd (let l = below i p in omega arith)))
greatest P (suc n) below = then (either (P n)) (λ x. ⊎_elim (λ (p : P n). there p) (λ (never : P n → ⊥). greatest P n (lower never)) x)
  where
    lower : (P n → ⊥) → (i : ℕ) → P i → i < n
    lower never i p = ⊎_elim (λ (l : i < n). l) (λ (m : n ≤ i). absurd (let b = below i p in let same : i ≡ n = omega arith in never (subst P same p))) (cases_lt i n)

    there : P n → Undenied (((i : ℕ) → P i → ⊥) ⊎ ((i : ℕ) × IsGreatest P i))
    there p = surely (inr (n, record { has = p; last = λ j q. (let b = below j q in omega arith) }))
