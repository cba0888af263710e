-- How many brackets a list of tokens opens at a time, and a spelling that opens no more of them than another does.
use Rattle.std.proofs.Common.{◌≡◌, ℕ, zero, suc, ◌+◌, ◌-◌, ◌<◌, ◌≤◌, max, [], ◌∷◌, ◌++◌, length, take, ◌⊎◌, inl, inr, refl, sym, ap, subst, ◌∙◌, arith}
use Rattle.std.specs.List.{fold}
use Rattle.lisa_tree.specs.declared.tokens.Sign.TheVariants as signs
use Rattle.lisa_tree.specs.declared.tokens.TokenPart.{TokenPart}
use Rattle.lisa_tree.specs.declared.tokens.TokenPart.TheVariants as parts
use Rattle.lisa_tree.specs.Grammar.{Toks}
use Rattle.lisa_tree.specs.Brackets.{open_after, IsFlat}

-- how many are open behind the tokens, and the most that are open at one of them, where so many are open before them
abbrev pub run : ℕ → Toks → ℕ
run n ts = fold open_after n ts

abbrev pub peak : ℕ → Toks → ℕ
peak n [] = n
peak n (t ∷ ts) = max n (peak (open_after n t) ts)

-- the tokens close what they open, and open so many at a time
pub record IsEven (ts : Toks) (height : ℕ) : Type 0 where
  pub back : (n : ℕ) → run n ts ≡ n
  pub top : (n : ℕ) → peak n ts ≡ n + height

-- a token that opens nothing and closes nothing
abbrev pub IsPlain : TokenPart → Type 0
IsPlain t = (n : ℕ) → open_after n t ≡ n

abbrev pub IsOpening : TokenPart → Type 0
IsOpening t = (n : ℕ) → open_after n t ≡ n + 1

abbrev pub IsClosing : TokenPart → Type 0
IsClosing t = (n : ℕ) → open_after n t ≡ n - 1

run-append : (n : ℕ) (xs ys : Toks) → run n (xs ++ ys) ≡ run (run n xs) ys
run-append n [] ys = refl
run-append n (t ∷ xs) ys = run-append (open_after n t) xs ys

peak-append : (n : ℕ) (xs ys : Toks) → peak n (xs ++ ys) ≡ max (peak n xs) (peak (run n xs) ys)
peak-append n [] ys = at_least n ys
  where
    at_least : (n : ℕ) (ys : Toks) → peak n ys ≡ max n (peak n ys)
    at_least n [] = omega arith
    at_least n (t ∷ ys) = omega arith
peak-append n (t ∷ xs) ys = ap (max n) (peak-append (open_after n t) xs ys) ∙ omega arith

pub even_none : IsEven [] 0
even_none = record { back = λ n. refl; top = λ n. omega arith }

pub even_append : {xs ys : Toks} {a b : ℕ} → IsEven xs a → IsEven ys b → IsEven (xs ++ ys) (max a b)
even_append {xs = xs} {ys = ys} {a = a} {b = b} h k = record {
  back = λ n. run-append n xs ys ∙ ap (λ (m : ℕ). run m ys) (h.back n) ∙ k.back n;
  top = λ n. peak-append n xs ys ∙ ap (λ (m : ℕ). max (peak n xs) (peak m ys)) (h.back n) ∙ omega (arith, h.top n, k.top n);
}

pub even_plain : {t : TokenPart} {xs : Toks} {a : ℕ} → IsPlain t → IsEven xs a → IsEven (t ∷ xs) a
even_plain {t = t} {xs = xs} {a = a} p h = record {
  back = λ n. ap (λ (m : ℕ). run m xs) (p n) ∙ h.back n;
  top = λ n. ap (λ (m : ℕ). max n (peak m xs)) (p n) ∙ omega (arith, h.top n);
}

-- brackets round some tokens, and others behind them
pub even_within : (o c : TokenPart) {xs ys : Toks} {a b : ℕ} → IsOpening o → IsClosing c → IsEven xs a → IsEven ys b → IsEven (o ∷ (xs ++ (c ∷ ys))) (max (suc a) b)
even_within o c {xs = xs} {ys = ys} {a = a} {b = b} p q h k = record {
  back = λ n. ap (λ (m : ℕ). run m (xs ++ (c ∷ ys))) (p n) ∙ run-append (n + 1) xs (c ∷ ys) ∙ ap (λ (m : ℕ). run m (c ∷ ys)) (h.back (n + 1)) ∙ ap (λ (m : ℕ). run m ys) (closed n) ∙ k.back n;
  top = λ n.
      let e = ap (λ (m : ℕ). peak m (xs ++ (c ∷ ys))) (p n) ∙ peak-append (n + 1) xs (c ∷ ys) ∙ ap (λ (m : ℕ). max (peak (n + 1) xs) (peak m (c ∷ ys))) (h.back (n + 1))
      ∙ ap (λ (m : ℕ). max (peak (n + 1) xs) (max (n + 1) (peak m ys))) (closed n) in
      omega (arith, e, h.top (n + 1), k.top n);
}
  where
    closed : (n : ℕ) → open_after (n + 1) c ≡ n
    closed n = q (n + 1) ∙ omega arith

-- ---- lists that are flat

flat_top : (bound n : ℕ) (ts : Toks) → n ≤ bound → ((k : ℕ) → k < length ts → run n (take (k + 1) ts) ≤ bound) → peak n ts ≤ bound
flat_top bound n [] le h = le
flat_top bound n (t ∷ ts) le h =
    let first : run n (take (0 + 1) (t ∷ ts)) ≤ bound = h 0 (omega arith) in
    let next : peak (open_after n t) ts ≤ bound = flat_top bound (open_after n t) ts first (λ k lt. shifted k (h (k + 1) (omega arith))) in
    omega (arith, next)
  where
    shifted : (k : ℕ) → run n (take (k + 1 + 1) (t ∷ ts)) ≤ bound → run (open_after n t) (take (k + 1) ts) ≤ bound
    shifted k h = let e : k + 1 + 1 ≡ suc (k + 1) = omega arith in subst (λ (m : ℕ). run n (take m (t ∷ ts)) ≤ bound) e h

top_flat : (bound n : ℕ) (ts : Toks) → peak n ts ≤ bound → (k : ℕ) → run n (take k ts) ≤ bound
top_flat bound n ts le zero = at_start ts le
  where
    at_start : (ts : Toks) → peak n ts ≤ bound → n ≤ bound
    at_start [] le = le
    at_start (t ∷ ts) le = omega arith
top_flat bound n [] le (suc k) = le
top_flat bound n (t ∷ ts) le (suc k) = top_flat bound (open_after n t) ts (omega arith) k

pub even_of_flat : {ts : Toks} {h : ℕ} → IsEven ts h → IsFlat ts → h ≤ 64
even_of_flat {ts = ts} even flat = omega (arith, even.top 0, flat_top 64 0 ts (omega arith) flat)

pub flat_of_even : {ts : Toks} {h : ℕ} → IsEven ts h → h ≤ 64 → IsFlat ts
flat_of_even {ts = ts} even le = λ k lt. top_flat 64 0 ts (omega (arith, even.top 0)) (k + 1)

-- ---- tokens that close what they open

sort_of : (t : TokenPart) → IsOpening t ⊎ (IsClosing t ⊎ IsPlain t)
sort_of (parts.Sign signs.OpenRound) = inl (λ n. refl)
sort_of (parts.Sign signs.OpenSquare) = inl (λ n. refl)
sort_of (parts.Sign signs.OpenBrace) = inl (λ n. refl)
sort_of (parts.Sign signs.CloseRound) = inr (inl (λ n. refl))
sort_of (parts.Sign signs.CloseSquare) = inr (inl (λ n. refl))
sort_of (parts.Sign signs.CloseBrace) = inr (inl (λ n. refl))
sort_of _ = inr (inr (λ n. refl))

-- from one bracket more the count stays one higher, or comes to be the same
abbrev Apart : ℕ → ℕ → Type 0
Apart a b = (b ≡ a) ⊎ (b ≡ suc a)

one_higher : (t : TokenPart) (a : ℕ) → Apart (open_after a t) (open_after (suc a) t)
one_higher t a = go (sort_of t) a
  where
    go : IsOpening t ⊎ (IsClosing t ⊎ IsPlain t) → (a : ℕ) → Apart (open_after a t) (open_after (suc a) t)
    go (inl p) a = inr (omega (arith, p a, p (suc a)))
    go (inr (inl p)) zero = inl (omega (arith, p 0, p 1))
    go (inr (inl p)) (suc a) = inr (omega (arith, p (suc a), p (suc (suc a))))
    go (inr (inr p)) a = inr (omega (arith, p a, p (suc a)))

abbrev StaysApart : ℕ → ℕ → Toks → Type 0
StaysApart a b ts = (run b ts ≡ run a ts) ⊎ ((run b ts ≡ suc (run a ts)) × (peak b ts ≡ suc (peak a ts)))

stays_apart : (ts : Toks) (a b : ℕ) → Apart a b → StaysApart a b ts
stays_apart ts a b (inl e) = inl (ap (λ (n : ℕ). run n ts) e)
stays_apart [] a b (inr e) = inr (e, e)
stays_apart (t ∷ ts) a b (inr e) = go (stays_apart ts (open_after a t) (open_after b t) (subst (λ (n : ℕ). Apart (open_after a t) (open_after n t)) (sym e) (one_higher t a)))
  where
    go : StaysApart (open_after a t) (open_after b t) ts → StaysApart a b (t ∷ ts)
    go (inl same) = inl same
    go (inr h) = inr (h.0, omega (arith, h.1))

closed_higher : (ts : Toks) → ((n : ℕ) → run n ts ≡ n) → (a : ℕ) → peak (suc a) ts ≡ suc (peak a ts)
closed_higher ts back a = go (stays_apart ts a (suc a) (inr refl))
  where
    go : StaysApart a (suc a) ts → peak (suc a) ts ≡ suc (peak a ts)
    go (inl same) = absurd (omega (arith, same, back a, back (suc a)))
    go (inr h) = h.1

pub even_of_closed : (ts : Toks) → ((n : ℕ) → run n ts ≡ n) → IsEven ts (peak 0 ts)
even_of_closed ts back = record { back = back; top = top }
  where
    top : (n : ℕ) → peak n ts ≡ n + peak 0 ts
    top zero = omega arith
    top (suc n) = omega (arith, closed_higher ts back n, top n)
