-- The numbers below a bound, each once, are as many as the bound; and a text has as many numbers as its pieces.
use Rattle.std.proofs.Common.{◌≡◌, ◌⊎◌, ◌<◌, ◌≤◌, ◌+◌, ◌++◌, ℕ, zero, suc, List, [], ◌∷◌, Some, Bool, true, false, cond, length, refl, ap, ◌∙◌, subst, arith, inl, inr}
use Rattle.std.specs.Prelude.{slice_get}
use Rattle.asm_source.specs.Bytes.{is_word}
use Rattle.instruction_trees.specs.Trees.{In, here, there}
use Rattle.instruction_trees.specs.Forms.{Distinct, none, more}
use Rattle.instruction_trees.specs.Values.{upto}
use Rattle.instruction_texts.specs.declared.shapes.Shape.{Shape}
use Rattle.instruction_texts.specs.declared.shapes.Shape.TheVariants.{Other}
use Rattle.instruction_texts.specs.Symbols.{Decimal, WithSign, Hexadecimal, Sym, Byte, Gap, Shown, gather, flush_shape, shown_values}
use Rattle.lisa_syntax.specs.Orders.{number_count, IsOrder}

-- ---- places in lists

got_in : {A : Type 0} (xs : List A) (k : ℕ) (x : A) → slice_get xs k ≡ Some x → In x xs
got_in [] k x e = absurd (cc e)
got_in (y ∷ xs) zero x e = subst (λ z. In z (y ∷ xs)) (some_is e) here
  where
    some_is : Some y ≡ Some x → y ≡ x
    some_is h = cc h
got_in (y ∷ xs) (suc k) x e = there (got_in xs k x e)

pub in_got : {A : Type 0} (xs : List A) (x : A) → In x xs → (k : ℕ) × (slice_get xs k ≡ Some x)
in_got [] x i = elim i [ ]
in_got (y ∷ xs) x (here) = (zero, refl)
in_got (y ∷ xs) x (there i) = let r = in_got xs x i in (suc r.0, r.1)

one_place : {A : Type 0} (xs : List A) → Distinct xs → (j k : ℕ) (x : A) → slice_get xs j ≡ Some x → slice_get xs k ≡ Some x → j ≡ k
one_place [] d j k x e f = absurd (cc e)
one_place (y ∷ xs) d zero zero x e f = refl
one_place {A = A} (y ∷ xs) (more out d) zero (suc k) x e f = absurd (out (subst (λ (z : A). In z xs) (same e) (got_in xs k x f)))
  where
    same : Some y ≡ Some x → x ≡ y
    same h = cc h
one_place {A = A} (y ∷ xs) (more out d) (suc j) zero x e f = absurd (out (subst (λ (z : A). In z xs) (same f) (got_in xs j x e)))
  where
    same : Some y ≡ Some x → x ≡ y
    same h = cc h
one_place (y ∷ xs) (more out d) (suc j) (suc k) x e f = ap suc (one_place xs d j k x e f)

-- ---- lists within lists

record Removed (x : ℕ) (xs : List ℕ) : Type 0 where
  rest : List ℕ
  long : length xs ≡ suc (length rest)
  kept : (y : ℕ) → In y xs → (y ≡ x) ⊎ In y rest

first_or : (x y : ℕ) (xs : List ℕ) → In y (x ∷ xs) → (y ≡ x) ⊎ In y xs
first_or x y xs (here) = inl refl
first_or x y xs (there i) = inr i

removed : (x : ℕ) (xs : List ℕ) → In x xs → Removed x xs
removed x [] i = elim i [ ]
removed x (y ∷ xs) (here) = record { rest = xs; long = refl; kept = λ z j. first_or y z xs j }
removed x (y ∷ xs) (there i) =
    let r = removed x xs i in
    record {
      rest = y ∷ r.rest;
      long = ap suc r.long;
      kept = kept r;
    }
  where
    kept : (r : Removed x xs) (z : ℕ) → In z (y ∷ xs) → (z ≡ x) ⊎ In z (y ∷ r.rest)
    kept r z (here) = inr here
    kept r z (there j) = elim (r.kept z j) [ inl e ↦ inl e | inr q ↦ inr (there q) ]

no_longer : (xs ys : List ℕ) → Distinct xs → ((x : ℕ) → In x xs → In x ys) → length xs ≤ length ys
no_longer [] ys d f = omega arith
no_longer (x ∷ xs) ys (more out d) f =
    let r = removed x ys (f x here) in
    let i = no_longer xs r.rest d (λ y j. by r y j (r.kept y (f y (there j)))) in
    let e = r.long in
    omega (arith, i, e)
  where
    by : (r : Removed x ys) (y : ℕ) → In y xs → (y ≡ x) ⊎ In y r.rest → In y r.rest
    by r y j (inl e) = absurd (out (subst (λ z. In z xs) e j))
    by r y j (inr q) = q

-- ---- numbers one after the other

pub upto_long : (a n : ℕ) → length (upto a n) ≡ n
upto_long a zero = refl
upto_long a (suc n) = ap suc (upto_long (suc a) n)

upto_from : (a n i : ℕ) → In i (upto a n) → (a ≤ i) × (i < a + n)
upto_from a zero i j = elim j [ ]
upto_from a (suc n) i (here) = (omega arith, omega arith)
upto_from a (suc n) i (there j) = let r = upto_from (suc a) n i j in (let l = r.0 in omega (arith, l), let l = r.1 in omega (arith, l))

upto_in : (a n i : ℕ) → a ≤ i → i < a + n → In i (upto a n)
upto_in a zero i low high = absurd (omega (arith, low, high))
upto_in a (suc n) i low high = elim (same_or a i low) [ inl e ↦ subst (λ z. In z (a ∷ upto (suc a) n)) e here | inr above ↦ there (upto_in (suc a) n i above (omega (arith, high))) ]
  where
    same_or : (a i : ℕ) → a ≤ i → (a ≡ i) ⊎ (suc a ≤ i)
    same_or zero zero low = inl refl
    same_or zero (suc i) low = inr (omega arith)
    same_or (suc a) zero low = absurd (omega (arith, low))
    same_or (suc a) (suc i) low = elim (same_or a i (omega (arith, low))) [ inl e ↦ inl (ap suc e) | inr above ↦ inr (omega (arith, above)) ]

upto_once : (a n : ℕ) → Distinct (upto a n)
upto_once a zero = none
upto_once a (suc n) = more (λ j. let low = (upto_from (suc a) n a j).0 in absurd (omega (arith, low))) (upto_once (suc a) n)

-- so many numbers are below the bound
pub order_long : (xs : List ℕ) (n : ℕ) → ((i : ℕ) → In i xs → i < n) → ((i : ℕ) → i < n → In i xs) → Distinct xs → length xs ≡ n
order_long xs n inside all once =
    let long = upto_long 0 n in
    let most = no_longer xs (upto 0 n) once (λ i j. upto_in 0 n i (omega arith) (let h = inside i j in omega (arith, h))) in
    let least = no_longer (upto 0 n) xs (upto_once 0 n) (λ i j. all i (let h = (upto_from 0 n i j).1 in omega (arith, h))) in
    omega (arith, long, most, least)

pub is_order : (xs : List ℕ) (n : ℕ) → ((i : ℕ) → In i xs → i < n) → ((i : ℕ) → i < n → In i xs) → Distinct xs → IsOrder xs
is_order xs n inside all once =
    let counted = order_long xs n inside all once in
    record {
      inside = λ k i e. let h = inside i (got_in xs k i e) in omega (arith, counted, h);
      all = λ i h nowhere. let r = in_got xs i (all i (omega (arith, counted, h))) in nowhere r.0 r.1;
      once = one_place xs once;
    }

-- ---- pieces

flushed : (p : List ℕ) (ss : List Shape) → number_count (flush_shape p ss) ≡ number_count ss
flushed [] ss = refl
flushed (c ∷ p) ss = refl

pub shown_count : (p : List ℕ) (s : List (Sym ℕ)) → number_count (gather p s) ≡ length (shown_values s)
shown_count p [] = flushed p []
shown_count p (Gap ∷ s) = flushed p (gather [] s) ∙ shown_count [] s
shown_count p (Byte c ∷ s) = by (is_word c) (shown_count (p ++ c ∷ []) s) (shown_count [] s)
  where
    by : (b : Bool) → number_count (gather (p ++ c ∷ []) s) ≡ length (shown_values s) → number_count (gather [] s) ≡ length (shown_values s) → number_count (cond b (gather (p ++ c ∷ []) s) (flush_shape p (Other c ∷ gather [] s))) ≡ length (shown_values s)
    by true in_run apart = in_run
    by false in_run apart = flushed p (Other c ∷ gather [] s) ∙ apart
shown_count p (Shown Decimal n v ∷ s) = ap suc (shown_count [] s)
shown_count p (Shown Hexadecimal n v ∷ s) = ap suc (shown_count [] s)
shown_count p (Shown WithSign n v ∷ s) = ap suc (shown_count [] s)
