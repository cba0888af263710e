-- A table with one entry more.
use Rattle.std.proofs.Common.{◌≡◌, ◌≢◌, ◌<◌, ◌+◌, ℕ, zero, suc, List, [], ◌∷◌, ◌++◌, Option, length, refl, ap, sym, ◌∙◌, arith, ⊎_elim}
use Rattle.std.proofs.lemmas.Bool.{cases_eq}
use Rattle.least_fixed_points.specs.Settles.{entry}

entry_old : (table : List (Option ℕ)) (x : Option ℕ) (k : ℕ) → k < length table → entry (table ++ x ∷ []) k ≡ entry table k
entry_old [] x k h = absurd (omega arith)
entry_old (y ∷ table) x zero h = refl
entry_old (y ∷ table) x (suc k) h = entry_old table x k (omega arith)

entry_new : (table : List (Option ℕ)) (x : Option ℕ) → entry (table ++ x ∷ []) (length table) ≡ x
entry_new [] x = refl
entry_new (y ∷ table) x = entry_new table x

pub one_entry : (table : List (Option ℕ)) (x : Option ℕ) (f : ℕ → Option ℕ) (n : ℕ) → length table ≡ n → ((k : ℕ) → k < n → entry table k ≡ f k) → x ≡ f n
    → (k : ℕ) → k < n + 1 → entry (table ++ x ∷ []) k ≡ f k
one_entry table x f n len so_far here k h = ⊎_elim
    (λ (e : k ≡ n). ap (entry (table ++ x ∷ [])) (e ∙ sym len) ∙ entry_new table x ∙ here ∙ ap f (sym e))
    (λ (ne : k ≢ n). let l : k < n = omega (arith, h, ne) in entry_old table x k (omega (arith, l, len)) ∙ so_far k l)
    (cases_eq k n)
