-- Numbers in rows of words.
use Rattle.std.proofs.Common.{◌≡◌, ℕ, ◌/◌, ◌%◌, sym, ap, ◌∙◌, arith, nat_eq, ⊎_elim}
use Rattle.std.proofs.lemmas.Bool.{eq-eqb, ne_eqb, cases_eq}

-- two numbers of one word
pub apart : (other number : ℕ) → other / 64 ≡ number / 64 → nat_eq (other % 64) (number % 64) ≡ nat_eq other number
apart other number same =
    ⊎_elim
    (λ e. eq-eqb (other % 64) (number % 64) (ap (λ n. n % 64) e) ∙ sym (eq-eqb other number e))
    (λ ne. ne_eqb (other % 64) (number % 64) (λ e. ne (omega arith)) ∙ sym (ne_eqb other number ne))
    (cases_eq other number)
