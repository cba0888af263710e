-- Keys that compare as equal are the same.
use Rattle.std.proofs.Common.{◌≡◌, ℕ, Bool, List, nat_eq, sym, ap}
use Rattle.std.specs.Cmp.{unsigned_ties}
use Rattle.std.specs.Cmp.Lexicographic.{pointwise, slice_cmp}
use Rattle.std.specs.Ordering.{is_eq, nat_cmp}
use Rattle.std.proofs.lemmas.Map.Text.{is_eq-slice_cmp}
use Rattle.text_tables.specs.Beginnings.{with_if}

-- what is added for a sign
pub same_sign : (sign c form : ℕ) (forms : List ℕ) → with_if (is_eq (nat_cmp sign c)) form forms ≡ with_if (nat_eq sign c) form forms
same_sign sign c form forms = ap (λ (b : Bool). with_if b form forms) (sym (unsigned_ties sign c))

-- and for a run
pub same_run : (run w : List ℕ) (form : ℕ) (forms : List ℕ) → with_if (is_eq (slice_cmp nat_cmp run w)) form forms ≡ with_if (pointwise nat_eq run w) form forms
same_run run w form forms = ap (λ (b : Bool). with_if b form forms) (is_eq-slice_cmp run w)
