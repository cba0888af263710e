-- Tables by number, one entry after the other.
use Rattle.std.proofs.Common.{◌≡◌, ◌<◌, ◌≤◌, ◌+◌, ℕ, false, List, [], ◌∷◌, ◌++◌, Option, None, length, get_or, refl, ap, sym, ◌∙◌, arith, ⊎_elim}
use Rattle.std.proofs.lemmas.Bool.{cases_lt}
use Rattle.std.proofs.lemmas.List.{get_or_past}
use Rattle.std.proofs.lemmas.Option.{slice_get_past}
use Rattle.std.proofs.lemmas.Grind.{common_steps}
use Rattle.lisa_tree.specs.Descriptions.{DescriptionTree}
use Rattle.lisa_tree.specs.Operations.{sections_at}
use Rattle.lisa_tree.specs.Declarations.{choices, entries, owner_at, what_at, entry_name_at, alternatives_at}
use Rattle.coding_checks.specs.Uneven.{is_uneven}
use Rattle.coding_checks.specs.Written.{no_writing, writing_in, writing_at}

module _ {T : Type 0} (f : ℕ → T) (none : T) where
  pub one_more : (xs : List T) (x : T) (k : ℕ) → length xs ≡ k → ((i : ℕ) → i < k → get_or xs i none ≡ f i) → x ≡ f k → (i : ℕ) → i < k + 1 → get_or (xs ++ x ∷ []) i none ≡ f i
  one_more xs x k len each is i h = ⊎_elim
      (λ (below : i < k). grind (arith, common_steps, each i below))
      (λ (above : k ≤ i). let same : i ≡ k = omega arith in grind (arith, common_steps, ap f same))
      (cases_lt i k)

  pub all_of : (xs : List T) (k : ℕ) → length xs ≡ k → ((i : ℕ) → i < k → get_or xs i none ≡ f i) → ((i : ℕ) → k ≤ i → f i ≡ none) → (i : ℕ) → get_or xs i none ≡ f i
  all_of xs k len each past i = ⊎_elim
      (λ (below : i < k). each i below)
      (λ (above : k ≤ i). get_or_past xs i none (omega (arith, len)) ∙ sym (past i above))
      (cases_lt i k)

alternatives_past : (d : DescriptionTree) (c : ℕ) → length (choices d) ≤ c → alternatives_at d c ≡ []
alternatives_past d c h = rw (slice_get_past (choices d) c h) refl

-- past the choices nothing is uneven
pub uneven_past : (widths : ℕ → Option ℕ) (d : DescriptionTree) (c : ℕ) → length (choices d) ≤ c → is_uneven widths d (alternatives_at d c) ≡ false
uneven_past widths d c h = ap (is_uneven widths d) (alternatives_past d c h)

name_past : (d : DescriptionTree) (i : ℕ) → length (entries d) ≤ i → entry_name_at d i ≡ None
name_past d i h = rw (slice_get_past (entries d) i h) refl

-- past the declared names nothing is amiss
pub writing_past : (d : DescriptionTree) (i : ℕ) → length (entries d) ≤ i → writing_at d i ≡ no_writing
writing_past d i h = ap (writing_in (sections_at d (owner_at d i)) (what_at d i)) (name_past d i h)
