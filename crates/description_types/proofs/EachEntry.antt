-- Tables of declared names, name by name.
use Rattle.std.proofs.Common.{◌≡◌, ◌<◌, ◌≤◌, ◌+◌, ℕ, zero, suc, List, [], ◌∷◌, ◌++◌, length, get_or, Option, None, refl, ap, sym, ◌∙◌, arith, ⊎_elim}
use Rattle.std.proofs.lemmas.Bool.{cases_lt}
use Rattle.std.proofs.lemmas.List.{get_or_past}
use Rattle.std.proofs.lemmas.Option.{slice_get_past}
use Rattle.std.proofs.lemmas.Grind.{common_steps}
use Rattle.lisa_tree.specs.Descriptions.{DescriptionTree}
use Rattle.lisa_tree.specs.Operations.{sections_at}
use Rattle.lisa_tree.specs.Declarations.{entries, owner_at, entry_name_at, what_at}
use Rattle.least_fixed_points.specs.Settles.{entry}
use Rattle.description_types.specs.Codings.{no_coding, name_coding, coding_at}
use Rattle.description_types.specs.Uses.{no_traits, what_traits, own_traits}

module _ {T : Type 0} (none : T) (f : ℕ → T) where
  pub one_more : (xs : List T) (x : T) (k : ℕ) → length xs ≡ k → ((i : ℕ) → i < k → get_or xs i none ≡ f i) → x ≡ f k → (i : ℕ) → i < k + 1 → get_or (xs ++ x ∷ []) i none ≡ f i
  one_more xs x k len each is i h = ⊎_elim
      (λ (below : i < k). grind (arith, common_steps, each i below))
      (λ (above : k ≤ i). let same : i ≡ k = omega arith in grind (arith, common_steps, ap f same))
      (cases_lt i k)

  pub all_entries : (xs : List T) (k : ℕ) → length xs ≡ k → ((i : ℕ) → i < k → get_or xs i none ≡ f i) → ((i : ℕ) → k ≤ i → f i ≡ none) → (i : ℕ) → get_or xs i none ≡ f i
  all_entries xs k len each past i = ⊎_elim
      (λ (below : i < k). each i below)
      (λ (above : k ≤ i). get_or_past xs i none (omega (arith, len)) ∙ sym (past i above))
      (cases_lt i k)

-- past the last declared name
pub coding_past : (d : DescriptionTree) (k : ℕ) → k ≡ length (entries d) → (i : ℕ) → k ≤ i → coding_at d i ≡ no_coding
coding_past d k count i h = ap (name_coding (sections_at d (owner_at d i))) name_past
  where
    name_past : entry_name_at d i ≡ None
    name_past = rw (slice_get_past (entries d) i (omega (arith, count))) refl

pub traits_past : (d : DescriptionTree) (k : ℕ) → k ≡ length (entries d) → (i : ℕ) → k ≤ i → own_traits d i ≡ no_traits
traits_past d k count i h = ap (what_traits d i) none
  where
    none : what_at d i ≡ None
    none = rw (slice_get_past (entries d) i (omega (arith, count))) refl

pub entry_get : {T : Type 0} (table : List (Option T)) (i : ℕ) → entry table i ≡ get_or table i None
entry_get [] i = refl
entry_get (x ∷ xs) zero = refl
entry_get (x ∷ xs) (suc i) = entry_get xs i
