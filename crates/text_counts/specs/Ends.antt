-- Past the last node nothing follows.
use Rattle.std.proofs.Common.{◌≡◌, ℕ, ◌-◌, ◌≤◌, List, None, Bool, false, cond, nat_lt, length, refl, ap, ◌∙◌, arith}
use Rattle.std.proofs.lemmas.Option.{slice_get_past}
use Rattle.lisa_tree.specs.Descriptions.{DescriptionTree}
use Rattle.lisa_tree.specs.Declarations.{entries, choices, what_at}
use Rattle.lisa_tree.specs.Paths.{Operation, Choosing, Declaring, node_count}
use Rattle.text_counts.specs.Sums.{Counts}
use Rattle.text_counts.specs.Steps.{Counting}
use Rattle.text_counts.specs.Alike.{entry_along, node_along, follows_along}

what_past : (d : DescriptionTree) (i : ℕ) → length (entries d) ≤ i → what_at d i ≡ None
what_past d i h = rw (slice_get_past (entries d) i h) refl

past : (a n : ℕ) → n ≤ a → nat_lt a n ≡ false
past a n h = grind arith

module _ (d : DescriptionTree) (means : ℕ → List ℕ) (alike : List ℕ) (counting : Counting) (known : Counts) where
  pub along_ends : (a : ℕ) → node_count d ≤ a → follows_along d means alike counting known a ≡ None
  along_ends a h =
      let operations : nat_lt a (length d.operations) ≡ false = past a (length d.operations) (omega arith) in
      let chosen : nat_lt (a - length d.operations) (length (choices d)) ≡ false = past (a - length d.operations) (length (choices d)) (omega arith) in
      let what : what_at d (a - length d.operations - length (choices d)) ≡ None = what_past d (a - length d.operations - length (choices d)) (omega arith) in
      ap (λ (b : Bool). node_along d means alike counting known (cond b (Operation a) (cond (nat_lt (a - length d.operations) (length (choices d))) (Choosing (a - length d.operations)) (Declaring (a - length d.operations - length (choices d)))))) operations
      ∙ ap (λ (b : Bool). node_along d means alike counting known (cond b (Choosing (a - length d.operations)) (Declaring (a - length d.operations - length (choices d))))) chosen
      ∙ ap (entry_along d means alike counting known (a - length d.operations - length (choices d))) what
