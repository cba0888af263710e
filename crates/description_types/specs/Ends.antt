-- Past the last node nothing follows.
use Rattle.std.proofs.Common.{◌≡◌, ℕ, ◌-◌, ◌≤◌, Option, None, Bool, false, cond, nat_lt, length, refl, ap, ◌∙◌, arith}
use Rattle.std.proofs.lemmas.Option.{slice_get_past}
use Rattle.lisa_tree.specs.Descriptions.{DescriptionTree}
use Rattle.lisa_tree.specs.Declarations.{entries, choices, what_at}
use Rattle.lisa_tree.specs.Paths.{Operation, Choosing, Declaring, node_count}
use Rattle.description_types.specs.Facts.{Fact, entry_value, node_value, follows}

pub what_past : (d : DescriptionTree) (i : ℕ) → length (entries d) ≤ i → what_at d i ≡ None
what_past d i h = rw (slice_get_past (entries d) i h) refl

pub past : (a n : ℕ) → n ≤ a → nat_lt a n ≡ false
past a n h = grind arith

module _ {T : Type 0} (d : DescriptionTree) (fact : Fact T) (known : ℕ → Option T) where
  pub follows_ends : (a : ℕ) → node_count d ≤ a → follows d fact known a ≡ None
  follows_ends a h =
      let operations : nat_lt a (length d.operations) ≡ false = past a (length d.operations) (omega arith) in
      let chosen : nat_lt (a - length d.operations) (length (choices d)) ≡ false = past (a - length d.operations) (length (choices d)) (omega arith) in
      let what : what_at d (a - length d.operations - length (choices d)) ≡ None = what_past d (a - length d.operations - length (choices d)) (omega arith) in
      ap (λ (b : Bool). node_value d fact known (cond b (Operation a) (cond (nat_lt (a - length d.operations) (length (choices d))) (Choosing (a - length d.operations)) (Declaring (a - length d.operations - length (choices d)))))) operations
      ∙ ap (λ (b : Bool). node_value d fact known (cond b (Choosing (a - length d.operations)) (Declaring (a - length d.operations - length (choices d))))) chosen
      ∙ ap (entry_value d fact known (a - length d.operations - length (choices d))) what
