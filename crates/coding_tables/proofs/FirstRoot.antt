-- The first root, by going over all operations.
use Rattle.std.proofs.Common.{◌≡◌, ◌<◌, ◌+◌, ◌-◌, ℕ, suc, List, Option, None, Some, ap, ◌∙◌, arith}
use Rattle.std.specs.Prelude.{option_map}
use Rattle.std.specs.Option.{option_or}
use Rattle.lisa_tree.specs.Descriptions.{DescriptionTree}
use Rattle.lisa_tree.specs.Operations.{coding_in, sections_at}
use Rattle.coding_checks.specs.Widths.{choice_named}
use Rattle.coding_tables.specs.Instructions.{root, root_group, root_from, choice_of_root}

step_is : (d : DescriptionTree) (k n : ℕ) → k < n → (group : Option (List ℕ)) → root_group (coding_in (sections_at d k)) ≡ group
    → root_from d k (n - k) ≡ option_or (option_map (root k) group) (root_from d (k + 1) (n - (k + 1)))
step_is d k n h group e =
    ap (root_from d k) (let s : n - k ≡ suc (n - (k + 1)) = omega arith in s)
    ∙ ap (λ (g : Option (List ℕ)). option_or (option_map (root k) g) (root_from d (k + 1) (n - (k + 1)))) e

pub goes_past : (d : DescriptionTree) (k n : ℕ) → k < n → root_group (coding_in (sections_at d k)) ≡ None
    → choice_of_root d (root_from d k (n - k)) ≡ choice_of_root d (root_from d (k + 1) (n - (k + 1)))
goes_past d k n h e = ap (choice_of_root d) (step_is d k n h None e)

pub stops_at : (d : DescriptionTree) (k n : ℕ) (group : List ℕ) → k < n → root_group (coding_in (sections_at d k)) ≡ Some group
    → choice_of_root d (root_from d k (n - k)) ≡ choice_named d k group
stops_at d k n group h e = ap (choice_of_root d) (step_is d k n h (Some group) e)
