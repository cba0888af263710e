-- The first operation that has a root.
use Rattle.std.proofs.Common.{◌≡◌, ◌<◌, ◌≤◌, ◌+◌, ◌-◌, ◌∙◌, ℕ, suc, true, false, Option, None, Some, refl, sym, ap, arith}
use Rattle.std.specs.Prelude.{option_map}
use Rattle.std.specs.Option.{option_or}
use Rattle.lisa_tree.specs.Descriptions as trees
use Rattle.lisa_tree.specs.Descriptions.{CodingTree, DescriptionTree}
use Rattle.lisa_tree.specs.Operations.{coding_in, sections_at, is_root}
use Rattle.lisa_meaning.specs.coding_tables.Instructions.{Root, root, root_group, root_at, root_from}

module _ (d : DescriptionTree) (o : ℕ) where
  with_root : is_root d o ≡ true → option_map (λ (found : Root). found.operation) (root_at d o) ≡ Some o
  with_root is = by (coding_in (sections_at d o)) refl
    where
      by : (part : Option CodingTree) → coding_in (sections_at d o) ≡ part → option_map (λ (found : Root). found.operation) (option_map (root o) (root_group part)) ≡ Some o
      by None at = absurd (let none : is_root d o ≡ false = cc at in let h = sym none ∙ is in cc h)
      by (Some (trees.Root place group)) at = refl
      by (Some (trees.Items all)) at = absurd (let none : is_root d o ≡ false = cc at in let h = sym none ∙ is in cc h)

  without_root : is_root d o ≡ false → root_at d o ≡ None
  without_root is = by (coding_in (sections_at d o)) refl
    where
      by : (part : Option CodingTree) → coding_in (sections_at d o) ≡ part → option_map (root o) (root_group part) ≡ None
      by None at = refl
      by (Some (trees.Root place group)) at = absurd (let one : is_root d o ≡ true = cc at in let h = sym one ∙ is in cc h)
      by (Some (trees.Items all)) at = refl

  or_later : (r : Option Root) (rest : Option Root) (n : ℕ) → option_map (λ (found : Root). found.operation) r ≡ Some n → option_map (λ (found : Root). found.operation) (option_or r rest) ≡ Some n
  or_later None rest n e = absurd (cc e)
  or_later (Some r) rest n e = e

  pub root_here : (count : ℕ) → o < count → is_root d o ≡ true → option_map (λ (found : Root). found.operation) (root_from d o (count - o)) ≡ Some o
  root_here count low is =
      let more : count - o ≡ suc (count - (o + 1)) = omega (arith, low) in
      ap (λ (n : ℕ). option_map (λ (found : Root). found.operation) (root_from d o n)) more ∙ or_later (root_at d o) (root_from d (o + 1) (count - (o + 1))) o (with_root is)

  pub root_past : (count : ℕ) → o < count → is_root d o ≡ false → root_from d o (count - o) ≡ root_from d (o + 1) (count - (o + 1))
  root_past count low is =
      let more : count - o ≡ suc (count - (o + 1)) = omega (arith, low) in
      ap (λ (n : ℕ). root_from d o n) more ∙ ap (λ (r : Option Root). option_or r (root_from d (o + 1) (count - (o + 1)))) (without_root is)

pub no_root : (d : DescriptionTree) (o count : ℕ) → count ≤ o → root_from d o (count - o) ≡ None
no_root d o count h = let none : count - o ≡ 0 = omega (arith, h) in ap (λ (n : ℕ). root_from d o n) none
