-- What is kept of a description is kept of the one that contracts see.
use Rattle.std.proofs.Common.{◌≡◌, ℕ, List, Option, subst}
use Rattle.lisa_tree.specs.declared.tokens.Shape.{Shape}
use Rattle.lisa_tree.specs.declared.descriptions.Description.{Description}
use Rattle.lisa_tree.specs.Expressions.{ExprTree}
use Rattle.lisa_tree.specs.Descriptions.{DescriptionTree, description_tree}
use Rattle.lisa_meaning.specs.lisa_forms.declared.forms.Forms.{Forms}
use Rattle.lisa_meaning.specs.lisa_forms.declared.coding.Coding.{Coding}
use Rattle.scene_paths.specs.declared.before.Before.{Before}
use Rattle.scene_paths.specs.Kept.{IsKept}

module _ {f : Forms} {c : Coding} {ps : List Before} {bs : List (Shape × List ℕ)} {pl : List ℕ → Option ℕ} {cs : List (List ExprTree)} {r : Option ℕ} {l : ℕ} where
  pub kept_at : (a b : Description) → a ≡ b → IsKept (description_tree a) f c ps bs pl cs r l → IsKept (description_tree b) f c ps bs pl cs r l
  kept_at a b e k = subst (λ (d : Description). IsKept (description_tree d) f c ps bs pl cs r l) e k

  pub kept_of : (a b : DescriptionTree) → a ≡ b → IsKept a f c ps bs pl cs r l → IsKept b f c ps bs pl cs r l
  kept_of a b e k = subst (λ (d : DescriptionTree). IsKept d f c ps bs pl cs r l) e k
