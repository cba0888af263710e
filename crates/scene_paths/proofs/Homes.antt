-- A child by the link of the operation that declares it.
use Rattle.std.proofs.Common.{◌≡◌, List, [], ◌∷◌, ℕ, Option, None, Some, refl, ap}
use Rattle.std.proofs.lemmas.Option.{same_Some}
use Rattle.lisa_tree.specs.Descriptions.{DescriptionTree}
use Rattle.lisa_meaning.specs.instruction_forms.Trees.{FormTree}
use Rattle.lisa_meaning.specs.activation_trees.Starting.{plain_named}
use Rattle.lisa_meaning.specs.Scenes.{Link, child_at_home, child_part, chosen, onto}
use Rattle.scene_paths.specs.Paths.{first_link}

pub below_none : (d : DescriptionTree) (form : Option FormTree) (n : List ℕ) (links : List Link) → first_link links ≡ None → child_at_home d form n links ≡ []
below_none d form n [] e = refl
below_none d form n (here ∷ above) e = absurd (cc e)

pub below_some : (d : DescriptionTree) (form : Option FormTree) (n : List ℕ) (links : List Link) (l : Link) → first_link links ≡ Some l → child_at_home d form n links ≡ onto (chosen (plain_named d l.operation n) (child_part d form n l)) links
below_some d form n [] l e = absurd (cc e)
below_some d form n (here ∷ above) l e = ap (λ (x : Link). onto (chosen (plain_named d x.operation n) (child_part d form n x)) (here ∷ above)) (same_Some here l e)
