-- Marks of what declared names may mean.
use Rattle.std.proofs.Common.{◌≡◌, ◌<◌, ◌↔◌, ℕ, zero, suc, List, [], ◌∷◌, Option, None, Some, Bool, true, length, map, refl, sym, ap, ◌∙◌, subst}
use Rattle.std.specs.Option.{is_some}
use Rattle.std.proofs.lemmas.Option.{slice_get_within}
use Rattle.lisa_tree.specs.Descriptions.{DescriptionTree}
use Rattle.lisa_tree.specs.Declarations.{entries}
use Rattle.graph_paths.specs.Paths.{saw}
use Rattle.least_fixed_points.specs.Settles.{entry}
use Rattle.meant_declarations.specs.Meant.{MayMean, itself, higher, SomeMeant, IsFound}
use Rattle.description_types.specs.declared.values.Trait.{Trait}
use Rattle.description_types.specs.declared.values.Trait.TheVariants as which
use Rattle.description_types.specs.Uses.{holds, own_traits, TraitMarks, traits_by}
use Rattle.description_types.specs.Tables.{AreMeant, AreTraits}

-- what is meant is a declared name
pub meant_below : (d : DescriptionTree) {i j : ℕ} → MayMean d i j → j < length (entries d)
meant_below d (itself e is other same) = subst (λ (k : ℕ). k < length (entries d)) same (slice_get_within (entries d) _ e is)
meant_below d (higher e p k is what above at more) = meant_below d more

-- and so is what means it
pub meant_from : (d : DescriptionTree) {i j : ℕ} → MayMean d i j → i < length (entries d)
meant_from d (itself e is other same) = slice_get_within (entries d) _ e is
meant_from d (higher e p k is what above at more) = slice_get_within (entries d) _ e is

pub saw_present : {T : Type 0} (found : List (Option T)) (i : ℕ) → saw (map is_some found) i ≡ is_some (entry found i)
saw_present [] i = refl
saw_present (x ∷ xs) zero = refl
saw_present (x ∷ xs) (suc i) = saw_present xs i

module _ (d : DescriptionTree) (holds : ℕ → Bool) (marks : List Bool) (each : (i : ℕ) → i < length (entries d) → saw marks i ≡ holds i) where
  pub found_meant : (found : List (Option ℕ)) (present : List Bool) → ((i : ℕ) → IsFound d marks i (entry found i)) → present ≡ map is_some found → AreMeant d (λ j. holds j ≡ true) (saw present)
  found_meant found present exact is i = by (entry found i) (ap (λ (m : List Bool). saw m i) is ∙ saw_present found i) (exact i)
    where
      by : (r : Option ℕ) → saw present i ≡ is_some r → IsFound d marks i r → (saw present i ≡ true) ↔ SomeMeant d (λ j. holds j ≡ true) i
      by (Some j) seen f = (λ h. (j, (f.0, sym (each j (meant_below d f.0)) ∙ f.1)), λ some. seen)
      by None seen f = (λ h. absurd (cc (sym seen ∙ h)), λ some. absurd (f (some.0, (some.1.0, each some.0 (meant_below d some.1.0) ∙ some.1.1))))

-- the same of a fact that is tested
pub meant_so : (d : DescriptionTree) (P Q : ℕ → Type 0) (marks : ℕ → Bool) → ((j : ℕ) → P j → Q j) → ((j : ℕ) → Q j → P j) → AreMeant d P marks → AreMeant d Q marks
meant_so d P Q marks to from are i = (λ h. (let some = (are i).0 h in (some.0, (some.1.0, to some.0 some.1.1))), λ some. (are i).1 (some.0, (some.1.0, from some.0 some.1.1)))

abbrev Having : DescriptionTree → Trait → List Bool → Type 0
Having d q marks = AreMeant d (λ j. holds q (own_traits d j) ≡ true) (saw marks)

pub each_trait : (d : DescriptionTree) (m : TraitMarks) → Having d which.Label m.label → Having d which.Child m.child → Having d which.Staged m.staged → Having d which.Rooted m.rooted → Having d which.Uncoded m.uncoded
    → Having d which.Misplaced m.misplaced → Having d which.Instructions m.instructions → Having d which.ListedStaged m.listed_staged → Having d which.ListedRooted m.listed_rooted → AreTraits d (traits_by m)
each_trait d m label child staged rooted uncoded misplaced instructions listed_staged listed_rooted which.Label = label
each_trait d m label child staged rooted uncoded misplaced instructions listed_staged listed_rooted which.Child = child
each_trait d m label child staged rooted uncoded misplaced instructions listed_staged listed_rooted which.Staged = staged
each_trait d m label child staged rooted uncoded misplaced instructions listed_staged listed_rooted which.Rooted = rooted
each_trait d m label child staged rooted uncoded misplaced instructions listed_staged listed_rooted which.Uncoded = uncoded
each_trait d m label child staged rooted uncoded misplaced instructions listed_staged listed_rooted which.Misplaced = misplaced
each_trait d m label child staged rooted uncoded misplaced instructions listed_staged listed_rooted which.Instructions = instructions
each_trait d m label child staged rooted uncoded misplaced instructions listed_staged listed_rooted which.ListedStaged = listed_staged
each_trait d m label child staged rooted uncoded misplaced instructions listed_staged listed_rooted which.ListedRooted = listed_rooted
