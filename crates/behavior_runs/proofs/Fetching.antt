-- The word that the root takes, and the conditions of activations.
use Rattle.std.proofs.Common.{◌≡◌, ◌∙◌, ℕ, Bool, List, [], ◌∷◌, Option, None, Some, refl, ap, ap₂}
use Rattle.std.specs.Prelude.{option_map}
use Rattle.std.proofs.lemmas.Option.{same_Some}
use Rattle.lisa_tree.specs.Expressions.{ExprTree}
use Rattle.lisa_tree.specs.Descriptions.{DescriptionTree}
use Rattle.lisa_tree.specs.Operations.{coding_in, sections_at}
use Rattle.moment_stores.specs.coding_tables.Instructions.{Root}
use Rattle.moment_stores.specs.instruction_forms.Trees.{FormTree}
use Rattle.typed_values.specs.Words.{TypedWord}
use Rattle.scene_paths.specs.lisa_meaning.Scenes.{Scene, link, scene_of}
use Rattle.scene_paths.specs.lisa_meaning.Moments.{Moment, bare}
use Rattle.scene_paths.specs.lisa_meaning.Values.{value_of}
use Rattle.scene_paths.specs.lisa_meaning.Cores.{condition, fetched, holds, is_true, place_value, root_place, root_scene}
use Rattle.scene_paths.specs.declared.paths.Path.{Alone}
use Rattle.scene_paths.specs.declared.sight.Sight.{Sight}
use Rattle.scene_paths.specs.Sights.{sight_tree, form_of, scene_at, occurrence_scene}

pub nothing_fetched : (d : DescriptionTree) (m : Moment) (root : Option Root) → None ≡ option_map (λ (found : Root). found.operation) root → 0 ≡ fetched d m root
nothing_fetched d m None is = refl
nothing_fetched d m (Some root) is = absurd (cc is)

pub place_fetched : (d : DescriptionTree) (m : Moment) (root : Option Root) (o : ℕ) (place : Option ExprTree) → Some o ≡ option_map (λ (found : Root). found.operation) root
    → place ≡ root_place (coding_in (sections_at d o)) → place_value d m o place ≡ fetched d m root
place_fetched d m None o place is at = absurd (cc is)
place_fetched d m (Some root) o place is at =
    ap (place_value d m o) at ∙ ap (λ (x : ℕ). place_value d m x (root_place (coding_in (sections_at d x)))) (same_Some o root.operation is)

-- an operation alone, in a form and a word
abbrev alone : ℕ → Option FormTree → ℕ → Scene
alone o form word = record { path = link o None ∷ []; form = form; word = word }

pub root_value : (d : DescriptionTree) (s : Sight) (m : Moment) (o : ℕ) (e : ExprTree) (v : TypedWord) → sight_tree s ≡ d → form_of s ≡ None → s.word ≡ 0
    → v ≡ value_of (sight_tree s) (scene_at s (Alone o)) (bare m) e → v ≡ value_of d (root_scene o) (bare m) e
root_value d s m o e v tree form word made =
    made ∙ ap (λ (x : DescriptionTree). value_of x (scene_at s (Alone o)) (bare m) e) tree
    ∙ ap₂ (λ (f : Option FormTree) (w : ℕ). value_of d (alone o f w) (bare m) e) form word

pub condition_holds : (d : DescriptionTree) (s : Sight) (m : Moment) (k test w : ℕ) (found : Option ExprTree) (r : Bool) → sight_tree s ≡ d → occurrence_scene s k ≡ scene_of d k w
    → found ≡ condition d k test → r ≡ is_true (sight_tree s) (occurrence_scene s k) m found → r ≡ holds d k test w m
condition_holds d s m k test w found r tree scene is made =
    made ∙ ap (λ (x : DescriptionTree). is_true x (occurrence_scene s k) m found) tree
    ∙ ap (λ (x : Scene). is_true d x m found) scene
    ∙ ap (is_true d (scene_of d k w) m) is
