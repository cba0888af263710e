-- What a declared name stands for in a scene, and the children that it chooses there.
use Rattle.std.proofs.Common.{◌≡◌, ◌≢◌, ◌∙◌, ℕ, true, List, [], ◌∷◌, Option, None, Some, codes, refl, sym, ap, subst}
use Rattle.std.proofs.lemmas.Option.{same_Some}
use Rattle.lisa_tree.specs.Descriptions.{DescriptionTree}
use Rattle.lisa_tree.specs.Operations.{name_at}
use Rattle.lisa_tree.specs.Declarations.{declared_at}
use Rattle.graph_paths.specs.Paths.{is_in}
use Rattle.meant_declarations.specs.Meant.{MayMean}
use Rattle.lisa_machine.specs.Soundness.{IsSound}
use Rattle.use_promises.specs.Using.{RunsInPlace, ChildrenMayRun}
use Rattle.activation_trees.specs.Starting.{plain_named}
use Rattle.lisa_meaning.specs.Scenes.{Link, Scene, first_operation, running, home, child_part, chosen, onto, child_at_home}
use Rattle.lisa_meaning.proofs.Above.{named_by}
use Rattle.lisa_meaning.proofs.Paths.{Home, home_of, chosen_in, not_main, named_main}
use Rattle.meaning_promises.specs.Running.{IsPath, PartsStand, Runs, HasChild}
use Rattle.meaning_promises.proofs.Children.{as_path, is_path, home_parts}
use Rattle.scene_promises.specs.Ends.{ChildIsInPlace}
use Rattle.scene_promises.specs.Homes.{HasHome}

module _ (d : DescriptionTree) (s : IsSound d) where
  pub nearest : (scene : Scene) → Runs d scene → (n : List ℕ) (i : ℕ) → declared_at d (running scene) n ≡ Some i → HasHome d scene n i
  nearest scene runs n i is_declared = by scene.path refl runs.path runs.parts is_declared
    where
      by : (path : List Link) → scene.path ≡ path → IsPath d path → PartsStand d path → declared_at d (first_operation path) n ≡ Some i → HasHome d scene n i
      by [] same path parts at = absurd path
      by (one ∷ up) same path parts at =
          let h : Home d s n (one ∷ up) i = home_of d s n one up i (as_path d (one ∷ up) path) at in
          record {
            here = h.here;
            above = h.above;
            is = ap (home d n) same ∙ h.is;
            runs = record { path = is_path d (h.here ∷ h.above) h.path_is; parts = subst (PartsStand d) h.is (home_parts d n (one ∷ up) parts); form = runs.form };
            number = h.number;
            declared = h.declared;
            means = h.means;
          }

  module _ (scene : Scene) (runs : Runs d scene) (n : List ℕ) (i : ℕ) (is_declared : declared_at d (running scene) n ≡ Some i) (run : ChildrenMayRun d i) where
    its_home : HasHome d scene n i
    its_home = nearest scene runs n i is_declared

    listed_in_place : (o : ℕ) → is_in o (plain_named d its_home.here.operation n) ≡ true → RunsInPlace d o
    listed_in_place o listed =
        let b = named_by d its_home.here.operation n o listed in
        let same : its_home.number ≡ b.number = same_Some its_home.number b.number (sym its_home.declared ∙ b.declared) in
        (run b.number b.choice b.entry (subst (MayMean d i) same its_home.means) b.is b.chooses).operations o b.plain

    listed_not_main : (l : Link) → is_in l.operation (plain_named d its_home.here.operation n) ≡ true → name_at d l.operation ≢ codes "main"
    listed_not_main l listed named =
        not_main d s l its_home.here its_home.above ((n, listed), as_path d (its_home.here ∷ its_home.above) its_home.runs.path) (named_main d s l.operation named)

    -- what is chosen is listed
    all_chosen : (P : ℕ → Type 0) → ((l : Link) → is_in l.operation (plain_named d its_home.here.operation n) ≡ true → P l.operation) → (c : HasChild d scene n) → P c.here.operation
    all_chosen P each c = by one refl (sym (ap (child_at_home d scene.form n) its_home.is) ∙ c.is)
      where
        one : Option Link
        one = chosen (plain_named d its_home.here.operation n) (child_part d scene.form n its_home.here)

        first_same : (l : Link) (up : List Link) → l ∷ up ≡ c.here ∷ c.above → l ≡ c.here
        first_same l up e = cc e

        by : (r : Option Link) → one ≡ r → onto r (its_home.here ∷ its_home.above) ≡ c.here ∷ c.above → P c.here.operation
        by None is e = absurd (cc e)
        by (Some l) is e =
            subst (λ (k : Link). P k.operation) (first_same l (its_home.here ∷ its_home.above) e)
            (each l (chosen_in (plain_named d its_home.here.operation n) (child_part d scene.form n its_home.here) l is))

    pub in_place : (c : HasChild d scene n) → ChildIsInPlace d scene n c
    in_place c = record {
      runs = all_chosen (RunsInPlace d) (λ l listed. listed_in_place l.operation listed) c;
      not_main = all_chosen (λ o. name_at d o ≢ codes "main") listed_not_main c;
    }
