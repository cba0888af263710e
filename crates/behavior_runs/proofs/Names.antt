-- What names stand for on a path.
use Rattle.std.proofs.Common.{◌≡◌, ◌∙◌, ℕ, Bool, true, false, List, [], ◌∷◌, Option, None, Some, cond, refl, sym, ap}
use Rattle.std.specs.Prelude.{option_map}
use Rattle.std.specs.Option.{option_and_then}
use Rattle.std.specs.Map.{lookup}
use Rattle.std.proofs.lemmas.Option.{same_Some}
use Rattle.lisa_tree.specs.Descriptions.{DescriptionTree}
use Rattle.lisa_tree.specs.Same.{same_name}
use Rattle.lisa_tree.specs.Resources.{resource_at}
use Rattle.lisa_tree.specs.Declarations.{declared_at, is_reference, what_at}
use Rattle.lisa_tree.specs.Meanings.{meaning, meaning_of}
use Rattle.lisa_tree.specs.declared.declared.Meaning.{Meaning}
use Rattle.lisa_tree.specs.declared.declared.Meaning.TheVariants as meanings
use Rattle.lisa_tree.specs.declared.declared.What.{What}
use Rattle.lisa_tree.specs.declared.declared.What.TheVariants as whats
use Rattle.typed_values.specs.Words.{TypedWord, truth}
use Rattle.typed_values.specs.ResetEffects.{local_or}
use Rattle.scene_paths.specs.lisa_meaning.Scenes.{Link, Scene, child_at_home, declared, first_operation, home, is_label, running}
use Rattle.scene_paths.specs.lisa_meaning.Moments.{Moment}
use Rattle.scene_paths.specs.lisa_meaning.Values.{Below, child_value, declared_value, label_value, meant_value, reader}
use Rattle.scene_paths.specs.Paths.{first_link}
use Rattle.behavior_runs.specs.Views.{label_on}

-- a path without a first link is empty
pub links_end : (links : List Link) → None ≡ first_link links → links ≡ []
links_end [] is = refl
links_end (first ∷ above) is = absurd (cc is)

-- ---- declared names

module _ (below : Below) (d : DescriptionTree) (scene : Scene) (n : List ℕ) (links : List Link) where
  pub nothing_declared : None ≡ first_link links → truth false ≡ declared_value below d scene n links
  nothing_declared is = sym (ap (declared_value below d scene n) (links_end links is))

  abbrev by_kind : Bool → Link → TypedWord
  by_kind kind here = cond kind (label_value n scene.word here.part) (child_value below d (child_at_home d scene.form n links))

  unfolded : (here : Link) → Some here ≡ first_link links → declared_value below d scene n links ≡ by_kind (is_label (declared d here.operation n)) here
  unfolded here is = by links refl
    where
      by : (all : List Link) → links ≡ all → declared_value below d scene n links ≡ by_kind (is_label (declared d here.operation n)) here
      by [] same = absurd (let none : Some here ≡ None = is ∙ ap first_link same in cc none)
      by (first ∷ above) same =
          let one : Some here ≡ Some first = is ∙ ap first_link same in
          ap (declared_value below d scene n) same
          ∙ ap (λ (path : List Link). cond (is_label (declared d first.operation n)) (label_value n scene.word first.part) (child_value below d (child_at_home d scene.form n path))) (sym same)
          ∙ ap (λ (x : Link). by_kind (is_label (declared d x.operation n)) x) (sym (same_Some here first one))

  pub label_declared : (here : Link) (v : TypedWord) → Some here ≡ first_link links → is_label (declared d here.operation n) ≡ true → v ≡ label_value n scene.word here.part → v ≡ declared_value below d scene n links
  label_declared here v is label made = made ∙ sym (ap (λ (kind : Bool). by_kind kind here) label) ∙ sym (unfolded here is)

  pub child_declared : (here : Link) → Some here ≡ first_link links → is_label (declared d here.operation n) ≡ false → child_value below d (child_at_home d scene.form n links) ≡ declared_value below d scene n links
  child_declared here is other = sym (ap (λ (kind : Bool). by_kind kind here) other) ∙ sym (unfolded here is)

-- ---- names that are declared where they are met

declared_is : (d : DescriptionTree) (o : ℕ) (n : List ℕ) (entry : ℕ) → meaning d o n ≡ meanings.Declared entry → declared d o n ≡ what_at d entry
declared_is d o n entry is = ap (option_and_then (what_at d)) (by (declared_at d o n) (resource_at d n) is)
  where
    by : (own resource : Option ℕ) → meaning_of own resource ≡ meanings.Declared entry → own ≡ Some entry
    by (Some i) resource is = let e : i ≡ entry = cc is in ap (λ (k : ℕ). Some k) e
    by None (Some k) is = absurd (cc is)
    by None None is = absurd (cc is)

not_both : (what : Option What) → is_label what ≡ true → is_reference what ≡ false
not_both None is = refl
not_both (Some (whats.Group k)) is = refl
not_both (Some (whats.Instance k)) is = refl
not_both (Some whats.Label) is = refl
not_both (Some whats.Reference) is = absurd (cc is)

module _ (below : Below) (d : DescriptionTree) (scene : Scene) (n : List ℕ) (entry : ℕ) where
  pub label_met : (links : List Link) (v : TypedWord) → meaning d (first_operation links) n ≡ meanings.Declared entry → is_label (what_at d entry) ≡ true → v ≡ label_on n scene.word (first_link links)
      → v ≡ declared_value below d scene n (home d n links)
  label_met [] v means is made = made
  label_met (here ∷ above) v means is made =
      let what = declared_is d here.operation n entry means in
      let stays : home d n (here ∷ above) ≡ here ∷ above =
      ap (λ (b : Bool). cond b (home d n above) (here ∷ above)) (ap is_reference what ∙ not_both (what_at d entry) is) in
      made
      ∙ sym (ap (λ (b : Bool). cond b (label_value n scene.word here.part) (child_value below d (child_at_home d scene.form n (here ∷ above)))) (ap is_label what ∙ is))
      ∙ sym (ap (declared_value below d scene n) stays)

  pub child_met : (links : List Link) → meaning d (first_operation links) n ≡ meanings.Declared entry → is_label (what_at d entry) ≡ false → is_reference (what_at d entry) ≡ false
      → child_value below d (child_at_home d scene.form n links) ≡ declared_value below d scene n (home d n links)
  child_met [] means label reference = refl
  child_met (here ∷ above) means label reference =
      let what = declared_is d here.operation n entry means in
      let stays : home d n (here ∷ above) ≡ here ∷ above = ap (λ (b : Bool). cond b (home d n above) (here ∷ above)) (ap is_reference what ∙ reference) in
      sym (ap (λ (b : Bool). cond b (label_value n scene.word here.part) (child_value below d (child_at_home d scene.form n (here ∷ above)))) (ap is_label what ∙ label))
      ∙ sym (ap (declared_value below d scene n) stays)

-- ---- names

module _ (below : Below) (d : DescriptionTree) (scene : Scene) (m : Moment) (n : List ℕ) where
  -- a local goes before all else
  pub local_named : (v : TypedWord) → Some v ≡ lookup (same_name n) m.locals → v ≡ (reader below d scene m).named n
  local_named v is = ap (λ (found : Option TypedWord). local_or found (meant_value below d scene m n (meaning d (running scene) n))) is

  pub meant_named : (means : Meaning) (v : TypedWord) → None ≡ lookup (same_name n) m.locals → means ≡ meaning d (running scene) n → v ≡ meant_value below d scene m n means → v ≡ (reader below d scene m).named n
  meant_named means v none is made =
      made ∙ ap (meant_value below d scene m n) is
      ∙ ap (λ (found : Option TypedWord). local_or found (meant_value below d scene m n (meaning d (running scene) n))) none
