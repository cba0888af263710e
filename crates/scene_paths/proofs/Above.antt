-- The links of an occurrence are its own and those of what activates it.
use Rattle.std.proofs.Common.{◌≡◌, ◌<◌, ◌∙◌, ℕ, zero, suc, List, [], ◌∷◌, Option, None, Some, cond, refl, sym, ap, subst, arith}
use Rattle.std.specs.Prelude.{filter_map, slice_get, option_map}
use Rattle.std.specs.List.{cons_option}
use Rattle.std.specs.Option.{option_and_then}
use Rattle.lisa_tree.specs.Descriptions.{DescriptionTree}
use Rattle.lisa_tree.specs.Declarations.{is_reference}
use Rattle.lisa_meaning.specs.instruction_forms.Trees.{FormTree}
use Rattle.lisa_meaning.specs.activation_trees.declared.parts.Occurrence.{Occurrence}
use Rattle.lisa_meaning.specs.activation_trees.Activators.{HasActivator, IsChild}
use Rattle.lisa_meaning.specs.activation_trees.Unfolding.{occurrences}
use Rattle.lisa_meaning.proofs.activation_trees_proofs.Lying.{has_activator}
use Rattle.lisa_meaning.specs.Scenes.{Link, link, declared, home, line_within, occurrence_part, occurrence_link}
use Rattle.scene_paths.specs.Paths.{occurrence_links, numbered_links}

module _ (d : DescriptionTree) where
  -- activators stand before what they activate
  pub before : (k p : ℕ) (x : Occurrence) → slice_get (occurrences d) k ≡ Some x → x.parent ≡ Some p → p < k
  before k p x e parent = let c : IsChild d k x p = subst (λ (o : Option ℕ). HasActivator d k x o) parent (has_activator d k x e) in c.before

  parent_of : ℕ → Option ℕ
  parent_of k = option_and_then (λ (x : Occurrence). x.parent) (slice_get (occurrences d) k)

  nothing : (a : ℕ) → line_within a d None ≡ []
  nothing zero = refl
  nothing (suc a) = refl

  parent_before : (k p : ℕ) → option_and_then (λ (x : Occurrence). x.parent) (slice_get (occurrences d) k) ≡ Some p → p < k
  parent_before k p e = by (slice_get (occurrences d) k) refl e
    where
      by : (o : Option Occurrence) → slice_get (occurrences d) k ≡ o → option_and_then (λ (x : Occurrence). x.parent) o ≡ Some p → p < k
      by None is h = absurd (cc h)
      by (Some x) is h = before k p x is h

  step : (a b k : ℕ) → ((p : ℕ) → p < k → line_within a d (Some p) ≡ line_within b d (Some p)) → (o : Option ℕ) → option_and_then (λ (x : Occurrence). x.parent) (slice_get (occurrences d) k) ≡ o → k ∷ line_within a d o ≡ k ∷ line_within b d o
  step a b k rest None e = ap (λ (ks : List ℕ). k ∷ ks) (nothing a ∙ sym (nothing b))
  step a b k rest (Some p) e = ap (λ (ks : List ℕ). k ∷ ks) (rest p (parent_before k p e))

  -- further levels add nothing
  enough : (a b k : ℕ) → k < a → k < b → line_within a d (Some k) ≡ line_within b d (Some k)
  enough zero b k h g = absurd (omega (arith, h))
  enough (suc a) zero k h g = absurd (omega (arith, g))
  enough (suc a) (suc b) k h g = step a b k (λ p low. enough a b p (omega (arith, low, h)) (omega (arith, low, g))) (option_and_then (λ (x : Occurrence). x.parent) (slice_get (occurrences d) k)) refl

  module _ (form : Option FormTree) where
    above_is : (k : ℕ) (o : Option ℕ) → ((p : ℕ) → o ≡ Some p → p < k) → filter_map (occurrence_link d form) (line_within k d o) ≡ numbered_links d form o
    above_is k None low = ap (filter_map (occurrence_link d form)) (nothing k)
    above_is k (Some p) low = ap (filter_map (occurrence_link d form)) (enough k (suc p) p (low p refl) (omega arith))

    pub links_some : (k : ℕ) (x : Occurrence) → slice_get (occurrences d) k ≡ Some x → occurrence_links d form k ≡ link x.operation (occurrence_part d form k) ∷ numbered_links d form x.parent
    links_some k x is =
        ap (λ (o : Option Link). cons_option o (filter_map (occurrence_link d form) (line_within k d (option_and_then (λ (y : Occurrence). y.parent) (slice_get (occurrences d) k)))))
        (ap (option_map (λ (y : Occurrence). link y.operation (occurrence_part d form k))) is)
        ∙ ap (λ (o : Option Occurrence). link x.operation (occurrence_part d form k) ∷ filter_map (occurrence_link d form) (line_within k d (option_and_then (λ (y : Occurrence). y.parent) o))) is
        ∙ ap (λ (ls : List Link). link x.operation (occurrence_part d form k) ∷ ls) (above_is k x.parent (λ p e. before k p x is e))

    pub links_none : (k : ℕ) → slice_get (occurrences d) k ≡ None → occurrence_links d form k ≡ []
    links_none k is =
        ap (λ (o : Option Link). cons_option o (filter_map (occurrence_link d form) (line_within k d (option_and_then (λ (y : Occurrence). y.parent) (slice_get (occurrences d) k)))))
        (ap (option_map (λ (y : Occurrence). link y.operation (occurrence_part d form k))) is)
        ∙ ap (λ (o : Option Occurrence). filter_map (occurrence_link d form) (line_within k d (option_and_then (λ (y : Occurrence). y.parent) o))) is
        ∙ ap (filter_map (occurrence_link d form)) (nothing k)

    pub home_some : (n : List ℕ) (k : ℕ) (x : Occurrence) → slice_get (occurrences d) k ≡ Some x
        → home d n (occurrence_links d form k) ≡ cond (is_reference (declared d x.operation n)) (home d n (numbered_links d form x.parent)) (occurrence_links d form k)
    home_some n k x is =
        ap (home d n) (links_some k x is)
        ∙ ap (λ (ls : List Link). cond (is_reference (declared d x.operation n)) (home d n (numbered_links d form x.parent)) ls) (sym (links_some k x is))

    pub home_none : (n : List ℕ) (k : ℕ) → slice_get (occurrences d) k ≡ None → home d n (occurrence_links d form k) ≡ []
    home_none n k is = ap (home d n) (links_none k is)
