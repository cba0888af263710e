-- How an occurrence stands to a form is told by the way of its choice.
use Rattle.std.proofs.Common.{◌≡◌, ℕ, zero, suc, Bool, true, false, Option, None, Some, cond, nat_eq, refl, sym, ap, ◌∙◌}
use Rattle.std.specs.Prelude.{option_map, is_some, slice_get, if◌then◌else◌}
use Rattle.std.specs.Option.{option_and_then, option_map_or}
use Rattle.lisa_tree.specs.Descriptions.{DescriptionTree}
use Rattle.scene_paths.specs.activation_trees.declared.parts.Occurrence.{Occurrence}
use Rattle.scene_paths.specs.activation_trees.Unfolding.{occurrences}
use Rattle.instruction_forms.specs.Trees.{FormTree}
use Rattle.scene_paths.specs.lisa_forms.declared.way.Way.{Way as Activation}
use Rattle.scene_paths.specs.lisa_forms.declared.way.Way.TheVariants as activations
use Rattle.scene_paths.specs.lisa_forms.Choosing.{child_at, operation_of}
use Rattle.scene_paths.specs.lisa_forms.Ways.{way}
use Rattle.scene_paths.specs.lisa_forms.Standings.{part_in, matched, matched_in, matched_child, beside, stood}
use Rattle.scene_paths.specs.lisa_meaning.Standings.{stood_below, standing_within, standing}
use Rattle.scene_paths.specs.lisa_meaning.Scenes.{instruction_with}
use Rattle.scene_paths.specs.lisa_meaning.Cores.{chooses}
use Rattle.lowered_words.specs.Ways.{Way, Whole, Child, of_operation, child_of, part_by}
use Rattle.lowered_words.specs.Choosing.{Choice, at_part, chosen_by, choice_below, choice_within, choice, stood_at, standing_by, way_inside}
use Rattle.lowered_words.specs.Rows.{has_part}

module _ (f : FormTree) where
  -- where the part stands itself
  whole_by : (o : ℕ) (g : FormTree) (w : Way) → matched g o ≡ option_map (stood_at (at_part w)) (of_operation o g)
  whole_by o g w = by (nat_eq (operation_of g) o)
    where
      by : (b : Bool) → cond b (Some (Some g)) None ≡ option_map (stood_at (at_part w)) (cond b (Some g) None)
      by true = refl
      by false = refl

  matched_by : (o : ℕ) (w : Way) (c : Option FormTree) → matched_in c o ≡ option_map (stood_at (at_part w)) (option_and_then (of_operation o) c)
  matched_by o w None = refl
  matched_by o w (Some g) = whole_by o g w

  child_by : (i o : ℕ) (above : Way) (inside : Bool) (p : Option FormTree)
      → matched_child (option_map (λ part. cond inside (Some part) None) p) i o
      ≡ cond inside (option_map (stood_at (at_part (Child above i o))) (option_and_then (of_operation o) (option_and_then (child_of i) p))) (option_map (λ part. None) p)
  child_by i o above true None = refl
  child_by i o above true (Some g) = matched_by o (Child above i o) (child_at g i)
  child_by i o above false None = refl
  child_by i o above false (Some g) = refl

  chosen_child : (i o : ℕ) (above : Way) (inside : Bool)
      → cond inside (option_map (stood_at (at_part (Child above i o))) (part_by f (Child above i o))) (option_map (λ part. None) (part_by f above))
      ≡ standing_by f (Some (cond inside (at_part (Child above i o)) (record { way = above; inside = inside })))
  chosen_child i o above true = refl
  chosen_child i o above false = refl

  beside_by : (inside : Bool) (p : Option FormTree) → beside (option_map (λ part. cond inside (Some part) None) p) ≡ option_map (λ part. None) p
  beside_by inside None = refl
  beside_by inside (Some g) = refl

  -- one step down
  stood_by : (w : Activation) (o : ℕ) (above : Option Choice) → stood w f o (standing_by f above) ≡ standing_by f (chosen_by w o above)
  stood_by activations.Outside o above = refl
  stood_by activations.Top o above = whole_by o f (Whole o)
  stood_by (activations.Child i) o None = refl
  stood_by (activations.Child i) o (Some c) = child_by i o c.way c.inside (part_by f c.way) ∙ chosen_child i o c.way c.inside
  stood_by activations.Apart o None = refl
  stood_by activations.Apart o (Some c) = beside_by c.inside (part_by f c.way)

module _ (d : DescriptionTree) (f : FormTree) where
  within : (levels k : ℕ) → standing_within levels d f k ≡ standing_by f (choice_within levels d k)
  within zero k = refl
  within (suc levels) k = by (slice_get (occurrences d) k) (within levels)
    where
      above : (p : Option ℕ) → ((q : ℕ) → standing_within levels d f q ≡ standing_by f (choice_within levels d q))
          → option_and_then (standing_within levels d f) p ≡ standing_by f (option_and_then (choice_within levels d) p)
      above None each = refl
      above (Some q) each = each q

      by : (x : Option Occurrence) → ((q : ℕ) → standing_within levels d f q ≡ standing_by f (choice_within levels d q))
          → stood_below (standing_within levels d f) d f k x ≡ standing_by f (choice_below (choice_within levels d) d k x)
      by None each = refl
      by (Some x) each =
          ap (stood (way d k x) f x.operation) (above x.parent each)
          ∙ stood_by f (way d k x) x.operation (option_and_then (choice_within levels d) x.parent)

  pub standing_is : (k : ℕ) → standing d f k ≡ standing_by f (choice d k)
  standing_is k = within (suc k) k

-- ---- the part that an occurrence is

module _ (f : FormTree) where
  part_told : (p : Option FormTree) → part_in (option_map (λ part. Some part) p) ≡ p
  part_told None = refl
  part_told (Some g) = refl

  none_told : (p : Option FormTree) → part_in (option_map (λ part. None) p) ≡ None
  none_told None = refl
  none_told (Some g) = refl

  told_by : (w : Way) (inside : Bool) → part_in (option_map (λ part. cond inside (Some part) None) (part_by f w)) ≡ option_and_then (part_by f) (cond inside (Some w) None)
  told_by w true = part_told (part_by f w)
  told_by w false = none_told (part_by f w)

  choice_told : (c : Option Choice) → part_in (standing_by f c) ≡ option_and_then (part_by f) (way_inside c)
  choice_told None = refl
  choice_told (Some c) = told_by c.way c.inside

pub part_is : (d : DescriptionTree) (f : FormTree) (k : ℕ) → part_in (standing d f k) ≡ option_and_then (part_by f) (way_inside (choice d k))
part_is d f k = ap part_in (standing_is d f k) ∙ choice_told f (choice d k)

-- ---- what a word chooses

-- it has a part by the way of a choice
abbrev pub chosen_part : DescriptionTree → ℕ → Option Choice → Bool
chosen_part d word None = false
chosen_part d word (Some c) = has_part d word c.way

module _ (d : DescriptionTree) (word k : ℕ) where
  some_same : (c : Choice) (p : Option FormTree) → is_some (option_map (stood_at c) p) ≡ is_some p
  some_same c None = refl
  some_same c (Some g) = refl

  told : (f : FormTree) (c : Option Choice) → choice d k ≡ c → is_some (standing d f k) ≡ is_some (standing_by f c)
  told f c e = ap is_some (standing_is d f k ∙ ap (standing_by f) e)

  chosen : (c : Option Choice) → choice d k ≡ c → (i : Option FormTree) → instruction_with d word ≡ i
      → is_some (option_and_then (λ f. standing d f k) i) ≡ chosen_part d word c
  chosen None e None is = refl
  chosen None e (Some f) is = told f None e
  chosen (Some c) e None is = sym (ap (λ (i : Option FormTree). is_some (option_and_then (λ f. part_by f c.way) i)) is)
  chosen (Some c) e (Some f) is =
      told f (Some c) e
      ∙ some_same c (part_by f c.way)
      ∙ sym (ap (λ (i : Option FormTree). is_some (option_and_then (λ f. part_by f c.way) i)) is)

  pub chooses_is : (x : Occurrence) → slice_get (occurrences d) k ≡ Some x → x.past_root ≡ true → chooses d k word ≡ chosen_part d word (choice d k)
  chooses_is x there past =
      let whole : Bool = is_some (option_and_then (λ f. standing d f k) (instruction_with d word)) in
      ap (λ (y : Option Occurrence). if option_map_or (λ z. z.past_root) y false then whole else true) there
      ∙ ap (λ (b : Bool). if b then whole else true) past
      ∙ chosen (choice d k) refl (instruction_with d word) refl
