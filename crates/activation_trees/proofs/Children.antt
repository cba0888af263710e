-- Children, one after the other.
use Rattle.std.proofs.Common.{◌≡◌, ◌<◌, ◌+◌, ◌++◌, ℕ, zero, suc, Bool, List, [], ◌∷◌, Option, None, Some, length, map, get_or, drop, drop-cons, refl, sym, ap, ◌∙◌, add-one, append_assoc}
use Rattle.std.specs.Prelude.{reverse}
use Rattle.std.proofs.lemmas.List.{reverse-append, reverse-reverse, map-append}
use Rattle.lisa_tree.specs.Descriptions.{DescriptionTree}
use Rattle.lisa_tree.specs.Declarations.{plain_at}
use Rattle.lisa_tree.specs.Operations.{number_of}
use Rattle.lisa_tree.specs.Paths.{choice_node}
use Rattle.stage_checks.specs.Controls.{main_name}
use Rattle.activation_trees.specs.declared.parts.Occurrence.{Occurrence}
use Rattle.activation_trees.specs.declared.parts.Start.{Start}
use Rattle.activation_trees.specs.Starting.{Activated, activation, alternatives, activated_by}
use Rattle.activation_trees.specs.Unfolding.{child, in_turn, whole, firsts, occurrences, IsUnfolding}
use Rattle.activation_trees.specs.Sums.{added, summed, start_nodes}

pub one_alternative : (d : DescriptionTree) (number : ℕ) (above : Occurrence) (by_root : Bool) (all : List ℕ) (i : ℕ) → i < length all
    → map (child d number above) (map (activation by_root) (drop i all)) ≡ (child d number above (activation by_root (get_or all i 0)) ∷ []) ++ map (child d number above) (map (activation by_root) (drop (i + 1) all))
one_alternative d number above by_root all i h =
    ap (λ (l : List ℕ). map (child d number above) (map (activation by_root) l)) (drop-cons all i 0 h)
    ∙ ap (λ (m : ℕ). child d number above (activation by_root (get_or all i 0)) ∷ map (child d number above) (map (activation by_root) (drop m all))) (sym (add-one i))

pub one_start : (d : DescriptionTree) (number : ℕ) (above : Occurrence) (all : List Start) (i : ℕ) (s : Start) → i < length all → s ≡ get_or all i s
    → map (child d number above) (activated_by d (drop i all)) ≡ map (child d number above) (alternatives d s) ++ map (child d number above) (activated_by d (drop (i + 1) all))
one_start d number above all i s h e =
    ap (λ (l : List Start). map (child d number above) (activated_by d l)) (drop-cons all i s h)
    ∙ ap (λ (x : Start). map (child d number above) (alternatives d x ++ activated_by d (drop (suc i) all))) (sym e)
    ∙ ap (λ (m : ℕ). map (child d number above) (alternatives d s ++ activated_by d (drop m all))) (sym (add-one i))
    ∙ map-append (child d number above) (alternatives d s) (activated_by d (drop (i + 1) all))

-- the last one, moved behind others that are read from their end
pub moved : (all rest work work' whole : List Occurrence) (x : Occurrence) → all ≡ rest ++ x ∷ [] → work' ≡ work ++ x ∷ [] → all ++ reverse work ≡ whole → rest ++ reverse work' ≡ whole
moved all rest work work' whole x e f g =
    ap (λ (l : List Occurrence). rest ++ reverse l) f
    ∙ ap (λ (l : List Occurrence). rest ++ l) (reverse-append work (x ∷ []))
    ∙ sym (append_assoc rest (x ∷ []) (reverse work))
    ∙ ap (λ (l : List Occurrence). l ++ reverse work) (sym e)
    ∙ g

-- at first `main` is to be unfolded
pub all_left : (d : DescriptionTree) → IsUnfolding d [] (firsts d (number_of d main_name))
all_left d = by (number_of d main_name)
  where
    by : (m : Option ℕ) → in_turn (whole d) 0 (reverse (firsts d m)) ≡ in_turn (whole d) 0 (firsts d m)
    by None = refl
    by (Some o) = refl

-- one more summand
pub one_node : (known : ℕ → Option ℕ) (d : DescriptionTree) (so_far : Option ℕ) (all : List Start) (i : ℕ) (s : Start) → i < length all → s ≡ get_or all i s
    → summed known so_far (start_nodes d (drop i all)) ≡ summed known (added so_far (known (choice_node d s.choice))) (start_nodes d (drop (i + 1) all))
one_node known d so_far all i s h e =
    ap (λ (l : List Start). summed known so_far (start_nodes d l)) (drop-cons all i s h)
    ∙ ap (λ (x : Start). summed known (added so_far (known (choice_node d x.choice))) (start_nodes d (drop (suc i) all))) (sym e)
    ∙ ap (λ (m : ℕ). summed known (added so_far (known (choice_node d s.choice))) (start_nodes d (drop m all))) (sym (add-one i))
