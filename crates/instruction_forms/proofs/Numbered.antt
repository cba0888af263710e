-- The forms of all instructions by their numbers.
use Rattle.std.proofs.Common.{◌≡◌, ◌<◌, ◌≤◌, ◌+◌, ◌*◌, ◌-◌, ◌^◌, ◌++◌, ℕ, zero, suc, List, [], ◌∷◌, Option, Some, length, map, take, min, refl, sym, ap, ◌∙◌, arith, subst}
use Rattle.std.specs.Prelude.{unwrap_or}
use Rattle.std.proofs.lemmas.List.{map-append}
use Rattle.lisa_tree.specs.Descriptions.{DescriptionTree}
use Rattle.lisa_tree.specs.Declarations.{choices, alternatives_at}
use Rattle.lisa_tree.specs.Paths.{node_count, choice_node}
use Rattle.coding_tables.proofs.description_graph_proofs.Nodes.{alternatives_below}
use Rattle.instruction_trees.specs.Trees.{Form, Done, In, instructions}
use Rattle.instruction_trees.specs.Forms.{forms}
use Rattle.coding_tables.specs.Codings.{choice_alternatives, coding_table}
use Rattle.coding_tables.specs.Instructions.{instruction_choice, forms_below, forms_of, form_count, below_count, total, AreFormCounts}
use Rattle.coding_tables.specs.Ways.{IsShallow}
use Rattle.coding_tables.proofs.Ways.{in_is, first_way}
use Rattle.coding_tables.proofs.Counted.{count_listed}
use Rattle.instruction_forms.specs.declared.picking.Pick.{Pick}
use Rattle.instruction_forms.specs.Trees.{FormTree}
use Rattle.instruction_forms.specs.Described.{described, instruction_form}
use Rattle.instruction_forms.specs.Picks.{nth, pick, told, picked_form}
use Rattle.instruction_forms.proofs.Nth.{nth_chosen, one_of, pick_told}
use Rattle.instruction_forms.proofs.Picked.{in_total}
use Rattle.instruction_forms.proofs.Walking.{told_few}

-- ---- lists

take_nth : (fs : List Form) (n : ℕ) → n < length fs → take (suc n) fs ≡ take n fs ++ nth fs n ∷ []
take_nth [] n h = absurd (omega arith)
take_nth (f ∷ fs) zero h = refl
take_nth (f ∷ fs) (suc n) h = ap (λ (l : List Form). f ∷ l) (take_nth fs n (omega arith))

take_whole : (fs : List Form) (n : ℕ) → n ≡ length fs → take n fs ≡ fs
take_whole [] zero h = refl
take_whole [] (suc n) h = refl
take_whole (f ∷ fs) zero h = absurd (omega arith)
take_whole (f ∷ fs) (suc n) h = ap (λ (l : List Form). f ∷ l) (take_whole fs n (omega arith))

-- ---- instructions

module _ (d : DescriptionTree) (c : ℕ) (is : instruction_choice d ≡ Some c) where
  abbrev group : List ℕ
  group = alternatives_at d c

  listed_are : forms_of d ≡ forms (suc (node_count d)) (coding_table d) (instructions group)
  listed_are = ap (λ (x : Option ℕ). forms (suc (node_count d)) (coding_table d) (instructions (choice_alternatives d x))) is

  pub count_of : form_count d ≡ total (below_count d) group
  count_of =
      let e = ap length listed_are in
      let f = count_listed (coding_table d) (forms (node_count d) (coding_table d)) (instructions group) in
      let g : total (below_count d) group * 1 ≡ total (below_count d) group = omega arith in
      e ∙ f ∙ g

  pub by_number : (number : ℕ) → number < total (below_count d) group → instruction_form d (nth (forms_of d) number) ≡ picked_form d (pick (below_count d) group number 0)
  by_number number h =
      let p = pick (below_count d) group number 0 in
      let low = (one_of (below_count d) group number 0 h).at in
      let single : List Form = Done ∷ [] in
      let e : number ≡ number * length single + 0 = omega arith in
      let one : 0 < length single = omega arith in
      ap (λ (l : List Form). instruction_form d (nth l number)) listed_are
      ∙ ap (λ (n : ℕ). instruction_form d (nth (forms (suc (node_count d)) (coding_table d) (instructions group)) n)) e
      ∙ ap (instruction_form d) (nth_chosen (forms_below d) (Done ∷ []) group number 0 0 h one)
      ∙ ap (λ (l : ℕ). described d l p.operation (nth (forms_below d p.operation) p.number)) (sym low)

  pub one_more : (made : List FormTree) (form : FormTree) (number : ℕ) → number < total (below_count d) group → form ≡ picked_form d (pick (below_count d) group number 0)
      → made ≡ map (instruction_form d) (take number (forms_of d)) → made ++ form ∷ [] ≡ map (instruction_form d) (take (number + 1) (forms_of d))
  one_more made form number h e so_far =
      let count = count_of in
      let next : suc number ≡ number + 1 = omega arith in
      ap (λ (l : List FormTree). l ++ form ∷ []) so_far
      ∙ ap (λ (f : FormTree). map (instruction_form d) (take number (forms_of d)) ++ f ∷ []) (e ∙ sym (by_number number h))
      ∙ sym (map-append (instruction_form d) (take number (forms_of d)) (nth (forms_of d) number ∷ []))
      ∙ ap (map (instruction_form d)) (sym (take_nth (forms_of d) number (omega (arith, count, h))))
      ∙ ap (λ (n : ℕ). map (instruction_form d) (take n (forms_of d))) next

  pub all_made : (number : ℕ) → number ≡ total (below_count d) group → map (instruction_form d) (take number (forms_of d)) ≡ map (instruction_form d) (forms_of d)
  all_made number e = let count = count_of in ap (map (instruction_form d)) (take_whole (forms_of d) number (omega (arith, count, e)))

  pub told_forms : (table : ℕ → Option ℕ) → AreFormCounts d table → c < length (choices d) → form_count d ≤ 1024 → unwrap_or (table (choice_node d c)) 0 ≡ total (below_count d) group
  told_forms table counts h few =
      let count = count_of in
      let low : total (below_count d) group ≤ 1024 = omega (arith, count, few) in
      let e : min (total (below_count d) group) (2 ^ 64 - 1) ≡ total (below_count d) group = omega arith in
      ap (λ (x : Option ℕ). unwrap_or x 0) (counts.choosing c h) ∙ e

-- an alternative may be as deep as there are operations
pub shallow : (d : DescriptionTree) (c k : ℕ) → In k (alternatives_at d c) → IsShallow d k (length d.operations)
shallow d c k i = record { passed = []; way = first_way d k (alternatives_below d c k (in_is k (alternatives_at d c) i)); enough = omega arith }

-- where there are few forms, they are told as they are
pub all_told : (d : DescriptionTree) (table : ℕ → Option ℕ) → AreFormCounts d table → (c : ℕ) → total (below_count d) (alternatives_at d c) ≤ 1024
    → (q low : ℕ) → pick (told table) (alternatives_at d c) q low ≡ pick (below_count d) (alternatives_at d c) q low
all_told d table counts c few q low = pick_told (told table) (below_count d) (alternatives_at d c) q low (λ k i.
    let t = in_total (below_count d) (alternatives_at d c) k i in
    ap (λ (x : Option ℕ). unwrap_or x 0) (counts.operations k (alternatives_below d c k (in_is k (alternatives_at d c) i))) ∙ told_few (below_count d k) (omega (arith, t, few)))

pub picked_shallow : (d : DescriptionTree) (c number levels : ℕ) → number < total (below_count d) (alternatives_at d c) → levels ≡ length d.operations → (p : Pick) → p ≡ pick (below_count d) (alternatives_at d c) number 0 → IsShallow d p.operation levels
picked_shallow d c number levels h e p is =
    let one = one_of (below_count d) (alternatives_at d c) number 0 h in
    let s = shallow d c (pick (below_count d) (alternatives_at d c) number 0).operation one.among in
    subst (λ (n : ℕ). IsShallow d p.operation n) (sym e) (subst (λ (q : Pick). IsShallow d q.operation (length d.operations)) (sym is) s)
