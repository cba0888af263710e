-- The width of instructions, and plain forms.
use Rattle.std.proofs.Common.{◌≡◌, ◌≤◌, ◌+◌, ◌&&◌, ℕ, List, [], ◌∷◌, Option, Some, Bool, true, false, not, if◌then◌else◌, refl, ap, ap₂, ◌∙◌, arith, subst}
use Rattle.lisa_tree.specs.Descriptions.{DescriptionTree}
use Rattle.lisa_tree.specs.Declarations.{alternatives_at}
use Rattle.lisa_tree.specs.Paths.{Node, Choosing, choice_node}
use Rattle.coding_tables.proofs.description_graph_proofs.Nodes.{at_choice}
use Rattle.instruction_trees.specs.Trees.{Item, Fixed, Free, Field, Child, Table, Tree, Done, Pass, Value, Choose, Form, Fits, AnyValue, coding, size, placed, is_plain, instructions}
use Rattle.coding_tables.specs.Codings.{choice_alternatives, coding_table}
use Rattle.coding_tables.specs.Instructions.{instruction_choice, instruction_items}
use Rattle.coding_tables.proofs.Counted.{choice_within}
use Rattle.instruction_forms.specs.Trees.{is_plain_tree, are_plain}
use Rattle.instruction_forms.specs.Described.{children, instruction_form}
use Rattle.instruction_forms.specs.Widths.{IsInstructionWidth}
use Rattle.instruction_forms.proofs.Sizes.{NodeSized, node_sized, child_size}

-- ---- widths

module _ (d : DescriptionTree) (c w : ℕ) (is : instruction_choice d ≡ Some c) (wide : IsInstructionWidth d c w) where
  group_sized : NodeSized d (Choosing c) w
  group_sized = subst (λ (x : Node). NodeSized d x w) (at_choice d (choice_node d c) c (choice_within d c is) refl) (node_sized d (choice_node d c) w wide)

  pub small_width : w ≤ 64
  small_width = group_sized.0

  of_group : (f : Form) → Fits AnyValue (coding_table d) f (instructions (alternatives_at d c)) → size (coding_table d) f (instructions (alternatives_at d c)) ≡ w
  of_group (Choose k own Done) fits =
      let s = child_size d k own Done (alternatives_at d c) [] in
      let g = group_sized.1 k fits.0 own fits.1 in
      omega (arith, s, g)
  of_group (Choose k own (Pass t)) fits = absurd fits.2
  of_group (Choose k own (Value v t)) fits = absurd fits.2
  of_group (Choose k own (Choose j inner t)) fits = absurd fits.2
  of_group Done fits = absurd fits
  of_group (Pass t) fits = absurd fits
  of_group (Value v t) fits = absurd fits

  pub whole_width : (f : Form) → Fits AnyValue (coding_table d) f (instruction_items d) → size (coding_table d) f (instruction_items d) ≡ w
  whole_width f fits =
      let at = ap (λ (x : Option ℕ). instructions (choice_alternatives d x)) is in
      ap (size (coding_table d) f) at ∙ of_group f (subst (λ (items : List Item). Fits AnyValue (coding_table d) f items) at fits)

-- ---- plain forms

module _ (aliases : ℕ → Bool) where
  regrouped : (a b c : Bool) → ((not a && b) && c) ≡ (if a then false else (b && c))
  regrouped true b c = refl
  regrouped false true c = refl
  regrouped false false c = refl

  children_plain : (d : DescriptionTree) (t : Tree (ℕ × ℕ)) → are_plain aliases (children d t) ≡ is_plain aliases t
  children_plain d Done = refl
  children_plain d (Pass t) = children_plain d t
  children_plain d (Value place t) = children_plain d t
  children_plain d (Choose k own t) =
      ap₂ (λ (b c : Bool). (not (aliases k) && b) && c) (children_plain d own) (children_plain d t)
      ∙ regrouped (aliases k) (is_plain aliases own) (is_plain aliases t)

  placed_plain : (table : Table) (low : ℕ) (t : Form) (items : List Item) → Fits AnyValue table t items → is_plain aliases (placed table low t items) ≡ is_plain aliases t
  placed_plain table low Done [] fits = refl
  placed_plain table low (Pass t) (Fixed b ∷ items) fits = placed_plain table low t items fits
  placed_plain table low (Pass t) (Free ∷ items) fits = placed_plain table low t items fits
  placed_plain table low (Value v t) (Field n ∷ items) fits = placed_plain table low t items fits.1
  placed_plain table low (Choose k own t) (Child ks ∷ items) fits =
      ap₂ (λ (b c : Bool). if aliases k then false else (b && c)) (placed_plain table (low + size table t items) own (coding table k) fits.1) (placed_plain table low t items fits.2)
  placed_plain table low _ _ fits = absurd fits

  ended : (a b : Bool) → (not a && b) ≡ (if a then false else (b && true))
  ended true b = refl
  ended false true = refl
  ended false false = refl

  pub whole_plain : (d : DescriptionTree) (f : Form) → Fits AnyValue (coding_table d) f (instruction_items d) → is_plain_tree aliases (instruction_form d f) ≡ is_plain aliases f
  whole_plain d (Choose k own Done) fits =
      ap (λ (b : Bool). not (aliases k) && b) (children_plain d (placed (coding_table d) 0 own (coding (coding_table d) k)) ∙ placed_plain (coding_table d) 0 own (coding (coding_table d) k) fits.1)
      ∙ ended (aliases k) (is_plain aliases own)
  whole_plain d (Choose k own (Pass t)) fits = absurd fits.2
  whole_plain d (Choose k own (Value v t)) fits = absurd fits.2
  whole_plain d (Choose k own (Choose j inner t)) fits = absurd fits.2
  whole_plain d Done fits = absurd fits
  whole_plain d (Pass t) fits = absurd fits
  whole_plain d (Value v t) fits = absurd fits
