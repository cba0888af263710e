-- The root of a description, and the group of its instructions.
use Rattle.std.proofs.Common.{◌≡◌, ◌<◌, ◌+◌, ℕ, zero, suc, List, Option, None, Some, true, false, length, refl, sym, ap, ◌∙◌, arith}
use Rattle.std.specs.Prelude.{option_map}
use Rattle.std.specs.Option.{option_or}
use Rattle.std.proofs.lemmas.Option.{slice_get_within}
use Rattle.lisa_tree.specs.Expressions.{ExprTree}
use Rattle.lisa_tree.specs.Descriptions as trees
use Rattle.lisa_tree.specs.Descriptions.{CodingTree, OperationTree, DescriptionTree}
use Rattle.lisa_tree.specs.declared.declared.What.{What}
use Rattle.lisa_tree.specs.declared.declared.What.TheVariants as whats
use Rattle.lisa_tree.specs.Operations.{operation_at, coding_in, sections_at, is_root}
use Rattle.form_texts.specs.coding_checks.Widths.{choice_of, choice_named}
use Rattle.form_texts.specs.coding_tables.Instructions.{root, root_group, root_from, choice_of_root, instruction_choice}
use Rattle.lisa_machine.specs.Declaring.{IsDeclared, IsGroup}
use Rattle.lisa_machine.specs.Soundness.{IsSound}
use Rattle.lisa_machine.proofs.Standing.{coding_stand}
use Rattle.lisa_machine.proofs.Fitting.{coding_fits}

-- ---- names

pub named : (d : DescriptionTree) (o : ℕ) (n : List ℕ) (what : What) (g : IsDeclared d o n what) → choice_named d o n ≡ choice_of (Some what)
named d o n what g = cc (g.declared, g.is)

-- ---- the first root

-- an operation with a root, and its group's number
pub record IsRootOf (d : DescriptionTree) (c : ℕ) : Type 0 where
  pub operation : ℕ
  pub place : ExprTree
  pub group : List ℕ
  pub is : coding_in (sections_at d operation) ≡ Some (trees.Root place group)
  pub chosen : choice_named d operation group ≡ Some c

module _ (d : DescriptionTree) where
  abbrev step : ℕ → ℕ → Option CodingTree → Option ℕ
  step o more part = choice_of_root d (option_or (option_map (root o) (root_group part)) (root_from d (o + 1) more))

  -- the first root among some operations
  root_of : (c o more : ℕ) → choice_of_root d (root_from d o more) ≡ Some c → IsRootOf d c
  root_of c o zero e = absurd (cc e)
  root_of c o (suc more) e = by (coding_in (sections_at d o)) refl (root_of c (o + 1) more)
    where
      by : (part : Option CodingTree) → coding_in (sections_at d o) ≡ part → (choice_of_root d (root_from d (o + 1) more) ≡ Some c → IsRootOf d c) → IsRootOf d c
      by None is later = later (sym (ap (step o more) is) ∙ e)
      by (Some (trees.Items all)) is later = later (sym (ap (step o more) is) ∙ e)
      by (Some (trees.Root place group)) is later = record { operation = o; place = place; group = group; is = is; chosen = sym (ap (step o more) is) ∙ e }

  pub the_root : (c : ℕ) → instruction_choice d ≡ Some c → IsRootOf d c
  the_root c e = root_of c 0 (length d.operations) e

  no_root : (o more : ℕ) → ((k : ℕ) → is_root d k ≡ false) → choice_of_root d (root_from d o more) ≡ None
  no_root o zero none = refl
  no_root o (suc more) none = by (coding_in (sections_at d o)) refl (no_root (o + 1) more none)
    where
      by : (part : Option CodingTree) → coding_in (sections_at d o) ≡ part → choice_of_root d (root_from d (o + 1) more) ≡ None → choice_of_root d (root_from d o (suc more)) ≡ None
      by None is later = ap (step o more) is ∙ later
      by (Some (trees.Items all)) is later = ap (step o more) is ∙ later
      by (Some (trees.Root place group)) is later = absurd (cc (is, none o))

  pub without_root : ((k : ℕ) → is_root d k ≡ false) → instruction_choice d ≡ None
  without_root none = no_root 0 (length d.operations) none

  -- an operation with a coding is there
  pub coded_there : (o : ℕ) (part : CodingTree) → coding_in (sections_at d o) ≡ Some part → o < length d.operations
  coded_there o part is = by (operation_at d o) refl
    where
      by : (r : Option OperationTree) → operation_at d o ≡ r → o < length d.operations
      by None at = absurd (cc (at, is))
      by (Some operation) at = slice_get_within d.operations o operation at

  pub root_coding : (o : ℕ) → is_root d o ≡ true → (place : ExprTree) × (group : List ℕ) × (coding_in (sections_at d o) ≡ Some (trees.Root place group))
  root_coding o e = by (coding_in (sections_at d o)) refl
    where
      by : (part : Option CodingTree) → coding_in (sections_at d o) ≡ part → (place : ExprTree) × (group : List ℕ) × (coding_in (sections_at d o) ≡ Some (trees.Root place group))
      by None is = absurd (cc (is, e))
      by (Some (trees.Items all)) is = absurd (cc (is, e))
      by (Some (trees.Root place group)) is = (place, group, is)

module _ (d : DescriptionTree) (s : IsSound d) where
  -- a root's group is one of its operation
  pub its_group : (o : ℕ) (place : ExprTree) (group : List ℕ) → coding_in (sections_at d o) ≡ Some (trees.Root place group) → IsGroup d o group
  its_group o place group is = (coding_fits d s.known s.stand s.uses s.widths o (trees.Root place group) (coding_stand d o (trees.Root place group) is)).1

  abbrev Later : ℕ → ℕ → Type 0
  Later o more = (j : ℕ) → j < more → is_root d (o + 1 + j) ≡ true → (c : ℕ) × (choice_of_root d (root_from d (o + 1) more) ≡ Some c)

  -- a root at some operation or behind it has a group
  chosen_from : (o more k : ℕ) → k < more → is_root d (o + k) ≡ true → (c : ℕ) × (choice_of_root d (root_from d o more) ≡ Some c)
  chosen_from o zero k h e = absurd (omega arith)
  chosen_from o (suc more) k h e = by (coding_in (sections_at d o)) refl (λ j l i. chosen_from (o + 1) more j l i)
    where
      next : Later o more → (j : ℕ) → is_root d o ≡ false → k ≡ j → (c : ℕ) × (choice_of_root d (root_from d (o + 1) more) ≡ Some c)
      next later zero rootless at = let number : o + k ≡ o = omega arith in absurd (cc (sym (ap (is_root d) number) ∙ e, rootless))
      next later (suc j) rootless at = let number : o + 1 + j ≡ o + k = omega arith in later j (omega arith) (ap (is_root d) number ∙ e)

      behind : (part : Option CodingTree) → coding_in (sections_at d o) ≡ part → root_group part ≡ None → is_root d o ≡ false → Later o more → (c : ℕ) × (choice_of_root d (root_from d o (suc more)) ≡ Some c)
      behind part is none rootless later =
          let l = next later k rootless refl in
          (l.0, ap (step d o more) is ∙ ap (λ (g : Option (List ℕ)). choice_of_root d (option_or (option_map (root o) g) (root_from d (o + 1) more))) none ∙ l.1)

      by : (part : Option CodingTree) → coding_in (sections_at d o) ≡ part → Later o more → (c : ℕ) × (choice_of_root d (root_from d o (suc more)) ≡ Some c)
      by None is later = behind None is refl (cc is) later
      by (Some (trees.Items all)) is later = behind (Some (trees.Items all)) is refl (cc is) later
      by (Some (trees.Root place group)) is later =
          let g = its_group o place group is in
          (g.0, ap (step d o more) is ∙ named d o group (whats.Group g.0) g.1)

  pub root_chosen : (o : ℕ) → is_root d o ≡ true → (c : ℕ) × (instruction_choice d ≡ Some c)
  root_chosen o e =
      let r = root_coding d o e in
      let number : 0 + o ≡ o = omega arith in
      chosen_from 0 (length d.operations) o (coded_there d o (trees.Root r.0 r.1) r.2) (ap (is_root d) number ∙ e)
