-- From widths to the width of instructions.
use Rattle.std.proofs.Common.{◌≡◌, ℕ, Option, None, Some, refl}
use Rattle.lisa_tree.specs.Descriptions.{DescriptionTree}
use Rattle.lisa_tree.specs.Paths.{choice_node}
use Rattle.form_texts.specs.coding_checks.Uneven.{IsFirstGroupWidth, group_width}
use Rattle.form_texts.specs.coding_tables.Instructions.{instruction_choice}
use Rattle.form_texts.specs.instruction_forms.Widths.{HasInstructionWidth, HasWidth}
use Rattle.form_texts.proofs.instruction_forms_proofs.Wide.{small_width}
use Rattle.lisa_machine.specs.Soundness.{IsSound}
use Rattle.lisa_machine.specs.Freedom.{IsFree}
use Rattle.lisa_machine.proofs.Sound.{sound}
use Rattle.form_promises.proofs.Placed.{some_width}
use Rattle.form_promises.proofs.Rooted.{the_root}
use Rattle.form_promises.proofs.Wide.{group_wide}
use Rattle.form_promises.proofs.instructions.instructions_have_a_width.Goals as goal

width_of : (d : DescriptionTree) → IsSound d → IsFirstGroupWidth d None → HasInstructionWidth d
width_of d s first = λ c is.
    let w = group_wide d s first.widths first.exact even c (the_root d c is) in
    (w.0, (first.exact (choice_node d c) w.0).0 w.1)
  where
    even : IsFree (group_width first.widths d) d
    even = cc first.is

exact_of : (d : DescriptionTree) → HasInstructionWidth d → (width : Option ℕ) × HasWidth d width
exact_of d has = by (instruction_choice d) refl
  where
    by : (r : Option ℕ) → instruction_choice d ≡ r → (width : Option ℕ) × HasWidth d width
    by None is = (None, is)
    by (Some c) is = let w = has c is in (Some w.0, (c, is, w.1))

pub returns-clause-width : goal.returns-clause-width
returns-clause-width c = λ d accepted even. width_of d (sound d accepted) even

pub returns-clause-exact : goal.returns-clause-exact
returns-clause-exact c = λ d accepted even. exact_of d (width_of d (sound d accepted) even)

pub returns-clause-small : goal.returns-clause-small
returns-clause-small c = λ d w has. small_width d has.0 w has.1 has.2

pub returns-clause-some : goal.returns-clause-some
returns-clause-some c = λ d accepted spelled even. some_width d (sound d accepted) spelled even
