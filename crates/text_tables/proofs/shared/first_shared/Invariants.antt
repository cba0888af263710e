use Rattle.std.proofs.Common.{ℕ, ◌<◌, List}
use Rattle.instruction_texts.specs.declared.shapes.Token.{Token}
use Rattle.text_tables.specs.Parts.{all_pieces}
use Rattle.text_tables.specs.Shared.{IsShared}
use Rattle.text_tables.proofs.shared.first_shared.Given as goal

abbrev pub invariant-forms : goal.invariant-forms
invariant-forms l = (i j : ℕ) (ts : List Token) → i < l.first → IsShared (all_pieces l.texts) i j ts → ⊥
