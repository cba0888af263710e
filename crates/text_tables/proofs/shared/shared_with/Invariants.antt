use Rattle.std.proofs.Common.{ℕ, ◌<◌, List}
use Rattle.instruction_texts.specs.declared.shapes.Token.{Token}
use Rattle.text_tables.specs.Parts.{all_pieces}
use Rattle.text_tables.specs.Shared.{IsShared}
use Rattle.text_tables.proofs.shared.shared_with.Given as goal

abbrev pub invariant-later : goal.invariant-later
invariant-later l = (j : ℕ) (ts : List Token) → j < l.second → IsShared (all_pieces l.texts) l.first j ts → ⊥
