-- The bits of the occurrences so far.
use Rattle.std.proofs.Common.{◌≡◌, ◌&&◌, ℕ, nat_lt}
use Rattle.lisa_tree.specs.Descriptions.{DescriptionTree}
use Rattle.scene_paths.specs.lisa_forms.Parts.{AreFormsOf}
use Rattle.activation_bits.specs.Members.{member}
use Rattle.occurrence_choices.specs.Standings.{chosen_in}
use Rattle.occurrence_choices.proofs.making.fill_row.Given as goal

abbrev pub invariant-each : goal.invariant-each
invariant-each l = (d : DescriptionTree) → AreFormsOf d l.forms → (k : ℕ) → member l.row k ≡ (nat_lt k l.number && chosen_in d l.standings k)
