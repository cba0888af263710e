-- What bytes are as a description: accepted, or at fault.
use Rattle.std.specs.Prelude.{ℕ, ◌≡◌, List}
use Rattle.lisa_tree.specs.declared.faults.DescFault.{DescFault}
use Rattle.lisa_tree.specs.declared.faults.DescFault.TheVariants as faults
use Rattle.lisa_tree.specs.Descriptions.{DescriptionTree}
use Rattle.lisa_tree.specs.Texts.{SpellsText}
use Rattle.lisa_reader.specs.Answers.{IsBroken, IsSameFault}
use Rattle.lisa_outcomes.specs.declared.status.Refusal.{Refusal}
use Rattle.lisa_outcomes.specs.declared.status.Refusal.TheVariants as refusals
use Rattle.checked_descriptions.specs.Checked.{Checked, IsChecked}
use Rattle.checked_descriptions.specs.Conditions.{IsFirstOfAll}

-- the bytes spell this description, and no condition is broken in it
pub record IsAcceptedAs (bytes : List ℕ) (c : Checked) : Type 0 where
  pub spelled : SpellsText bytes c.tree
  pub checked : IsChecked c.tree c

-- the first fault of the bytes: they spell no description, or the one that they spell has it
pub data IsFirstFaultOf (bytes : List ℕ) (fault : DescFault) : Type 0 where
  unread : IsBroken bytes fault → IsFirstFaultOf bytes fault
  refused : (d : DescriptionTree) → SpellsText bytes d → IsFirstOfAll d fault → IsFirstFaultOf bytes fault

-- the same fault, apart from a place that is only bounded, and from the text that two forms share, which may be any such text
abbrev pub IsSameFirst : DescFault → DescFault → Type 0
IsSameFirst (faults.Ambiguous first second text) (faults.Ambiguous one other words) = (first ≡ one) × (second ≡ other)
IsSameFirst f g = IsSameFault f g

-- the refusal of bytes with a first fault
abbrev pub IsRefusedFirst : List ℕ → Refusal → Type 0
IsRefusedFirst bytes refusal = (fault : DescFault) × IsFirstFaultOf bytes fault × (refusal ≡ refusals.Description fault)
