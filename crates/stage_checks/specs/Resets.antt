-- What the operation that gives the first values may have.
use Rattle.std.specs.Prelude.{ℕ, Bool, true, false, List, Option, None, Some, cond, slice_get, not, ◌||◌}
use Rattle.std.specs.Option.{is_some}
use Rattle.std.specs.List.{list_any}
use Rattle.lisa_tree.specs.Descriptions as trees
use Rattle.lisa_tree.specs.Descriptions.{ResourceTree, SectionTree, OperationTree, DescriptionTree}
use Rattle.lisa_tree.specs.declared.faults.DescFault.{DescFault}
use Rattle.lisa_tree.specs.declared.faults.DescFault.TheVariants as faults
use Rattle.description_places.specs.Scopes.{Scope, local_named}
use Rattle.description_places.specs.Places as places
use Rattle.description_places.specs.Places.{Place, Condition}
use Rattle.lisa_tree.specs.declared.declared.Meaning.{Meaning}
use Rattle.lisa_tree.specs.declared.declared.Meaning.TheVariants as meanings
use Rattle.lisa_tree.specs.Same.{same_name}
use Rattle.lisa_tree.specs.Operations.{name_at}
use Rattle.lisa_tree.specs.Meanings.{meaning}
use Rattle.stage_checks.specs.Controls.{reset_name}

-- a register that is no array
abbrev pub is_scalar : Option ResourceTree → Bool
is_scalar (Some (trees.Register word shape name None)) = true
is_scalar (Some (trees.Clocked word shape name)) = true
is_scalar _ = false

abbrev pub means_scalar : DescriptionTree → Meaning → Bool
means_scalar d (meanings.Resource k) = is_scalar (slice_get d.resources k)
means_scalar d (meanings.Declared i) = false
means_scalar d meanings.Nothing = false

-- the name is that of a local or of such a register
abbrev pub may_use : DescriptionTree → ℕ → Scope → List ℕ → Bool
may_use d o scope n = is_some (local_named n scope) || means_scalar d (meaning d o n)

abbrev pub is_behavior : SectionTree → Bool
is_behavior (trees.Behavior all) = true
is_behavior _ = false

-- a stage, or a section that is no BEHAVIOR
abbrev pub has_more : OperationTree → Bool
has_more operation = is_some operation.stage || list_any (λ s. not (is_behavior s)) operation.sections

-- What stands there goes beyond assignments of registers that are no arrays, and of locals. The sections are those that the head
-- tells of, and an `execute` or `shift` stands in `main` alone.
abbrev pub goes_beyond : DescriptionTree → ℕ → Scope → Place → Bool
goes_beyond d o scope (places.Resource k resource) = false
goes_beyond d o scope (places.Head operation) = has_more operation
goes_beyond d o scope (places.Section all k) = false
goes_beyond d o scope (places.Declared k n) = false
goes_beyond d o scope (places.Alternatives all) = false
goes_beyond d o scope (places.Stands n) = false
goes_beyond d o scope (places.Root register group) = false
goes_beyond d o scope (places.Field n pattern) = false
goes_beyond d o scope (places.Operand n) = false
goes_beyond d o scope (places.Number n format) = false
goes_beyond d o scope (places.Shown n) = false
goes_beyond d o scope (places.Reads n) = not (may_use d o scope n)
goes_beyond d o scope (places.ReadsElement n) = true
goes_beyond d o scope (places.ReadsInput field) = true
goes_beyond d o scope (places.ReadsOutput field) = true
goes_beyond d o scope (places.ReadsBoundary pipe before after field) = true
goes_beyond d o scope places.ReadsDecoded = true
goes_beyond d o scope (places.Casts shape) = false
goes_beyond d o scope (places.Writes n) = not (may_use d o scope n)
goes_beyond d o scope (places.WritesElement n) = true
goes_beyond d o scope (places.WritesOutput field) = true
goes_beyond d o scope (places.Local shape n value) = false
goes_beyond d o scope (places.Assigns target value) = false
goes_beyond d o scope places.Loops = false
goes_beyond d o scope (places.Counts head) = false
goes_beyond d o scope (places.Steps n) = not (may_use d o scope n)
goes_beyond d o scope (places.Calls n) = true
goes_beyond d o scope (places.Stalls pipe stage) = true
goes_beyond d o scope (places.Flushes pipe stage) = true
goes_beyond d o scope (places.Executes pipe) = false
goes_beyond d o scope (places.Shifts pipe) = false
goes_beyond d o scope (places.Starts n) = false

abbrev pub refused : Bool → Option DescFault
refused beyond = cond beyond (Some faults.BadReset) None

abbrev pub bad_reset : DescriptionTree → Condition DescFault
bad_reset d o region scope place = cond (same_name reset_name (name_at d o)) (refused (goes_beyond d o scope place)) None
