-- Activations of earlier stages, and of later ones from outside of stages.
use Rattle.std.specs.Prelude.{ℕ, ◌≡◌, Bool, false, List, [], ◌∷◌, Option, None, Some, cond, not, ◌||◌, ◌&&◌}
use Rattle.std.specs.Option.{is_some}
use Rattle.std.specs.List.{list_any}
use Rattle.lisa_tree.specs.Descriptions.{OperationTree, DescriptionTree}
use Rattle.lisa_tree.specs.declared.faults.DescFault.{DescFault}
use Rattle.lisa_tree.specs.declared.faults.DescFault.TheVariants as faults
use Rattle.description_places.specs.Places.{Starts, Condition, first, description_places}
use Rattle.lisa_tree.specs.Declarations.{plain_at}
use Rattle.lisa_tree.specs.Operations.{number_of, operation_at, coding_in, name_at, own_stage}
use Rattle.stage_checks.specs.Controls.{main_name, is_before}
use Rattle.stage_checks.specs.Closing.{closes_well}
use Rattle.stage_checks.specs.Running.{started, AreLatest, AreFree}

-- the operations that an item activates
abbrev pub plain_of : DescriptionTree → Option ℕ → List ℕ
plain_of d None = []
plain_of d (Some c) = plain_at d c

-- ---- backward

-- the first of these operations that has a stage of its own before this one
abbrev pub first_before : DescriptionTree → Option ℕ → List ℕ → Option ℕ
first_before d late [] = None
first_before d late (a ∷ rest) = cond (is_before (own_stage d a) late) (Some a) (first_before d late rest)

abbrev pub goes_back : DescriptionTree → ℕ → Option ℕ → Option DescFault
goes_back d o None = None
goes_back d o (Some a) = Some (faults.Backward (name_at d o) (name_at d a))

-- an operation that runs in a stage activates one of an earlier stage
abbrev pub backward : DescriptionTree → (ℕ → Option ℕ) → Condition DescFault
backward d latest o region scope (Starts n) = goes_back d o (first_before d (latest o) (plain_of d (started d o n)))
backward d latest o region scope place = None

-- the first fault of this kind, where `latest` has the latest stage of each operation
pub record IsBackwardVerdict (d : DescriptionTree) (found : Option DescFault) : Type 0 where
  pub latest : ℕ → Option ℕ
  pub are_latest : AreLatest d latest
  pub first_fault : found ≡ first (backward d latest) (description_places d)

-- a stage that stands before another exactly where that of one of these operations does
abbrev pub IsEarliest : DescriptionTree → List ℕ → Option ℕ → Type 0
IsEarliest d all x = (late : Option ℕ) → is_before x late ≡ list_any (λ a. is_before (own_stage d a) late) all

-- ---- `main`

-- one of these operations has a stage of its own behind the first one
abbrev pub any_late : DescriptionTree → List ℕ → Bool
any_late d all = list_any (λ a. is_before (Some 0) (own_stage d a)) all

abbrev pub bad : Bool → Option DescFault
bad skips = cond skips (Some faults.BadMain) None

-- an operation that runs outside of stages activates one of a later stage than the first
abbrev pub skipping : DescriptionTree → (ℕ → Bool) → Condition DescFault
skipping d free o region scope (Starts n) = bad (free o && any_late d (plain_of d (started d o n)))
skipping d free o region scope place = None

-- without stage and coding
abbrev pub is_plain : OperationTree → Bool
is_plain operation = not (is_some operation.stage) && not (is_some (coding_in operation.sections))

abbrev pub holds_plain : Option OperationTree → Bool
holds_plain None = false
holds_plain (Some operation) = is_plain operation

abbrev pub main_fits : DescriptionTree → Option ℕ → Bool
main_fits d None = false
main_fits d (Some m) = holds_plain (operation_at d m)

abbrev pub bad_main : DescriptionTree → (ℕ → Bool) → Bool
bad_main d free = not (main_fits d (number_of d main_name)) || (not (closes_well d) || is_some (first (skipping d free) (description_places d)))

-- whether `main` is at fault, where `free` has what runs outside of stages
pub record IsMainVerdict (d : DescriptionTree) (found : Bool) : Type 0 where
  pub free : ℕ → Bool
  pub are_free : AreFree d free
  pub verdict : found ≡ bad_main d free
