-- Tests of what is known of declarations.
use Rattle.std.specs.Prelude.{Bool, true, false, Option, Some, not}
use Rattle.description_types.specs.declared.values.TypeOf.{TypeOf}
use Rattle.description_types.specs.declared.values.TypeOf.TheVariants as types
use Rattle.description_types.specs.declared.values.Assignable.{Assignable}
use Rattle.description_types.specs.declared.values.Assignable.TheVariants as assigns

abbrev pub has_no_type : Option TypeOf → Bool
has_no_type (Some types.NoType) = true
has_no_type _ = false

-- that it may be assigned, or that it may not
abbrev pub is_assignable : Bool → Option Assignable → Bool
is_assignable may (Some assigns.Yes) = may
is_assignable may (Some assigns.No) = not may
is_assignable may _ = false
