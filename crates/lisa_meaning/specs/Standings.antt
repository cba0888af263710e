-- What part of an instruction's form an occurrence is.
use Rattle.std.specs.Prelude.{ℕ, zero, suc, Option, None, Some, slice_get}
use Rattle.std.specs.Option.{option_and_then}
use Rattle.lisa_tree.specs.Descriptions.{DescriptionTree}
use Rattle.lisa_forms.specs.activation_trees.declared.parts.Occurrence.{Occurrence}
use Rattle.lisa_forms.specs.activation_trees.Unfolding.{occurrences}
use Rattle.lisa_forms.specs.instruction_forms.Trees.{FormTree}
use Rattle.lisa_forms.specs.Ways.{way}
use Rattle.lisa_forms.specs.Standings.{stood}

-- a part of the form, or none of it; and neither where the form doesn't choose the occurrence
abbrev pub Stood : Type 0
Stood = Option (Option FormTree)

-- an occurrence stands by the way in which it is activated, and by how its activator stands
abbrev pub stood_below : (ℕ → Stood) → DescriptionTree → FormTree → ℕ → Option Occurrence → Stood
stood_below above d f k None = None
stood_below above d f k (Some x) = stood (way d k x) f x.operation (option_and_then above x.parent)

-- so many levels up
abbrev pub standing_within : ℕ → DescriptionTree → FormTree → ℕ → Stood
standing_within zero d f k = None
standing_within (suc levels) d f k = stood_below (standing_within levels d f) d f k (slice_get (occurrences d) k)

-- An activator stands before what it activates, so no path up has more levels than an occurrence's number and one.
abbrev pub standing : DescriptionTree → FormTree → ℕ → Stood
standing d f k = standing_within (suc k) d f k
