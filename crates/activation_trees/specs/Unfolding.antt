-- The occurrences of a description: the nodes of its tree of activations, unfolded from `main` and numbered in preorder.
use Rattle.std.specs.Prelude.{ℕ, zero, suc, ◌≡◌, ◌+◌, ◌-◌, ◌^◌, Bool, false, ◌||◌, List, [], ◌∷◌, ◌++◌, Option, None, Some, length, map, min, filter, reverse, nat_eq}
use Rattle.std.specs.Option.{option_or}
use Rattle.lisa_tree.specs.Descriptions.{DescriptionTree}
use Rattle.lisa_tree.specs.Operations.{number_of, own_stage}
use Rattle.lisa_tree.specs.Paths.{node_count}
use Rattle.stage_checks.specs.Controls.{main_name}
use Rattle.activation_trees.specs.declared.parts.Occurrence.{Occurrence}
use Rattle.activation_trees.specs.Starting.{Activated, activated}

-- An operation where it is activated. It runs in its own stage, else in that of its activator, else in none.
abbrev pub occurrence : DescriptionTree → Option ℕ → Option ℕ → Bool → ℕ → Occurrence
occurrence d parent from past o = record { operation = o; parent = parent; from = from; stage = option_or (own_stage d o) from; past_root = past }

-- What another occurrence, of this number, activates. It stands past the root where that one does, or is activated by the root's group.
abbrev pub child : DescriptionTree → ℕ → Occurrence → Activated → Occurrence
child d number above a = occurrence d (Some number) above.stage (above.past_root || a.by_root) a.operation

abbrev pub children : DescriptionTree → ℕ → Occurrence → List Occurrence
children d number above = map (child d number above) (activated d above.operation)

-- occurrences with all that each of them unfolds to, one behind the other, numbered from a number on
abbrev pub in_turn : (ℕ → Occurrence → List Occurrence) → ℕ → List Occurrence → List Occurrence
in_turn tree next [] = []
in_turn tree next (x ∷ rest) = tree next x ++ in_turn tree (next + length (tree next x)) rest

-- an occurrence, and then what is below each of its children, so many levels deep
abbrev pub unfolded : ℕ → DescriptionTree → ℕ → Occurrence → List Occurrence
unfolded zero d next x = []
unfolded (suc levels) d next x = x ∷ in_turn (unfolded levels d) (suc next) (children d next x)

-- Where no operation reaches itself, no path has more levels.
abbrev pub whole : DescriptionTree → ℕ → Occurrence → List Occurrence
whole d next x = unfolded (suc (node_count d)) d next x

abbrev pub firsts : DescriptionTree → Option ℕ → List Occurrence
firsts d None = []
firsts d (Some o) = occurrence d None None false o ∷ []

abbrev pub occurrences : DescriptionTree → List Occurrence
occurrences d = in_turn (whole d) 0 (firsts d (number_of d main_name))

-- ---- how many there are

abbrev pub capped : ℕ → ℕ
capped n = min n (2 ^ 64 - 1)

abbrev pub occurrence_count : DescriptionTree → ℕ
occurrence_count d = capped (length (occurrences d))

-- all, or those of one operation
abbrev pub counted : Option ℕ → List Occurrence → List Occurrence
counted None all = all
counted (Some r) all = filter (λ x. nat_eq x.operation r) all

abbrev pub occurrences_of : DescriptionTree → ℕ → List Occurrence
occurrences_of d o = counted (Some o) (occurrences d)

-- ---- on the way

-- What is found, with what is still to be unfolded, the last one first, are the occurrences.
abbrev pub IsUnfolding : DescriptionTree → List Occurrence → List Occurrence → Type 0
IsUnfolding d found work = found ++ in_turn (whole d) (length found) (reverse work) ≡ occurrences d
