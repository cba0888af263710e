-- Roots that occur twice.
use Rattle.std.specs.Prelude.{ℕ, zero, suc, ◌+◌, Bool, true, false, ◌||◌, ◌&&◌, Option, None, Some, cond, nat_lt, length}
use Rattle.lisa_tree.specs.Descriptions.{DescriptionTree}
use Rattle.lisa_tree.specs.Operations.{is_root}
use Rattle.activation_trees.specs.Unfolding.{occurrences_of}

-- an operation before this one has a root
abbrev pub root_before : DescriptionTree → ℕ → Bool
root_before d zero = false
root_before d (suc o) = root_before d o || is_root d o

-- The operation has a root, and one before it has, or it has two occurrences.
abbrev pub is_twice : DescriptionTree → ℕ → Bool
is_twice d o = is_root d o && (root_before d o || nat_lt 1 (length (occurrences_of d o)))

abbrev pub first_from : DescriptionTree → ℕ → ℕ → Option ℕ
first_from d o zero = None
first_from d o (suc more) = cond (is_twice d o) (Some o) (first_from d (o + 1) more)

-- the first such operation
abbrev pub first_root_twice : DescriptionTree → Option ℕ
first_root_twice d = first_from d 0 (length d.operations)
