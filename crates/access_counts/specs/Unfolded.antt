-- How often the texts of an operation read and write elements of arrays once they are unfolded: with each call followed by the behaviours
-- of all operations that it may run, and each child that is read or assigned replaced by the expressions of all operations that it may
-- choose.
use Rattle.std.specs.Prelude.{ℕ, zero, suc, ◌+◌, List, sum_by}
use Rattle.std.specs.Option.{option_map_or}
use Rattle.lisa_tree.specs.Descriptions.{SectionTree, DescriptionTree}
use Rattle.lisa_tree.specs.Operations.{sections_at, behavior_in, expression_in, activation_in}
use Rattle.lisa_tree.specs.Resources.{resource_at}
use Rattle.lisa_tree.specs.Declarations.{declared_at}
use Rattle.access_counts.specs.Accesses.{Access, Naming, value_accesses, place_accesses, statements_accesses, items_accesses}

-- what an operation counts: where its expression is read, where its expression is assigned, and where its behaviour runs
pub record Counted : Type 0 where
  pub read : ℕ
  pub assigned : ℕ
  pub run : ℕ

-- what a read and a write count, by the numbers of resources
abbrev pub of_resources : DescriptionTree → (read write : ℕ → ℕ) → Access
of_resources d read write = record { read = λ n. option_map_or read (resource_at d n) 0; write = λ n. option_map_or write (resource_at d n) 0 }

-- What the names in an operation count, by what each declared name may choose and by what operations count. What isn't declared, a local or
-- a resource, counts nothing.
abbrev pub naming : DescriptionTree → (ℕ → List ℕ) → (ℕ → Counted) → ℕ → Naming
naming d chosen counted o = record {
  read = λ n. option_map_or (λ i. sum_by (λ b. (counted b).read) (chosen i)) (declared_at d o n) 0;
  assigned = λ n. option_map_or (λ i. sum_by (λ b. (counted b).assigned) (chosen i)) (declared_at d o n) 0;
  run = λ n. option_map_or (λ i. sum_by (λ b. (counted b).run) (chosen i)) (declared_at d o n) 0;
}

abbrev pub sections_accesses : Access → Naming → List SectionTree → Counted
sections_accesses a names sections = record {
  read = option_map_or (value_accesses a names) (expression_in sections) 0;
  assigned = option_map_or (place_accesses a names) (expression_in sections) 0;
  run = option_map_or (statements_accesses a names) (behavior_in sections) 0;
}

-- what an operation counts, unfolded so many levels deep
abbrev pub counted_within : ℕ → DescriptionTree → (ℕ → List ℕ) → Access → ℕ → Counted
counted_within zero d chosen a o = record { read = 0; assigned = 0; run = 0 }
counted_within (suc k) d chosen a o = sections_accesses a (naming d chosen (counted_within k d chosen a) o) (sections_at d o)

-- its behaviour and its activation
abbrev pub texts_accesses : Access → Naming → List SectionTree → ℕ
texts_accesses a names sections = option_map_or (statements_accesses a names) (behavior_in sections) 0 + option_map_or (items_accesses a names) (activation_in sections) 0

-- those of an operation, unfolded so many levels deep
abbrev pub text_accesses : ℕ → DescriptionTree → (ℕ → List ℕ) → Access → ℕ → ℕ
text_accesses k d chosen a o = texts_accesses a (naming d chosen (counted_within k d chosen a) o) (sections_at d o)
