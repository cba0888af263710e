-- Entries of a list, by their numbers.
use Rattle.std.proofs.Common.{◌≡◌, ◌<◌, ◌≤◌, ℕ, List, length, map, get_or, None, Some, ap, sym, ◌∙◌}
use Rattle.std.specs.Prelude.{slice_get, option_map}
use Rattle.std.proofs.lemmas.Option.{slice_get-map, slice_get_past, slice_get-get_or}
use Rattle.lisa_tree.specs.declared.descriptions.Resource.{Resource}
use Rattle.lisa_tree.specs.declared.descriptions.Operation.{Operation}
use Rattle.lisa_tree.specs.Descriptions.{resource_tree, operation_tree}

pub resource_read : (all : List Resource) (k : ℕ) (r : Resource) → k < length all → r ≡ get_or all k r → slice_get (map resource_tree all) k ≡ Some (resource_tree r)
resource_read all k r h e = slice_get-map resource_tree all k ∙ ap (option_map resource_tree) (slice_get-get_or all k r h) ∙ ap (λ (x : Resource). Some (resource_tree x)) (sym e)

pub resource_past : (all : List Resource) (k : ℕ) → length all ≤ k → slice_get (map resource_tree all) k ≡ None
resource_past all k h = slice_get-map resource_tree all k ∙ ap (option_map resource_tree) (slice_get_past all k h)

pub operation_read : (all : List Operation) (k : ℕ) (r : Operation) → k < length all → r ≡ get_or all k r → slice_get (map operation_tree all) k ≡ Some (operation_tree r)
operation_read all k r h e = slice_get-map operation_tree all k ∙ ap (option_map operation_tree) (slice_get-get_or all k r h) ∙ ap (λ (x : Operation). Some (operation_tree x)) (sym e)

pub operation_past : (all : List Operation) (k : ℕ) → length all ≤ k → slice_get (map operation_tree all) k ≡ None
operation_past all k h = slice_get-map operation_tree all k ∙ ap (option_map operation_tree) (slice_get_past all k h)
