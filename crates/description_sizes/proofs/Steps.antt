-- One occurrence after the other.
use Rattle.std.proofs.Common.{◌≡◌, ◌<◌, ◌+◌, ℕ, List, length, get_or, drop, sym, ap, ◌∙◌}
use Rattle.std.specs.Prelude.{sum_by}
use Rattle.std.proofs.lemmas.List.Sums.{sum_by-drop_more}
use Rattle.activation_trees.specs.declared.parts.Occurrence.{Occurrence}
use Rattle.text_counts.specs.Tables.{TextTable}
use Rattle.description_sizes.specs.Sums.{statements_by, nodes_by}

one_summed : (f : Occurrence → ℕ) (all : List Occurrence) (i : ℕ) (x : Occurrence) → i < length all → x ≡ get_or all i x → sum_by f (drop i all) ≡ f x + sum_by f (drop (i + 1) all)
one_summed f all i x h e = sum_by-drop_more f all i x h ∙ ap (λ (y : Occurrence). f y + sum_by f (drop (i + 1) all)) (sym e)

pub one_of_statements : (t : TextTable) (all : List Occurrence) (i : ℕ) (x : Occurrence) → i < length all → x ≡ get_or all i x
    → sum_by (statements_by t) (drop i all) ≡ statements_by t x + sum_by (statements_by t) (drop (i + 1) all)
one_of_statements t all i x h e = one_summed (statements_by t) all i x h e

pub one_of_nodes : (t : TextTable) (all : List Occurrence) (i : ℕ) (x : Occurrence) → i < length all → x ≡ get_or all i x
    → sum_by (nodes_by t) (drop i all) ≡ nodes_by t x + sum_by (nodes_by t) (drop (i + 1) all)
one_of_nodes t all i x h e = one_summed (nodes_by t) all i x h e
