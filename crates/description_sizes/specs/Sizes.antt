-- The sizes of a description, and the first that exceeds its limit.
use Rattle.std.specs.Prelude.{codes, ℕ, List, [], ◌∷◌, ◌++◌, Option, length, find, max, option_map, sum_by}
use Rattle.std.specs.Option.{option_map_or}
use Rattle.lisa_tree.specs.declared.faults.DescFault.{DescFault}
use Rattle.lisa_tree.specs.Descriptions.{DescriptionTree}
use Rattle.activation_trees.specs.lisa_engine.declared.parts.Item.{Item}
use Rattle.lisa_tree.specs.Resources.{stages}
use Rattle.lisa_tree.specs.Operations.{number_of}
use Rattle.machine_parts.specs.Parts.{arrays_of, pins_of, registers_of, reset_count}
use Rattle.activation_trees.specs.Unfolding.{occurrences}
use Rattle.activation_trees.specs.Items.{items_of}
use Rattle.description_sizes.specs.declared.sizes.Measure.TheVariants as measures
use Rattle.description_sizes.specs.declared.sizes.Size.{Size}
use Rattle.description_sizes.specs.Limits.{size, exceeds, fault}
use Rattle.description_sizes.specs.Cells.{cell_count}
use Rattle.description_sizes.specs.Texts.{texts, nodes_at}
use Rattle.description_sizes.specs.Sums.{statements_by, nodes_by}

-- ---- the counts

abbrev pub items : DescriptionTree → Option ℕ → List Item
items d width = items_of (registers_of d) d width (occurrences d)

-- The statements of the unfolded text, that is of each occurrence's behaviour, or those of `reset` with its loops unrolled where they
-- are more.
abbrev pub text_statements : DescriptionTree → ℕ
text_statements d = max (sum_by (statements_by (texts d)) (occurrences d)) (reset_count d)

-- the nodes of `reset`; 0 where there is none
abbrev pub reset_nodes : DescriptionTree → ℕ
reset_nodes d = option_map_or (nodes_at d) (number_of d (codes "reset")) 0

-- The nodes of the unfolded text, that is of each occurrence's behaviour and activation, or those of `reset` where they are more.
abbrev pub text_nodes : DescriptionTree → ℕ
text_nodes d = max (sum_by (nodes_by (texts d)) (occurrences d)) (reset_nodes d)

-- ---- the sizes in the order in which they are compared with their limits

-- those that are told without unfolding activations
abbrev pub written_sizes : DescriptionTree → ℕ → List Size
written_sizes d forms =
    size measures.Stages (length (stages d))
    ∷ size measures.Pins (length (pins_of d))
    ∷ size measures.Operations (length d.operations)
    ∷ size measures.Arrays (length (arrays_of d))
    ∷ size measures.Cells (cell_count d)
    ∷ size measures.Forms forms
    ∷ []

-- all that are told before anything is unfolded
abbrev pub counted_sizes : DescriptionTree → ℕ → List Size
counted_sizes d forms = written_sizes d forms ++ size measures.Occurrences (length (occurrences d)) ∷ []

-- those that are told by the occurrences
abbrev pub unfolded_sizes : DescriptionTree → Option ℕ → List Size
unfolded_sizes d width =
    size measures.Items (length (items d width))
    ∷ size measures.Statements (text_statements d)
    ∷ size measures.Nodes (text_nodes d)
    ∷ []

-- Of a description whose instructions have so many forms, and this width, if there are any.
abbrev pub sizes : DescriptionTree → Option ℕ → ℕ → List Size
sizes d width forms = counted_sizes d forms ++ unfolded_sizes d width

-- ---- the first that is too great

abbrev pub first_too_many : DescriptionTree → Option ℕ → ℕ → Option Size
first_too_many d width forms = find exceeds (sizes d width forms)

-- the fault of a description that is too large
abbrev pub size_fault : DescriptionTree → Option ℕ → ℕ → Option DescFault
size_fault d width forms = option_map fault (first_too_many d width forms)
