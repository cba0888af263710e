-- How many items are given their next values as an edge ends.
use Rattle.std.specs.Prelude.{ℕ, ◌+◌, length}
use Rattle.lisa_tree.specs.Descriptions.{DescriptionTree}
use Rattle.description_types.specs.Types.{Types}
use Rattle.step_program.specs.Programs.{Temp}
use Rattle.touch_promises.specs.lisa_meaning.Cores.{core_of}
use Rattle.lowered_time.specs.Building.{held_at, open_at, ends}
use Rattle.lowered_edges.specs.lowered_layouts.Items.{time_layout}
use Rattle.lowered_edges.specs.lowered_layouts.Ends as closing
use Rattle.lowered_edges.specs.Parts.{operations}

-- how many bits, words and fields are given their next values
abbrev pub end_count : DescriptionTree → Types → (width : ℕ) → ℕ
end_count d types width =
    length (ends (core_of d) (operations d types width) (time_layout d width) (core_of d).stages)
    + length (closing.ends d (λ level. Temp (held_at level)) (λ level. Temp (open_at level)) 0).moves
