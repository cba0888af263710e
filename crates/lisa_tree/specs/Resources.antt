-- The resources of a description by their names: registers, memories, pins, the pipeline's stages and the fields of its boundaries.
use Rattle.std.specs.Prelude.{ℕ, Bool, true, false, List, [], ◌∷◌, Option, None, Some, cond, position, slice_get}
use Rattle.std.specs.Option.{option_map_or}
use Rattle.lisa_tree.specs.declared.tokens.Shape.{Shape}
use Rattle.lisa_tree.specs.Descriptions as trees
use Rattle.lisa_tree.specs.Descriptions.{ResourceTree, DescriptionTree}
use Rattle.lisa_tree.specs.Same.{same_name}

-- a resource has this name; the fields of boundaries have none of their own
abbrev pub is_named : List ℕ → ResourceTree → Bool
is_named n (trees.Register word shape name depth) = same_name n name
is_named n (trees.Clocked word shape name) = same_name n name
is_named n (trees.Memory word shape name depth) = same_name n name
is_named n (trees.Pin shape name) = same_name n name
is_named n (trees.Pipeline name stages) = same_name n name
is_named n (trees.Fields pipe fields) = false

-- where the resource of this name stands, the first one
abbrev pub resource_at : DescriptionTree → List ℕ → Option ℕ
resource_at d n = position (is_named n) d.resources

-- the stages of the pipeline, the first one first; none without a pipeline
abbrev pub stages_in : List ResourceTree → List (List ℕ)
stages_in [] = []
stages_in (trees.Pipeline name stages ∷ rest) = stages
stages_in (r ∷ rest) = stages_in rest

abbrev pub stages : DescriptionTree → List (List ℕ)
stages d = stages_in d.resources

-- the number of a stage, counted from 0
abbrev pub stage_at : DescriptionTree → List ℕ → Option ℕ
stage_at d n = position (same_name n) (stages d)

-- the fields of the pipeline's boundaries
abbrev pub fields_in : List ResourceTree → List (Shape × List ℕ)
fields_in [] = []
fields_in (trees.Fields pipe fields ∷ rest) = fields
fields_in (r ∷ rest) = fields_in rest

abbrev pub fields : DescriptionTree → List (Shape × List ℕ)
fields d = fields_in d.resources

abbrev pub shape_in : List ℕ → List (Shape × List ℕ) → Option Shape
shape_in n [] = None
shape_in n (field ∷ rest) = cond (same_name n field.1) (Some field.0) (shape_in n rest)

-- the type of a field
abbrev pub field_shape : DescriptionTree → List ℕ → Option Shape
field_shape d n = shape_in n (fields d)

abbrev pub is_pipe : ResourceTree → Bool
is_pipe (trees.Pipeline name stages) = true
is_pipe _ = false

-- the resource of a number is a pipeline
abbrev pub is_pipe_at : DescriptionTree → ℕ → Bool
is_pipe_at d k = option_map_or is_pipe (slice_get d.resources k) false

abbrev number_is_pipe : DescriptionTree → Option ℕ → Bool
number_is_pipe d None = false
number_is_pipe d (Some k) = is_pipe_at d k

-- the name is that of a pipeline
abbrev pub is_pipeline : DescriptionTree → List ℕ → Bool
is_pipeline d n = number_is_pipe d (resource_at d n)
