-- What the names of an operation's expressions stand for in a step program. On the way to the program: nothing here needs to be trusted.
use Rattle.std.specs.Prelude.{ℕ, ◌-◌, List, Option, None, Some, slice_get}
use Rattle.std.specs.Map.{lookup}
use Rattle.lisa_words.specs.declared.words.Kind.TheVariants.{Unsigned}
use Rattle.lisa_tree.specs.declared.tokens.Shape.{Shape}
use Rattle.lisa_tree.specs.Descriptions as trees
use Rattle.lisa_tree.specs.Descriptions.{ResourceTree, DescriptionTree}
use Rattle.lisa_tree.specs.declared.declared.Meaning.{Meaning}
use Rattle.lisa_tree.specs.declared.declared.Meaning.TheVariants as meanings
use Rattle.lisa_tree.specs.Same.{same_name}
use Rattle.lisa_tree.specs.Resources.{stage_at}
use Rattle.lisa_tree.specs.Operations.{own_stage}
use Rattle.lisa_tree.specs.Meanings.{meaning}
use Rattle.meaning_promises.specs.description_types.Shapes.{digit_count}
use Rattle.step_program.specs.Programs.{Expr, Const, Now, Before, Pin}
use Rattle.scene_paths.specs.lisa_meaning.Values.{Array, register_place, pin_place, named_array, field_place, shape_at, stage_before}
use Rattle.lowered_values.specs.Operands.{Operand, operand_of}
use Rattle.lowered_values.specs.Sources.{Sources, Cells}
use Rattle.lowered_statements.specs.Scopes.{Local, Scope, local_operand}
use Rattle.lowered_resources.specs.Places.{Places}

-- what the names that an operation declares stand for, and whether the word decodes
pub record Known : Type 0 where
  pub named : List ℕ → Operand
  pub decoded : Operand

-- what isn't there is the number 0, of one bit
abbrev pub absent : Operand
absent = operand_of Unsigned 1 (Const 1 0)

abbrev pub operand_in : Shape → Expr → Operand
operand_in shape at = operand_of shape.kind shape.width at

-- ---- resources

-- A register or a pin by its number among the resources. A clocked register is read as the edge began.
abbrev pub resource_operand : DescriptionTree → ℕ → Option ResourceTree → Operand
resource_operand d k None = absent
resource_operand d k (Some (trees.Register word shape name None)) = operand_in shape (Now (register_place d k))
resource_operand d k (Some (trees.Register word shape name (Some depth))) = absent
resource_operand d k (Some (trees.Clocked word shape name)) = operand_in shape (Before (register_place d k))
resource_operand d k (Some (trees.Memory word shape name depth)) = absent
resource_operand d k (Some (trees.Pin shape name)) = operand_in shape (Pin (pin_place d k))
resource_operand d k (Some (trees.Pipeline name stages)) = absent
resource_operand d k (Some (trees.Fields pipe fields)) = absent

-- how wide an index is that tells the cells of an array apart, whose depth is a power of two
abbrev pub index_width : (depth : ℕ) → ℕ
index_width depth = digit_count depth - 1

abbrev pub cells_of : Option Array → Cells
cells_of None = record { array = 0; kind = Unsigned; width = 1; places = 1 }
cells_of (Some a) = record { array = a.place; kind = a.shape.kind; width = a.shape.width; places = index_width a.depth }

-- ---- boundaries

abbrev pub field_operand : Option Shape → Expr → Operand
field_operand None at = absent
field_operand (Some shape) at = operand_in shape at

-- a field of the boundary behind a stage, as the edge began
abbrev pub boundary_operand : DescriptionTree → Places → Option ℕ → Option ℕ → Operand
boundary_operand d places (Some s) (Some f) = field_operand (shape_at d f) (Before (places.field s f))
boundary_operand d places _ _ = absent

-- ---- names

abbrev pub meant_operand : DescriptionTree → Known → List ℕ → Meaning → Operand
meant_operand d known n meanings.Nothing = absent
meant_operand d known n (meanings.Resource k) = resource_operand d k (slice_get d.resources k)
meant_operand d known n (meanings.Declared i) = known.named n

-- a local goes before all else
abbrev pub name_operand : Option Local → Operand → Operand
name_operand None other = other
name_operand (Some l) other = local_operand l

abbrev pub sources : DescriptionTree → Places → Known → ℕ → Scope → Sources
sources d places known o scope = record {
  named = λ n. name_operand (lookup (same_name n) scope) (meant_operand d known n (meaning d o n));
  element = λ n. cells_of (named_array d o n);
  input = λ field. boundary_operand d places (stage_before (own_stage d o)) (field_place d field);
  boundary = λ pipe before after field. boundary_operand d places (stage_at d before) (field_place d field);
  decoded = known.decoded;
}
