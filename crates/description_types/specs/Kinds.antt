-- The types of operations, choices and declared names, and whether they may be assigned. What is open has no value. What rests on a use that
-- is itself refused is refused too, and puts nothing else at fault.
use Rattle.std.specs.Prelude.{ℕ, Bool, true, false, List, [], Option, None, Some, cond, slice_get}
use Rattle.std.specs.Option.{is_none}
use Rattle.std.specs.List.{list_any}
use Rattle.lisa_tree.specs.declared.tokens.Shape.{Shape}
use Rattle.lisa_tree.specs.Expressions as exprs
use Rattle.lisa_tree.specs.Expressions.{ExprTree}
use Rattle.lisa_tree.specs.Descriptions as trees
use Rattle.lisa_tree.specs.Descriptions.{ResourceTree, DescriptionTree}
use Rattle.lisa_tree.specs.declared.declared.What.{What}
use Rattle.lisa_tree.specs.declared.declared.What.TheVariants as whats
use Rattle.lisa_tree.specs.declared.declared.Meaning.{Meaning}
use Rattle.lisa_tree.specs.declared.declared.Meaning.TheVariants as meanings
use Rattle.lisa_tree.specs.Operations.{expression_in, sections_at}
use Rattle.lisa_tree.specs.Declarations.{plain_at}
use Rattle.lisa_tree.specs.Meanings.{meaning}
use Rattle.lisa_tree.specs.Paths.{entry_node}
use Rattle.description_types.specs.declared.values.TypeOf.{TypeOf}
use Rattle.description_types.specs.declared.values.TypeOf.TheVariants as types
use Rattle.description_types.specs.declared.values.Assignable.{Assignable}
use Rattle.description_types.specs.declared.values.Assignable.TheVariants as assigns
use Rattle.description_types.specs.Shapes.{same_shape}
use Rattle.description_types.specs.Types.{Types, type_of, meant_element}
use Rattle.description_types.specs.Refused.{is_refused, is_open, rests_on_refused, rests_on_open}
use Rattle.description_types.specs.Codings.{coding_at}
use Rattle.description_types.specs.Known.{has_no_type}
use Rattle.description_types.specs.Facts.{Fact, known_together, any_open}

-- ---- types

-- a name in it is used against its sort where an expression has no type and isn't open
abbrev pub as_type : Option Shape → TypeOf
as_type None = types.Refused
as_type (Some shape) = types.Typed shape

-- An operation without an expression has no type; one whose expression rests on something open is open, whatever else it rests on.
abbrev pub expression_type : (ℕ → Bool) → Types → DescriptionTree → ℕ → Option ExprTree → Option TypeOf
expression_type unfit known d o None = Some types.NoType
expression_type unfit known d o (Some e) =
    cond (rests_on_open unfit known d o e) None (Some (cond (rests_on_refused unfit d o e) types.Refused (as_type (type_of known d o [] e))))

-- two alternatives of a choice, or two declarations that a reference may mean, have one type together where theirs are the same
abbrev pub both_types : TypeOf → TypeOf → TypeOf
both_types (types.Typed s) (types.Typed t) = cond (same_shape s t) (types.Typed s) types.NoType
both_types types.Refused _ = types.Refused
both_types _ types.Refused = types.Refused
both_types _ _ = types.NoType

-- some of these operations has no expression
abbrev pub lacks_expression : DescriptionTree → List ℕ → Bool
lacks_expression d all = list_any (λ o. is_none (expression_in (sections_at d o))) all

-- a child has an alternative without an expression, or a label no field, so that it has no type
abbrev pub is_incomplete : DescriptionTree → ℕ → Option What → Bool
is_incomplete d i None = false
is_incomplete d i (Some (whats.Group c)) = lacks_expression d (plain_at d c)
is_incomplete d i (Some (whats.Instance c)) = lacks_expression d (plain_at d c)
is_incomplete d i (Some whats.Label) = has_no_type (Some (coding_at d i).label)
is_incomplete d i (Some whats.Reference) = false

abbrev pub is_refused_type : Option TypeOf → Bool
is_refused_type (Some types.Refused) = true
is_refused_type _ = false

abbrev pub any_refused : Types → List ℕ → Bool
any_refused known all = list_any (λ o. is_refused_type (known o)) all

-- a value that isn't refused
abbrev pub unrefused : Option TypeOf → Option TypeOf
unrefused (Some types.Refused) = None
unrefused value = value

-- The type of a choice, by whether an alternative has no expression, one is open or one is refused, and by what those that aren't refused make
-- together. One without an expression decides; else one that is open does, whatever the others are. Refused ones are left out where the
-- others differ.
abbrev pub choice_type : (lacks some_open some_refused : Bool) → Option TypeOf → Option TypeOf
choice_type true some_open some_refused others = Some types.NoType
choice_type false true some_refused others = None
choice_type false false some_refused (Some types.NoType) = Some types.NoType
choice_type false false false (Some others) = Some others
choice_type false false _ _ = Some types.Refused

abbrev pub type_of_choice : DescriptionTree → Types → List ℕ → Option TypeOf
type_of_choice d known all = choice_type (lacks_expression d all) (any_open known all) (any_refused known all) (known_together both_types (λ o. unrefused (known o)) all)

abbrev pub type_fact : DescriptionTree → (ℕ → Bool) → Fact TypeOf
type_fact d unfit = record {
  of_operation = λ known o. expression_type unfit known d o (expression_in (sections_at d o));
  of_choice = λ known c. type_of_choice d known (plain_at d c);
  of_label = λ i. (coding_at d i).label;
  of_child = λ i value. value;
  either = both_types;
}

-- ---- what may be assigned

-- a register that is no array may be assigned, a pin not; other resources are no values by themselves, so their use is refused
abbrev pub resource_assignable : Option ResourceTree → Option Assignable
resource_assignable (Some (trees.Register word shape name None)) = Some assigns.Yes
resource_assignable (Some (trees.Clocked word shape name)) = Some assigns.Yes
resource_assignable (Some (trees.Pin shape name)) = Some assigns.No
resource_assignable _ = Some assigns.Refused

-- declarations that differ are refused where the reference to them is declared
abbrev pub settled_assignable : Option Assignable → Option Assignable
settled_assignable (Some assigns.Mixed) = Some assigns.Refused
settled_assignable value = value

abbrev pub meant_assignable : (ℕ → Option Assignable) → DescriptionTree → Meaning → Option Assignable
meant_assignable known d meanings.Nothing = Some assigns.Refused
meant_assignable known d (meanings.Resource k) = resource_assignable (slice_get d.resources k)
meant_assignable known d (meanings.Declared i) = settled_assignable (known (entry_node d i))

abbrev pub array_assignable : Option Shape → Option Assignable
array_assignable None = Some assigns.Refused
array_assignable (Some shape) = Some assigns.Yes

-- an expression may be assigned where it is a register, an element of an array, or a child that may be assigned
abbrev pub value_assignable : (ℕ → Option Assignable) → DescriptionTree → ℕ → ExprTree → Option Assignable
value_assignable known d o (exprs.Named n) = meant_assignable known d (meaning d o n)
value_assignable known d o (exprs.Element n index) = array_assignable (meant_element d (meaning d o n))
value_assignable known d o _ = Some assigns.No

-- An operation without an expression may not; one whose expression is something open is open, whatever else is known of that.
abbrev pub expression_assignable : (apart unfit : ℕ → Bool) → (ℕ → Option Assignable) → DescriptionTree → ℕ → Option ExprTree → Option Assignable
expression_assignable apart unfit known d o None = Some assigns.No
expression_assignable apart unfit known d o (Some e) =
    cond (is_open apart known d o e) None (cond (is_refused unfit d o e) (Some assigns.Refused) (value_assignable known d o e))

-- two alternatives of a choice may be assigned where both may, and may not where one of them may not
abbrev pub both_assignable : Assignable → Assignable → Assignable
both_assignable assigns.Yes assigns.Yes = assigns.Yes
both_assignable assigns.Yes assigns.Refused = assigns.Refused
both_assignable assigns.Refused assigns.Yes = assigns.Refused
both_assignable assigns.Refused assigns.Refused = assigns.Refused
both_assignable _ _ = assigns.No

-- Whether a choice may be, by whether an alternative has no expression or one is open, and by what they make together. One without an
-- expression decides, as it does of types; one of aliases alone is refused.
abbrev pub choice_assignable : (lacks some_open : Bool) → Option Assignable → Option Assignable
choice_assignable true some_open others = Some assigns.No
choice_assignable false true others = None
choice_assignable false false None = Some assigns.Refused
choice_assignable false false (Some others) = Some others

abbrev pub assignable_of_choice : DescriptionTree → (ℕ → Option Assignable) → List ℕ → Option Assignable
assignable_of_choice d known all = choice_assignable (lacks_expression d all) (any_open known all) (known_together both_assignable known all)

abbrev pub either_assignable : Assignable → Assignable → Assignable
either_assignable assigns.Yes assigns.Yes = assigns.Yes
either_assignable assigns.No assigns.No = assigns.No
either_assignable assigns.Refused _ = assigns.Refused
either_assignable _ assigns.Refused = assigns.Refused
either_assignable _ _ = assigns.Mixed

-- by the declared names that are apart, and by all that may be no value
abbrev pub assignable_fact : DescriptionTree → (apart unfit : ℕ → Bool) → Fact Assignable
assignable_fact d apart unfit = record {
  of_operation = λ known o. expression_assignable apart unfit known d o (expression_in (sections_at d o));
  of_choice = λ known c. assignable_of_choice d known (plain_at d c);
  of_label = λ i. assigns.No;
  of_child = λ i value. value;
  either = either_assignable;
}
