-- The operations of a description by their names, and the sections of an operation.
use Rattle.std.specs.Prelude.{ℕ, Bool, true, false, List, [], ◌∷◌, Option, None, Some, position, slice_get}
use Rattle.std.specs.Option.{option_map_or}
use Rattle.lisa_tree.specs.declared.descriptions.SyntaxItem.{SyntaxItem}
use Rattle.lisa_tree.specs.Expressions.{ExprTree}
use Rattle.lisa_tree.specs.Statements.{StmtTrees}
use Rattle.lisa_tree.specs.Activations.{ActTrees}
use Rattle.lisa_tree.specs.Descriptions as trees
use Rattle.lisa_tree.specs.Descriptions.{CodingTree, DeclareTree, SectionTree, OperationTree, DescriptionTree}
use Rattle.lisa_tree.specs.Same.{same_name}
use Rattle.lisa_tree.specs.Resources.{stage_at}

-- the number of the operation of this name, the first one
abbrev pub number_of : DescriptionTree → List ℕ → Option ℕ
number_of d n = position (λ (o : OperationTree). same_name n o.name) d.operations

-- the numbers of the operations of these names, as far as there are any
abbrev pub numbers_of : DescriptionTree → List (List ℕ) → List ℕ
numbers_of d [] = []
numbers_of d (n ∷ rest) = with_number (number_of d n) (numbers_of d rest)
  where
    with_number : Option ℕ → List ℕ → List ℕ
    with_number None numbers = numbers
    with_number (Some o) numbers = o ∷ numbers

abbrev pub operation_at : DescriptionTree → ℕ → Option OperationTree
operation_at d o = slice_get d.operations o

-- the name of an operation, the empty one where there is none
abbrev pub name_at : DescriptionTree → ℕ → List ℕ
name_at d o = option_map_or (λ (operation : OperationTree). operation.name) (operation_at d o) []

abbrev pub is_alias : DescriptionTree → ℕ → Bool
is_alias d o = option_map_or (λ (operation : OperationTree). operation.alias) (operation_at d o) false

-- ---- sections: an accepted operation has at most one of each kind

abbrev pub declares_in : List SectionTree → List DeclareTree
declares_in [] = []
declares_in (trees.Declares all ∷ rest) = all
declares_in (s ∷ rest) = declares_in rest

abbrev pub coding_in : List SectionTree → Option CodingTree
coding_in [] = None
coding_in (trees.Coding part ∷ rest) = Some part
coding_in (s ∷ rest) = coding_in rest

abbrev pub syntax_in : List SectionTree → Option (List SyntaxItem)
syntax_in [] = None
syntax_in (trees.Syntax all ∷ rest) = Some all
syntax_in (s ∷ rest) = syntax_in rest

abbrev pub behavior_in : List SectionTree → Option StmtTrees
behavior_in [] = None
behavior_in (trees.Behavior all ∷ rest) = Some all
behavior_in (s ∷ rest) = behavior_in rest

abbrev pub expression_in : List SectionTree → Option ExprTree
expression_in [] = None
expression_in (trees.Expression e ∷ rest) = Some e
expression_in (s ∷ rest) = expression_in rest

abbrev pub activation_in : List SectionTree → Option ActTrees
activation_in [] = None
activation_in (trees.Activation all ∷ rest) = Some all
activation_in (s ∷ rest) = activation_in rest

-- the same of the operation of a number
abbrev sections_of : Option OperationTree → List SectionTree
sections_of None = []
sections_of (Some operation) = operation.sections

abbrev pub sections_at : DescriptionTree → ℕ → List SectionTree
sections_at d o = sections_of (operation_at d o)

abbrev stage_in : DescriptionTree → Option (List ℕ × List ℕ) → Option ℕ
stage_in d None = None
stage_in d (Some stage) = stage_at d stage.1

abbrev stage_of : DescriptionTree → Option OperationTree → Option ℕ
stage_of d None = None
stage_of d (Some operation) = stage_in d operation.stage

-- the number of the stage that an operation has of its own
abbrev pub own_stage : DescriptionTree → ℕ → Option ℕ
own_stage d o = stage_of d (operation_at d o)

abbrev is_root_coding : Option CodingTree → Bool
is_root_coding (Some (trees.Root register group)) = true
is_root_coding _ = false

-- the operation has the root: its coding names the register or field with the word, and the group of instructions
abbrev pub is_root : DescriptionTree → ℕ → Bool
is_root d o = is_root_coding (coding_in (sections_at d o))
