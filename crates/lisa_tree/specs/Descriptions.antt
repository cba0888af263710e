-- Descriptions as plain trees: the same variants and numbers, and each vector as the list of its elements.
use Rattle.std.specs.Prelude.{ℕ, max, Bool, List, [], ◌∷◌, Option, map}
use Rattle.lisa_tree.specs.declared.tokens.Shape.{Shape}
use Rattle.lisa_tree.specs.declared.descriptions.RegisterWord.{RegisterWord}
use Rattle.lisa_tree.specs.declared.descriptions.MemoryWord.{MemoryWord}
use Rattle.lisa_tree.specs.declared.descriptions.Resource.{Resource}
use Rattle.lisa_tree.specs.declared.descriptions.Resource.TheVariants as resources
use Rattle.lisa_tree.specs.declared.descriptions.CodingItem.{CodingItem}
use Rattle.lisa_tree.specs.declared.descriptions.CodingPart.{CodingPart}
use Rattle.lisa_tree.specs.declared.descriptions.CodingPart.TheVariants as codings
use Rattle.lisa_tree.specs.declared.descriptions.SyntaxItem.{SyntaxItem}
use Rattle.lisa_tree.specs.declared.descriptions.Declare.{Declare}
use Rattle.lisa_tree.specs.declared.descriptions.Declare.TheVariants as declares
use Rattle.lisa_tree.specs.declared.descriptions.Section.{Section}
use Rattle.lisa_tree.specs.declared.descriptions.Section.TheVariants as sections
use Rattle.lisa_tree.specs.declared.descriptions.Operation.{Operation}
use Rattle.lisa_tree.specs.declared.descriptions.Description.{Description}
use Rattle.lisa_tree.specs.Expressions.{ExprTree, expr_tree, expr_depth}
use Rattle.lisa_tree.specs.Statements.{StmtTrees, stmt_trees, stmts_depth}
use Rattle.lisa_tree.specs.Activations.{ActTrees, act_trees, acts_depth}

pub data ResourceTree : Type 0 where
  Register : RegisterWord → Shape → List ℕ → Option ℕ → ResourceTree
  Clocked : RegisterWord → Shape → List ℕ → ResourceTree
  Memory : MemoryWord → Shape → List ℕ → ℕ → ResourceTree
  Pin : Shape → List ℕ → ResourceTree
  -- its name and its stages
  Pipeline : List ℕ → List (List ℕ) → ResourceTree
  -- the fields of the pipeline's boundaries
  Fields : List ℕ → List (Shape × List ℕ) → ResourceTree

pub data CodingTree : Type 0 where
  Root : ExprTree → List ℕ → CodingTree
  Items : List CodingItem → CodingTree

pub data DeclareTree : Type 0 where
  -- the names, and the alternatives of each
  Group : List (List ℕ) → List (List ℕ) → DeclareTree
  -- each name with the operation that it stands for
  Instance : List (List ℕ × List ℕ) → DeclareTree
  Label : List (List ℕ) → DeclareTree
  Reference : List (List ℕ) → DeclareTree

pub data SectionTree : Type 0 where
  Declares : List DeclareTree → SectionTree
  Coding : CodingTree → SectionTree
  Syntax : List SyntaxItem → SectionTree
  Behavior : StmtTrees → SectionTree
  Expression : ExprTree → SectionTree
  Activation : ActTrees → SectionTree

pub record OperationTree : Type 0 where
  pub name : List ℕ
  pub alias : Bool
  -- pipeline and stage
  pub stage : Option (List ℕ × List ℕ)
  pub sections : List SectionTree

pub record DescriptionTree : Type 0 where
  pub resources : List ResourceTree
  pub operations : List OperationTree

abbrev pub resource_tree : Resource → ResourceTree
resource_tree (resources.Register word shape name depth) = Register word shape name depth
resource_tree (resources.Clocked word shape name) = Clocked word shape name
resource_tree (resources.Memory word shape name depth) = Memory word shape name depth
resource_tree (resources.Pin shape name) = Pin shape name
resource_tree (resources.Pipeline name stages) = Pipeline name stages.items
resource_tree (resources.Fields pipe fields) = Fields pipe fields.items

abbrev pub coding_tree : CodingPart → CodingTree
coding_tree (codings.Root place group) = Root (expr_tree place) group
coding_tree (codings.Items items) = Items items.items

abbrev pub declare_tree : Declare → DeclareTree
declare_tree (declares.Group names alternatives) = Group names.items alternatives.items
declare_tree (declares.Instance names) = Instance names.items
declare_tree (declares.Label names) = Label names.items
declare_tree (declares.Reference names) = Reference names.items

abbrev pub section_tree : Section → SectionTree
section_tree (sections.Declare declares) = Declares (map declare_tree declares.items)
section_tree (sections.Coding part) = Coding (coding_tree part)
section_tree (sections.Syntax items) = Syntax items.items
section_tree (sections.Behavior statements) = Behavior (stmt_trees statements.items)
section_tree (sections.Expression e) = Expression (expr_tree e)
section_tree (sections.Activation acts) = Activation (act_trees acts.items)

abbrev pub operation_tree : Operation → OperationTree
operation_tree o = record { name = o.name; alias = o.alias; stage = o.stage; sections = map section_tree o.sections.items }

-- the plain tree that a description stands for
abbrev pub description_tree : Description → DescriptionTree
description_tree d = record { resources = map resource_tree d.resources.items; operations = map operation_tree d.operations.items }

-- The depth of a description is that of the deepest expression, statement or item in it, or 0.
abbrev pub coding_depth : CodingTree → ℕ
coding_depth (Root place group) = expr_depth place
coding_depth (Items items) = 0

abbrev pub section_depth : SectionTree → ℕ
section_depth (Coding part) = coding_depth part
section_depth (Behavior statements) = stmts_depth statements
section_depth (Expression e) = expr_depth e
section_depth (Activation acts) = acts_depth acts
section_depth _ = 0

abbrev pub sections_depth : List SectionTree → ℕ
sections_depth [] = 0
sections_depth (s ∷ rest) = max (section_depth s) (sections_depth rest)

abbrev pub operations_depth : List OperationTree → ℕ
operations_depth [] = 0
operations_depth (o ∷ rest) = max (sections_depth o.sections) (operations_depth rest)

abbrev pub description_depth : DescriptionTree → ℕ
description_depth d = operations_depth d.operations
