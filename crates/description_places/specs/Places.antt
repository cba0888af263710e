-- The places of a description in source order: what stands there, in which operation and region, and which locals are in scope.
use Rattle.std.specs.Prelude.{ℕ, ◌+◌, true, false, List, [], ◌∷◌, ◌++◌, length, map, Option, None, Some, option_map}
use Rattle.std.specs.Option.{option_or}
use Rattle.lisa_tree.specs.declared.tokens.Shape.{Shape}
use Rattle.lisa_tree.specs.declared.descriptions.Pattern.{Pattern}
use Rattle.lisa_tree.specs.declared.descriptions.Format.{Format}
use Rattle.lisa_tree.specs.declared.descriptions.CodingItem.{CodingItem}
use Rattle.lisa_tree.specs.declared.descriptions.CodingItem.TheVariants as items
use Rattle.lisa_tree.specs.declared.descriptions.SyntaxItem.{SyntaxItem}
use Rattle.lisa_tree.specs.declared.descriptions.SyntaxPart.{SyntaxPart}
use Rattle.lisa_tree.specs.declared.descriptions.SyntaxPart.TheVariants as parts
use Rattle.lisa_tree.specs.Expressions as exprs
use Rattle.lisa_tree.specs.Expressions.{ExprTree, expr_tree}
use Rattle.lisa_tree.specs.Statements as stmts
use Rattle.lisa_tree.specs.Statements.{HeadTree, head_tree, StmtTree, StmtTrees}
use Rattle.lisa_tree.specs.Activations as acts
use Rattle.lisa_tree.specs.Activations.{ActTree, ActTrees}
use Rattle.lisa_tree.specs.Descriptions as trees
use Rattle.lisa_tree.specs.Descriptions.{ResourceTree, resource_tree, CodingTree, DeclareTree, SectionTree, section_tree, OperationTree, operation_tree, DescriptionTree}
use Rattle.description_places.specs.declared.sites.Region.{Region}
use Rattle.description_places.specs.declared.sites.Region.TheVariants as regions
use Rattle.description_places.specs.declared.sites.Site.{Site}
use Rattle.description_places.specs.declared.sites.Site.TheVariants as sites
use Rattle.description_places.specs.Scopes.{Scope, entered}

-- what stands at a place
pub data Place : Type 0 where
  -- a resource, and its number
  Resource : (number : ℕ) → ResourceTree → Place
  -- an operation's head
  Head : OperationTree → Place
  -- a section, by its number among all sections of the operation
  Section : (all : List SectionTree) (number : ℕ) → Place
  -- a declared name, by its number in the section
  Declared : (number : ℕ) (name : List ℕ) → Place
  -- the alternatives of a group
  Alternatives : List (List ℕ) → Place
  -- the operation that an instance stands for
  Stands : List ℕ → Place
  -- of a coding: the root's register and group, a label's field, a child
  Root : ExprTree → List ℕ → Place
  Field : List ℕ → Pattern → Place
  Operand : List ℕ → Place
  -- of a syntax: a label's number, a child
  Number : List ℕ → Format → Place
  Shown : List ℕ → Place
  -- of an expression
  Reads : List ℕ → Place
  ReadsElement : List ℕ → Place
  ReadsInput : (field : List ℕ) → Place
  ReadsOutput : (field : List ℕ) → Place
  -- pipeline, the stages before and after, field
  ReadsBoundary : List ℕ → List ℕ → List ℕ → List ℕ → Place
  ReadsDecoded : Place
  Casts : Shape → Place
  -- of what is assigned
  Writes : List ℕ → Place
  WritesElement : List ℕ → Place
  WritesOutput : (field : List ℕ) → Place
  -- of a statement: a local with its first value, an assignment, a loop without bound, the head of a `for`, the name that its step assigns
  Local : Shape → List ℕ → Option ExprTree → Place
  Assigns : ExprTree → ExprTree → Place
  Loops : Place
  Counts : HeadTree → Place
  Steps : List ℕ → Place
  Calls : List ℕ → Place
  -- pipeline and stage
  Stalls : List ℕ → List ℕ → Place
  Flushes : List ℕ → List ℕ → Place
  Executes : List ℕ → Place
  Shifts : List ℕ → Place
  -- of an activation: the name of an item
  Starts : List ℕ → Place

pub record At : Type 0 where
  pub operation : ℕ
  pub region : Region
  pub scope : Scope
  pub place : Place

abbrev pub at : ℕ → Region → Scope → Place → At
at o region scope place = record { operation = o; region = region; scope = scope; place = place }

-- ---- expressions

-- what an expression reads, from the left
abbrev pub uses : ℕ → Region → Scope → ExprTree → List At
uses o region scope (exprs.Number value base) = []
uses o region scope (exprs.Named n) = at o region scope (Reads n) ∷ []
uses o region scope (exprs.Element n index) = at o region scope (ReadsElement n) ∷ uses o region scope index
uses o region scope (exprs.Input field) = at o region scope (ReadsInput field) ∷ []
uses o region scope (exprs.Output field) = at o region scope (ReadsOutput field) ∷ []
uses o region scope (exprs.Boundary pipe before after field) = at o region scope (ReadsBoundary pipe before after field) ∷ []
uses o region scope exprs.Decoded = at o region scope ReadsDecoded ∷ []
uses o region scope (exprs.Cast shape a) = at o region scope (Casts shape) ∷ uses o region scope a
uses o region scope (exprs.Complement a) = uses o region scope a
uses o region scope (exprs.Negate a) = uses o region scope a
uses o region scope (exprs.Two operator a b) = uses o region scope a ++ uses o region scope b
uses o region scope (exprs.Choose c a b) = uses o region scope c ++ (uses o region scope a ++ uses o region scope b)

-- what is assigned; an index in it is read
abbrev pub targets : ℕ → Region → Scope → ExprTree → List At
targets o region scope (exprs.Named n) = at o region scope (Writes n) ∷ []
targets o region scope (exprs.Element n index) = at o region scope (WritesElement n) ∷ uses o region scope index
targets o region scope (exprs.Output field) = at o region scope (WritesOutput field) ∷ []
targets o region scope e = uses o region scope e

-- ---- statements

abbrev pub uses_of_value : ℕ → Region → Scope → Option ExprTree → List At
uses_of_value o region scope None = []
uses_of_value o region scope (Some e) = uses o region scope e

abbrev pub with_counted : Scope → List ℕ → Option Shape → Scope
with_counted scope n None = scope
with_counted scope n (Some shape) = entered scope n (record { shape = shape; counts = true })

-- the scope with the variable of a loop, where the head gives it a type
abbrev pub with_counter : Scope → HeadTree → Scope
with_counter scope head = with_counted scope head.name head.shape

abbrev pub head_places : ℕ → Scope → HeadTree → List At
head_places o scope head =
    at o regions.Behavior scope (Counts head)
    ∷ (uses o regions.Behavior scope head.first
    ++ (uses o regions.Behavior (with_counter scope head) head.test
    ++ (at o regions.Behavior (with_counter scope head) (Steps head.next)
    ∷ uses o regions.Behavior (with_counter scope head) head.step)))

-- the locals in scope behind a statement: one more behind its declaration, and no other, so the whole body of an `if` or a loop hands none on
abbrev pub after : Scope → StmtTree → Scope
after scope (stmts.Local shape n value) = entered scope n (record { shape = shape; counts = false })
after scope _ = scope

abbrev mutual
  pub places : ℕ → Scope → StmtTree → List At
  places o scope stmts.Empty = []
  places o scope (stmts.Block all) = all_places o scope all
  places o scope (stmts.Local shape n value) = at o regions.Behavior scope (Local shape n value) ∷ uses_of_value o regions.Behavior scope value
  places o scope (stmts.Assign target value) = at o regions.Behavior scope (Assigns target value) ∷ (targets o regions.Behavior scope target ++ uses o regions.Behavior scope value)
  places o scope (stmts.If test chosen) = uses o regions.Behavior scope test ++ places o scope chosen
  places o scope (stmts.IfElse test chosen other) = uses o regions.Behavior scope test ++ (places o scope chosen ++ places o scope other)
  places o scope (stmts.While test body) = at o regions.Behavior scope Loops ∷ (uses o regions.Behavior scope test ++ places o scope body)
  places o scope (stmts.For head body) = head_places o scope head ++ places o (with_counter scope head) body
  places o scope (stmts.Call n) = at o regions.Behavior scope (Calls n) ∷ []
  places o scope (stmts.Stall pipe stage) = at o regions.Behavior scope (Stalls pipe stage) ∷ []
  places o scope (stmts.Flush pipe stage) = at o regions.Behavior scope (Flushes pipe stage) ∷ []
  places o scope (stmts.Execute pipe) = at o regions.Behavior scope (Executes pipe) ∷ []
  places o scope (stmts.Shift pipe) = at o regions.Behavior scope (Shifts pipe) ∷ []

  pub all_places : ℕ → Scope → StmtTrees → List At
  all_places o scope stmts.End = []
  all_places o scope (stmts.Then s rest) = places o scope s ++ all_places o (after scope s) rest

-- ---- activations

abbrev mutual
  pub act_places : ℕ → ActTree → List At
  act_places o (acts.Start n) = at o regions.Activation [] (Starts n) ∷ []
  act_places o (acts.Choose test chosen) = uses o regions.Activation [] test ++ acts_places o chosen
  act_places o (acts.ChooseElse test chosen other) = uses o regions.Activation [] test ++ (acts_places o chosen ++ acts_places o other)

  pub acts_places : ℕ → ActTrees → List At
  acts_places o acts.End = []
  acts_places o (acts.Then a rest) = act_places o a ++ acts_places o rest

-- ---- declarations, codings, syntaxes

abbrev pub names_places : ℕ → ℕ → List (List ℕ) → List At
names_places o k [] = []
names_places o k (n ∷ rest) = at o regions.Declares [] (Declared k n) ∷ names_places o (k + 1) rest

abbrev pub instances_places : ℕ → ℕ → List (List ℕ × List ℕ) → List At
instances_places o k [] = []
instances_places o k (pair ∷ rest) = at o regions.Declares [] (Declared k pair.0) ∷ (at o regions.Declares [] (Stands pair.1) ∷ instances_places o (k + 1) rest)

abbrev pub declare_places : ℕ → ℕ → DeclareTree → List At
declare_places o k (trees.Group names alternatives) = names_places o k names ++ at o regions.Declares [] (Alternatives alternatives) ∷ []
declare_places o k (trees.Instance pairs) = instances_places o k pairs
declare_places o k (trees.Label names) = names_places o k names
declare_places o k (trees.Reference names) = names_places o k names

-- how many names a declaration has
abbrev pub name_count : DeclareTree → ℕ
name_count (trees.Group names alternatives) = length names
name_count (trees.Instance pairs) = length pairs
name_count (trees.Label names) = length names
name_count (trees.Reference names) = length names

abbrev pub declares_places : ℕ → ℕ → List DeclareTree → List At
declares_places o k [] = []
declares_places o k (d ∷ rest) = declare_places o k d ++ declares_places o (k + name_count d) rest

abbrev pub item_places : ℕ → CodingItem → List At
item_places o (items.Bits pattern) = []
item_places o (items.Field n pattern) = at o regions.Coding [] (Field n pattern) ∷ []
item_places o (items.Child n) = at o regions.Coding [] (Operand n) ∷ []

abbrev pub items_places : ℕ → List CodingItem → List At
items_places o [] = []
items_places o (item ∷ rest) = item_places o item ++ items_places o rest

abbrev pub coding_places : ℕ → CodingTree → List At
coding_places o (trees.Root register group) = at o regions.Coding [] (Root register group) ∷ []
coding_places o (trees.Items all) = items_places o all

abbrev pub part_places : ℕ → SyntaxPart → List At
part_places o (parts.Literal text) = []
part_places o (parts.Number n format) = at o regions.Syntax [] (Number n format) ∷ []
part_places o (parts.Child n) = at o regions.Syntax [] (Shown n) ∷ []

abbrev pub parts_places : ℕ → List SyntaxItem → List At
parts_places o [] = []
parts_places o (item ∷ rest) = part_places o item.part ++ parts_places o rest

-- ---- operations and the whole description

abbrev pub region_of : SectionTree → Region
region_of (trees.Declares all) = regions.Declares
region_of (trees.Coding part) = regions.Coding
region_of (trees.Syntax all) = regions.Syntax
region_of (trees.Behavior all) = regions.Behavior
region_of (trees.Expression e) = regions.Expression
region_of (trees.Activation all) = regions.Activation

abbrev pub section_inner : ℕ → SectionTree → List At
section_inner o (trees.Declares all) = declares_places o 0 all
section_inner o (trees.Coding part) = coding_places o part
section_inner o (trees.Syntax all) = parts_places o all
section_inner o (trees.Behavior all) = all_places o [] all
section_inner o (trees.Expression e) = uses o regions.Expression [] e
section_inner o (trees.Activation all) = acts_places o all

abbrev pub sections_places : ℕ → List SectionTree → ℕ → List SectionTree → List At
sections_places o all k [] = []
sections_places o all k (s ∷ rest) = at o (region_of s) [] (Section all k) ∷ (section_inner o s ++ sections_places o all (k + 1) rest)

abbrev pub operation_places : ℕ → OperationTree → List At
operation_places o operation = at o regions.Head [] (Head operation) ∷ sections_places o operation.sections 0 operation.sections

abbrev pub operations_places : ℕ → List OperationTree → List At
operations_places o [] = []
operations_places o (operation ∷ rest) = operation_places o operation ++ operations_places (o + 1) rest

abbrev pub resources_places : ℕ → List ResourceTree → List At
resources_places k [] = []
resources_places k (r ∷ rest) = at 0 regions.Resources [] (Resource k r) ∷ resources_places (k + 1) rest

-- all places of a description, in source order
abbrev pub description_places : DescriptionTree → List At
description_places d = resources_places 0 d.resources ++ operations_places 0 d.operations

-- ---- faults

-- a condition: the fault of what stands at a place, if it is at fault
abbrev pub Condition : Type 0 → Type 0
Condition F = ℕ → Region → Scope → Place → Option F

-- the first fault at the places, in their order
abbrev pub first : {F : Type 0} → Condition F → List At → Option F
first breaks [] = None
first breaks (a ∷ rest) = option_or (breaks a.operation a.region a.scope a.place) (first breaks rest)

-- ---- the places that code names

abbrev pub place_of : Site → Place
place_of (sites.Resource k r) = Resource k (resource_tree r.now)
place_of (sites.Head operation) = Head (operation_tree operation.now)
place_of (sites.Section all k) = Section (map section_tree all.now) k
place_of (sites.Declared k n) = Declared k n.now
place_of (sites.Alternatives all) = Alternatives all.now
place_of (sites.Stands n) = Stands n.now
place_of (sites.Root register group) = Root (expr_tree register.now) group.now
place_of (sites.Field n pattern) = Field n.now pattern.now
place_of (sites.Operand n) = Operand n.now
place_of (sites.Number n format) = Number n.now format
place_of (sites.Shown n) = Shown n.now
place_of (sites.Reads n) = Reads n.now
place_of (sites.ReadsElement n) = ReadsElement n.now
place_of (sites.ReadsInput field) = ReadsInput field.now
place_of (sites.ReadsOutput field) = ReadsOutput field.now
place_of (sites.ReadsBoundary b) = ReadsBoundary b.now.pipe b.now.before b.now.after b.now.field
place_of sites.ReadsDecoded = ReadsDecoded
place_of (sites.Casts shape) = Casts shape
place_of (sites.Writes n) = Writes n.now
place_of (sites.WritesElement n) = WritesElement n.now
place_of (sites.WritesOutput field) = WritesOutput field.now
place_of (sites.Local shape n value) = Local shape n.now (option_map (λ e. expr_tree e.now) value)
place_of (sites.Assigns target value) = Assigns (expr_tree target.now) (expr_tree value.now)
place_of sites.Loops = Loops
place_of (sites.Counts head) = Counts (head_tree head.now)
place_of (sites.Steps n) = Steps n.now
place_of (sites.Calls n) = Calls n.now
place_of (sites.Stalls pipe stage) = Stalls pipe.now stage.now
place_of (sites.Flushes pipe stage) = Flushes pipe.now stage.now
place_of (sites.Executes pipe) = Executes pipe.now
place_of (sites.Shifts pipe) = Shifts pipe.now
place_of (sites.Starts n) = Starts n.now
