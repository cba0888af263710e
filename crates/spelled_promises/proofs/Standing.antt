-- What stands at the places of well-formed trees.
use Rattle.std.proofs.Common.{ℕ, ◌+◌, List, [], ◌∷◌, ◌++◌, Option, None, Some}
use Rattle.std.specs.Prelude.{IfSome}
use Rattle.std.specs.List.{AllByRecursion}
use Rattle.lisa_tree.specs.declared.descriptions.CodingItem.{CodingItem}
use Rattle.lisa_tree.specs.declared.descriptions.CodingItem.TheVariants as items
use Rattle.lisa_tree.specs.declared.descriptions.SyntaxItem.{SyntaxItem}
use Rattle.lisa_tree.specs.declared.descriptions.SyntaxPart.{SyntaxPart}
use Rattle.lisa_tree.specs.declared.descriptions.SyntaxPart.TheVariants as parts
use Rattle.lisa_tree.specs.Expressions as exprs
use Rattle.lisa_tree.specs.Expressions.{ExprTree}
use Rattle.lisa_tree.specs.Statements as stmts
use Rattle.lisa_tree.specs.Statements.{HeadTree, StmtTree, StmtTrees}
use Rattle.lisa_tree.specs.Activations as acts
use Rattle.lisa_tree.specs.Activations.{ActTree, ActTrees}
use Rattle.lisa_tree.specs.Descriptions as trees
use Rattle.lisa_tree.specs.Descriptions.{ResourceTree, CodingTree, DeclareTree, SectionTree, OperationTree, DescriptionTree}
use Rattle.description_places.specs.declared.sites.Region.{Region}
use Rattle.description_places.specs.declared.sites.Region.TheVariants as regions
use Rattle.description_places.specs.Scopes.{Scope}
use Rattle.description_places.specs.Places.{At, uses, targets, uses_of_value, with_counter, head_places, after, places, all_places, act_places, acts_places, names_places, instances_places, declare_places, name_count, declares_places, item_places, items_places, coding_places, part_places, parts_places, section_inner, sections_places, operation_places, operations_places, resources_places, description_places}
use Rattle.spelled_promises.specs.Words.{IsName}
use Rattle.spelled_promises.specs.Trees.{ArePairs, IsWellFormedExpr, IsTarget, IsWellFormedHead, IsWellFormedStmt, IsWellFormedStmts, IsWellFormedAct, IsWellFormedActs, IsWellFormedDeclare, IsWellFormedItem, IsWellFormedCoding, IsWellFormedPart, IsWellFormedResource, IsWellFormedSection, IsWellFormedOperation, IsWellFormed}
use Rattle.spelled_promises.specs.Places.{IsWellFormedPlace}

abbrev pub AreFormed : List At → Type 0
AreFormed all = AllByRecursion (λ (a : At). IsWellFormedPlace a.place) all

joined : (xs ys : List At) → AreFormed xs → AreFormed ys → AreFormed (xs ++ ys)
joined [] ys h k = k
joined (x ∷ xs) ys h k = (h.0, joined xs ys h.1 k)

-- ---- expressions

reads : (o : ℕ) (region : Region) (scope : Scope) (e : ExprTree) → IsWellFormedExpr e → AreFormed (uses o region scope e)
reads o region scope (exprs.Number value base) h = tt
reads o region scope (exprs.Named n) h = (h, tt)
reads o region scope (exprs.Element n index) h = (h.0, reads o region scope index h.1)
reads o region scope (exprs.Input field) h = (h, tt)
reads o region scope (exprs.Output field) h = absurd h
reads o region scope (exprs.Boundary pipe before after field) h = (h, tt)
reads o region scope exprs.Decoded h = (tt, tt)
reads o region scope (exprs.Cast shape a) h = (h.0, reads o region scope a h.1)
reads o region scope (exprs.Complement a) h = reads o region scope a h
reads o region scope (exprs.Negate a) h = reads o region scope a h
reads o region scope (exprs.Two operator a b) h = joined (uses o region scope a) (uses o region scope b) (reads o region scope a h.0) (reads o region scope b h.1)
reads o region scope (exprs.Choose c a b) h =
    joined (uses o region scope c) (uses o region scope a ++ uses o region scope b) (reads o region scope c h.0)
    (joined (uses o region scope a) (uses o region scope b) (reads o region scope a h.1) (reads o region scope b h.2))

writes : (o : ℕ) (region : Region) (scope : Scope) (e : ExprTree) → IsTarget e → AreFormed (targets o region scope e)
writes o region scope (exprs.Named n) h = (h, tt)
writes o region scope (exprs.Element n index) h = (h.0, reads o region scope index h.1)
writes o region scope (exprs.Output field) h = (h, tt)
writes o region scope _ h = absurd h

-- ---- statements

value_reads : (o : ℕ) (region : Region) (scope : Scope) (value : Option ExprTree) → IfSome value IsWellFormedExpr → AreFormed (uses_of_value o region scope value)
value_reads o region scope None h = tt
value_reads o region scope (Some e) h = reads o region scope e h

counts : (o : ℕ) (scope : Scope) (head : HeadTree) → IsWellFormedHead head → AreFormed (head_places o scope head)
counts o scope head h =
    let inner = with_counter scope head in (
      h,
      joined (uses o regions.Behavior scope head.first) _ (reads o regions.Behavior scope head.first h.first)
          (joined (uses o regions.Behavior inner head.test) _ (reads o regions.Behavior inner head.test h.test) (h.next, reads o regions.Behavior inner head.step h.step)),
    )

mutual
  stmt : (o : ℕ) (scope : Scope) (s : StmtTree) → IsWellFormedStmt s → AreFormed (places o scope s)
  stmt o scope stmts.Empty h = tt
  stmt o scope (stmts.Block all) h = body o scope all h
  stmt o scope (stmts.Local shape n value) h = (h, value_reads o regions.Behavior scope value h.2)
  stmt o scope (stmts.Assign target value) h =
      (h, joined (targets o regions.Behavior scope target) (uses o regions.Behavior scope value) (writes o regions.Behavior scope target h.0) (reads o regions.Behavior scope value h.1))
  stmt o scope (stmts.If test chosen) h = joined (uses o regions.Behavior scope test) (places o scope chosen) (reads o regions.Behavior scope test h.0) (stmt o scope chosen h.1)
  stmt o scope (stmts.IfElse test chosen other) h =
      joined (uses o regions.Behavior scope test) (places o scope chosen ++ places o scope other) (reads o regions.Behavior scope test h.0)
      (joined (places o scope chosen) (places o scope other) (stmt o scope chosen h.1) (stmt o scope other h.2))
  stmt o scope (stmts.While test within) h = (tt, joined (uses o regions.Behavior scope test) (places o scope within) (reads o regions.Behavior scope test h.0) (stmt o scope within h.1))
  stmt o scope (stmts.For head within) h = joined (head_places o scope head) (places o (with_counter scope head) within) (counts o scope head h.0) (stmt o (with_counter scope head) within h.1)
  stmt o scope (stmts.Call n) h = (h, tt)
  stmt o scope (stmts.Stall pipe stage) h = (h, tt)
  stmt o scope (stmts.Flush pipe stage) h = (h, tt)
  stmt o scope (stmts.Execute pipe) h = (h, tt)
  stmt o scope (stmts.Shift pipe) h = (h, tt)

  body : (o : ℕ) (scope : Scope) (all : StmtTrees) → IsWellFormedStmts all → AreFormed (all_places o scope all)
  body o scope stmts.End h = tt
  body o scope (stmts.Then s rest) h = joined (places o scope s) (all_places o (after scope s) rest) (stmt o scope s h.0) (body o (after scope s) rest h.1)

-- ---- activations

mutual
  act : (o : ℕ) (a : ActTree) → IsWellFormedAct a → AreFormed (act_places o a)
  act o (acts.Start n) h = (h, tt)
  act o (acts.Choose test chosen) h = joined (uses o regions.Activation [] test) (acts_places o chosen) (reads o regions.Activation [] test h.0) (activation o chosen h.1)
  act o (acts.ChooseElse test chosen other) h =
      joined (uses o regions.Activation [] test) (acts_places o chosen ++ acts_places o other) (reads o regions.Activation [] test h.0)
      (joined (acts_places o chosen) (acts_places o other) (activation o chosen h.1) (activation o other h.2))

  activation : (o : ℕ) (all : ActTrees) → IsWellFormedActs all → AreFormed (acts_places o all)
  activation o acts.End h = tt
  activation o (acts.Then a rest) h = joined (act_places o a) (acts_places o rest) (act o a h.0) (activation o rest h.1)

-- ---- declarations, codings, syntaxes

names : (o k : ℕ) (all : List (List ℕ)) → AllByRecursion IsName all → AreFormed (names_places o k all)
names o k [] h = tt
names o k (n ∷ rest) h = (h.0, names o (k + 1) rest h.1)

instances : (o k : ℕ) (all : List (List ℕ × List ℕ)) → ArePairs all → AreFormed (instances_places o k all)
instances o k [] h = tt
instances o k (pair ∷ rest) h = (h.0.0, (h.0.1, instances o (k + 1) rest h.1))

declare : (o k : ℕ) (d : DeclareTree) → IsWellFormedDeclare d → AreFormed (declare_places o k d)
declare o k (trees.Group all alternatives) h = joined (names_places o k all) _ (names o k all h.0.each) (h.1, tt)
declare o k (trees.Instance pairs) h = instances o k pairs h.1
declare o k (trees.Label all) h = names o k all h.each
declare o k (trees.Reference all) h = names o k all h.each

declares : (o k : ℕ) (all : List DeclareTree) → AllByRecursion IsWellFormedDeclare all → AreFormed (declares_places o k all)
declares o k [] h = tt
declares o k (d ∷ rest) h = joined (declare_places o k d) (declares_places o (k + name_count d) rest) (declare o k d h.0) (declares o (k + name_count d) rest h.1)

item : (o : ℕ) (x : CodingItem) → IsWellFormedItem x → AreFormed (item_places o x)
item o (items.Bits pattern) h = tt
item o (items.Field n pattern) h = (h, tt)
item o (items.Child n) h = (h, tt)

all_items : (o : ℕ) (all : List CodingItem) → AllByRecursion IsWellFormedItem all → AreFormed (items_places o all)
all_items o [] h = tt
all_items o (x ∷ rest) h = joined (item_places o x) (items_places o rest) (item o x h.0) (all_items o rest h.1)

coding : (o : ℕ) (x : CodingTree) → IsWellFormedCoding x → AreFormed (coding_places o x)
coding o (trees.Root word group) h = (h, tt)
coding o (trees.Items all) h = all_items o all h.1

part : (o : ℕ) (x : SyntaxPart) → IsWellFormedPart x → AreFormed (part_places o x)
part o (parts.Literal text) h = tt
part o (parts.Number label format) h = (h, tt)
part o (parts.Child n) h = (h, tt)

all_parts : (o : ℕ) (all : List SyntaxItem) → AllByRecursion (λ (x : SyntaxItem). IsWellFormedPart x.part) all → AreFormed (parts_places o all)
all_parts o [] h = tt
all_parts o (x ∷ rest) h = joined (part_places o x.part) (parts_places o rest) (part o x.part h.0) (all_parts o rest h.1)

-- ---- operations and the whole description

inner : (o : ℕ) (s : SectionTree) → IsWellFormedSection s → AreFormed (section_inner o s)
inner o (trees.Declares all) h = declares o 0 all h
inner o (trees.Coding x) h = coding o x h
inner o (trees.Syntax all) h = all_parts o all h.1
inner o (trees.Behavior all) h = body o [] all h
inner o (trees.Expression e) h = reads o regions.Expression [] e h
inner o (trees.Activation all) h = activation o all h

sections : (o : ℕ) (all : List SectionTree) (k : ℕ) (some : List SectionTree) → AllByRecursion IsWellFormedSection all → AllByRecursion IsWellFormedSection some → AreFormed (sections_places o all k some)
sections o all k [] whole h = tt
sections o all k (s ∷ rest) whole h = (whole, joined (section_inner o s) (sections_places o all (k + 1) rest) (inner o s h.0) (sections o all (k + 1) rest whole h.1))

operations : (o : ℕ) (all : List OperationTree) → AllByRecursion IsWellFormedOperation all → AreFormed (operations_places o all)
operations o [] h = tt
operations o (x ∷ rest) h =
    joined (operation_places o x) (operations_places (o + 1) rest) (h.0, sections o x.sections 0 x.sections h.0.sections h.0.sections) (operations (o + 1) rest h.1)

resources : (k : ℕ) (all : List ResourceTree) → AllByRecursion IsWellFormedResource all → AreFormed (resources_places k all)
resources k [] h = tt
resources k (r ∷ rest) h = (h.0, resources (k + 1) rest h.1)

pub places_formed : (d : DescriptionTree) → IsWellFormed d → AreFormed (description_places d)
places_formed d w = joined (resources_places 0 d.resources) (operations_places 0 d.operations) (resources 0 d.resources w.resources) (operations 0 d.operations w.operations)
