-- Each place of an operation has its number.
use Rattle.std.proofs.Common.{◌≡◌, ◌<◌, ◌+◌, ℕ, suc, List, [], ◌∷◌, ◌++◌, Option, None, Some, length, refl, ap₂, arith}
use Rattle.std.specs.Option.{option_or}
use Rattle.lisa_tree.specs.declared.descriptions.CodingItem.{CodingItem}
use Rattle.lisa_tree.specs.declared.descriptions.CodingItem.TheVariants as items
use Rattle.lisa_tree.specs.declared.descriptions.SyntaxItem.{SyntaxItem}
use Rattle.lisa_tree.specs.declared.descriptions.SyntaxPart.{SyntaxPart}
use Rattle.lisa_tree.specs.declared.descriptions.SyntaxPart.TheVariants as parts
use Rattle.lisa_tree.specs.Expressions as exprs
use Rattle.lisa_tree.specs.Expressions.{ExprTree}
use Rattle.lisa_tree.specs.Statements as stmts
use Rattle.lisa_tree.specs.Statements.{HeadTree, StmtTree, StmtTrees}
use Rattle.lisa_tree.specs.Activations as acts
use Rattle.lisa_tree.specs.Activations.{ActTree, ActTrees}
use Rattle.lisa_tree.specs.Descriptions as trees
use Rattle.lisa_tree.specs.Descriptions.{ResourceTree, CodingTree, DeclareTree, SectionTree, OperationTree, DescriptionTree}
use Rattle.description_places.specs.declared.sites.Region.{Region}
use Rattle.description_places.specs.declared.sites.Region.TheVariants as regions
use Rattle.description_places.specs.Scopes.{Scope}
use Rattle.description_places.specs.Places as places
use Rattle.description_places.specs.Places.{At, Condition, first}

abbrev pub AllAt : (At → Type 0) → List At → Type 0
AllAt P [] = Unit {0}
AllAt P (a ∷ rest) = P a × AllAt P rest

all_append : (P : At → Type 0) (xs ys : List At) → AllAt P xs → AllAt P ys → AllAt P (xs ++ ys)
all_append P [] ys a b = b
all_append P (x ∷ xs) ys a b = (a.0, all_append P xs ys a.1 b)

all_other : (P Q : At → Type 0) → ((a : At) → P a → Q a) → (xs : List At) → AllAt P xs → AllAt Q xs
all_other P Q f [] a = tt
all_other P Q f (x ∷ xs) a = (f x a.0, all_other P Q f xs a.1)

-- where two conditions agree at each place, they have one first fault
pub same_first : {F : Type 0} (breaks other : Condition F) (xs : List At) → AllAt (λ a. breaks a.operation a.region a.scope a.place ≡ other a.operation a.region a.scope a.place) xs → first breaks xs ≡ first other xs
same_first breaks other [] a = refl
same_first breaks other (x ∷ xs) a = ap₂ option_or a.0 (same_first breaks other xs a.1)

module _ (o : ℕ) where
  abbrev Own : At → Type 0
  Own a = a.operation ≡ o

  both : (xs ys : List At) → AllAt Own xs → AllAt Own ys → AllAt Own (xs ++ ys)
  both xs ys a b = all_append Own xs ys a b

  of_uses : (region : Region) (scope : Scope) (e : ExprTree) → AllAt Own (places.uses o region scope e)
  of_uses region scope (exprs.Number v base) = tt
  of_uses region scope (exprs.Named n) = (refl, tt)
  of_uses region scope (exprs.Element n i) = (refl, of_uses region scope i)
  of_uses region scope (exprs.Input f) = (refl, tt)
  of_uses region scope (exprs.Output f) = (refl, tt)
  of_uses region scope (exprs.Boundary p b a f) = (refl, tt)
  of_uses region scope exprs.Decoded = (refl, tt)
  of_uses region scope (exprs.Cast s a) = (refl, of_uses region scope a)
  of_uses region scope (exprs.Complement a) = of_uses region scope a
  of_uses region scope (exprs.Negate a) = of_uses region scope a
  of_uses region scope (exprs.Two op a b) = both _ _ (of_uses region scope a) (of_uses region scope b)
  of_uses region scope (exprs.Choose c a b) = both _ _ (of_uses region scope c) (both _ _ (of_uses region scope a) (of_uses region scope b))

  of_targets : (region : Region) (scope : Scope) (e : ExprTree) → AllAt Own (places.targets o region scope e)
  of_targets region scope (exprs.Named n) = (refl, tt)
  of_targets region scope (exprs.Element n i) = (refl, of_uses region scope i)
  of_targets region scope (exprs.Output f) = (refl, tt)
  of_targets region scope (exprs.Number v base) = of_uses region scope (exprs.Number v base)
  of_targets region scope (exprs.Input f) = of_uses region scope (exprs.Input f)
  of_targets region scope (exprs.Boundary p b a f) = of_uses region scope (exprs.Boundary p b a f)
  of_targets region scope exprs.Decoded = of_uses region scope exprs.Decoded
  of_targets region scope (exprs.Cast s a) = of_uses region scope (exprs.Cast s a)
  of_targets region scope (exprs.Complement a) = of_uses region scope (exprs.Complement a)
  of_targets region scope (exprs.Negate a) = of_uses region scope (exprs.Negate a)
  of_targets region scope (exprs.Two op a b) = of_uses region scope (exprs.Two op a b)
  of_targets region scope (exprs.Choose c a b) = of_uses region scope (exprs.Choose c a b)

  of_value : (region : Region) (scope : Scope) (e : Option ExprTree) → AllAt Own (places.uses_of_value o region scope e)
  of_value region scope None = tt
  of_value region scope (Some e) = of_uses region scope e

  of_head : (scope : Scope) (head : HeadTree) → AllAt Own (places.head_places o scope head)
  of_head scope head = (refl, both _ _ (of_uses regions.Behavior scope head.first) (both _ _ (of_uses regions.Behavior (places.with_counter scope head) head.test) (refl, of_uses regions.Behavior (places.with_counter scope head) head.step)))

  mutual
    of_stmt : (scope : Scope) (s : StmtTree) → AllAt Own (places.places o scope s)
    of_stmt scope stmts.Empty = tt
    of_stmt scope (stmts.Block all) = of_stmts scope all
    of_stmt scope (stmts.Local shape n value) = (refl, of_value regions.Behavior scope value)
    of_stmt scope (stmts.Assign target value) = (refl, both _ _ (of_targets regions.Behavior scope target) (of_uses regions.Behavior scope value))
    of_stmt scope (stmts.If test chosen) = both _ _ (of_uses regions.Behavior scope test) (of_stmt scope chosen)
    of_stmt scope (stmts.IfElse test chosen other) = both _ _ (of_uses regions.Behavior scope test) (both _ _ (of_stmt scope chosen) (of_stmt scope other))
    of_stmt scope (stmts.While test body) = (refl, both _ _ (of_uses regions.Behavior scope test) (of_stmt scope body))
    of_stmt scope (stmts.For head body) = both (places.head_places o scope head) (places.places o (places.with_counter scope head) body) (of_head scope head) (of_stmt (places.with_counter scope head) body)
    of_stmt scope (stmts.Call n) = (refl, tt)
    of_stmt scope (stmts.Stall p s) = (refl, tt)
    of_stmt scope (stmts.Flush p s) = (refl, tt)
    of_stmt scope (stmts.Execute p) = (refl, tt)
    of_stmt scope (stmts.Shift p) = (refl, tt)

    of_stmts : (scope : Scope) (all : StmtTrees) → AllAt Own (places.all_places o scope all)
    of_stmts scope stmts.End = tt
    of_stmts scope (stmts.Then s rest) = both _ _ (of_stmt scope s) (of_stmts (places.after scope s) rest)

  mutual
    of_act : (a : ActTree) → AllAt Own (places.act_places o a)
    of_act (acts.Start n) = (refl, tt)
    of_act (acts.Choose test chosen) = both _ _ (of_uses regions.Activation [] test) (of_acts chosen)
    of_act (acts.ChooseElse test chosen other) = both _ _ (of_uses regions.Activation [] test) (both _ _ (of_acts chosen) (of_acts other))

    of_acts : (all : ActTrees) → AllAt Own (places.acts_places o all)
    of_acts acts.End = tt
    of_acts (acts.Then a rest) = both _ _ (of_act a) (of_acts rest)

  of_names : (k : ℕ) (names : List (List ℕ)) → AllAt Own (places.names_places o k names)
  of_names k [] = tt
  of_names k (n ∷ rest) = (refl, of_names (k + 1) rest)

  of_instances : (k : ℕ) (pairs : List (List ℕ × List ℕ)) → AllAt Own (places.instances_places o k pairs)
  of_instances k [] = tt
  of_instances k (pair ∷ rest) = (refl, (refl, of_instances (k + 1) rest))

  of_declare : (k : ℕ) (d : DeclareTree) → AllAt Own (places.declare_places o k d)
  of_declare k (trees.Group names alternatives) = both _ _ (of_names k names) (refl, tt)
  of_declare k (trees.Instance pairs) = of_instances k pairs
  of_declare k (trees.Label names) = of_names k names
  of_declare k (trees.Reference names) = of_names k names

  of_declares : (k : ℕ) (all : List DeclareTree) → AllAt Own (places.declares_places o k all)
  of_declares k [] = tt
  of_declares k (d ∷ rest) = both _ _ (of_declare k d) (of_declares (k + places.name_count d) rest)

  of_item : (item : CodingItem) → AllAt Own (places.item_places o item)
  of_item (items.Bits pattern) = tt
  of_item (items.Field n pattern) = (refl, tt)
  of_item (items.Child n) = (refl, tt)

  of_items : (all : List CodingItem) → AllAt Own (places.items_places o all)
  of_items [] = tt
  of_items (item ∷ rest) = both _ _ (of_item item) (of_items rest)

  of_coding : (part : CodingTree) → AllAt Own (places.coding_places o part)
  of_coding (trees.Root register group) = (refl, tt)
  of_coding (trees.Items all) = of_items all

  of_part : (part : SyntaxPart) → AllAt Own (places.part_places o part)
  of_part (parts.Literal text) = tt
  of_part (parts.Number n format) = (refl, tt)
  of_part (parts.Child n) = (refl, tt)

  of_parts : (all : List SyntaxItem) → AllAt Own (places.parts_places o all)
  of_parts [] = tt
  of_parts (item ∷ rest) = both _ _ (of_part item.part) (of_parts rest)

  of_section : (s : SectionTree) → AllAt Own (places.section_inner o s)
  of_section (trees.Declares all) = of_declares 0 all
  of_section (trees.Coding part) = of_coding part
  of_section (trees.Syntax all) = of_parts all
  of_section (trees.Behavior all) = of_stmts [] all
  of_section (trees.Expression e) = of_uses regions.Expression [] e
  of_section (trees.Activation all) = of_acts all

  of_sections : (all : List SectionTree) (k : ℕ) (rest : List SectionTree) → AllAt Own (places.sections_places o all k rest)
  of_sections all k [] = tt
  of_sections all k (s ∷ rest) = (refl, both _ _ (of_section s) (of_sections all (k + 1) rest))

  of_operation : (operation : OperationTree) → AllAt Own (places.operation_places o operation)
  of_operation operation = (refl, of_sections operation.sections 0 operation.sections)

abbrev pub Below : ℕ → At → Type 0
Below n a = a.operation < n

pub of_operations : (o : ℕ) (all : List OperationTree) → AllAt (Below (o + length all)) (places.operations_places o all)
of_operations o [] = tt
of_operations o (operation ∷ rest) =
    all_append (Below (o + suc (length rest))) (places.operation_places o operation) (places.operations_places (o + 1) rest)
    (all_other (λ (a : At). a.operation ≡ o) (Below (o + suc (length rest))) (λ a e. let less : a.operation < o + suc (length rest) = omega (arith, e) in less) (places.operation_places o operation) (of_operation o operation))
    (all_other (Below (o + 1 + length rest)) (Below (o + suc (length rest))) (λ a e. let less : a.operation < o + suc (length rest) = omega (arith, e) in less) (places.operations_places (o + 1) rest) (of_operations (o + 1) rest))

abbrev pub Alike : {F : Type 0} → Condition F → Condition F → At → Type 0
Alike breaks other a = breaks a.operation a.region a.scope a.place ≡ other a.operation a.region a.scope a.place

-- a condition that resources don't break, and that agrees with another below the number of operations
pub resources_agree : {F : Type 0} (breaks other : Condition F) → ((k : ℕ) (r : ResourceTree) (region : Region) (scope : Scope) → breaks 0 region scope (places.Resource k r) ≡ other 0 region scope (places.Resource k r)) → (k : ℕ) (all : List ResourceTree)
    → AllAt (λ a. breaks a.operation a.region a.scope a.place ≡ other a.operation a.region a.scope a.place) (places.resources_places k all)
resources_agree breaks other f k [] = tt
resources_agree breaks other f k (r ∷ rest) = (f k r _ _, resources_agree breaks other f (k + 1) rest)

pub agree : {F : Type 0} (d : DescriptionTree) (breaks other : Condition F)
    → ((k : ℕ) (r : ResourceTree) (region : Region) (scope : Scope) → breaks 0 region scope (places.Resource k r) ≡ other 0 region scope (places.Resource k r))
    → ((o : ℕ) → o < length d.operations → (region : Region) (scope : Scope) (place : places.Place) → breaks o region scope place ≡ other o region scope place)
    → first breaks (places.description_places d) ≡ first other (places.description_places d)
agree d breaks other f g =
    same_first breaks other (places.description_places d)
    (all_append (Alike breaks other) (places.resources_places 0 d.resources) (places.operations_places 0 d.operations)
    (resources_agree breaks other f 0 d.resources)
    (all_other (Below (0 + length d.operations)) (Alike breaks other) (λ a h. g a.operation (let less : a.operation < length d.operations = omega (arith, h) in less) a.region a.scope a.place) (places.operations_places 0 d.operations) (of_operations 0 d.operations)))
