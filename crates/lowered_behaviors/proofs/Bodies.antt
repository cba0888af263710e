-- The statements of a BEHAVIOR are no deeper than those of the description.
use Rattle.std.proofs.Common.{◌≡◌, ◌≤◌, ℕ, zero, suc, List, [], ◌∷◌, Option, Some, None, refl, ap, ◌∙◌, arith}
use Rattle.std.specs.Prelude.{slice_get}
use Rattle.lisa_tree.specs.Statements.{StmtTrees, stmts_depth}
use Rattle.lisa_tree.specs.Descriptions as trees
use Rattle.lisa_tree.specs.Descriptions.{SectionTree, OperationTree, DescriptionTree, description_depth, sections_depth, operations_depth}
use Rattle.lisa_tree.specs.Operations.{sections_at, behavior_in}

behavior_depth : (sections : List SectionTree) (all : StmtTrees) → behavior_in sections ≡ Some all → stmts_depth all ≤ sections_depth sections
behavior_depth [] all is = absurd (cc is)
behavior_depth (trees.Behavior own ∷ rest) all is = let e : own ≡ all = cc is in omega (arith, ap stmts_depth e)
behavior_depth (trees.Declares x ∷ rest) all is = omega (arith, behavior_depth rest all is)
behavior_depth (trees.Coding x ∷ rest) all is = omega (arith, behavior_depth rest all is)
behavior_depth (trees.Syntax x ∷ rest) all is = omega (arith, behavior_depth rest all is)
behavior_depth (trees.Expression x ∷ rest) all is = omega (arith, behavior_depth rest all is)
behavior_depth (trees.Activation x ∷ rest) all is = omega (arith, behavior_depth rest all is)

abbrev sections_of : Option OperationTree → List SectionTree
sections_of None = []
sections_of (Some operation) = operation.sections

deep_in : (operations : List OperationTree) (o : ℕ) (all : StmtTrees) (operation : OperationTree) → slice_get operations o ≡ Some operation → behavior_in operation.sections ≡ Some all → stmts_depth all ≤ operations_depth operations
deep_in [] o all operation at is = absurd (cc at)
deep_in (x ∷ rest) zero all operation at is = let e : x ≡ operation = cc at in omega (arith, behavior_depth x.sections all (ap (λ (y : OperationTree). behavior_in y.sections) e ∙ is))
deep_in (x ∷ rest) (suc o) all operation at is = omega (arith, deep_in rest o all operation at is)

module _ (d : DescriptionTree) (o : ℕ) (all : StmtTrees) (is : behavior_in (sections_at d o) ≡ Some all) where
  by : (found : Option OperationTree) → slice_get d.operations o ≡ found → behavior_in (sections_of found) ≡ Some all → (operation : OperationTree) × (slice_get d.operations o ≡ Some operation) × (behavior_in operation.sections ≡ Some all)
  by None at has = absurd (cc has)
  by (Some operation) at has = (operation, at, has)

  found_at : (operation : OperationTree) × (slice_get d.operations o ≡ Some operation) × (behavior_in operation.sections ≡ Some all)
  found_at = by (slice_get d.operations o) refl is

  pub body_depth : stmts_depth all ≤ description_depth d
  body_depth = deep_in d.operations o all found_at.0 found_at.1 found_at.2
