-- How much is left to run: the levels of calls first, then the depth of the statements.
use Rattle.std.proofs.Common.{◌≡◌, ℕ, zero, suc, ◌+◌, ◌-◌, ◌*◌, ◌<◌, ◌≤◌, List, [], ◌∷◌, Option, Some, None, length, get_or, refl, ap, sym, subst, ◌∙◌, arith}
use Rattle.std.specs.Prelude.{slice_get}
use Rattle.lisa_tree.specs.declared.statements.Stmt.{Stmt}
use Rattle.lisa_tree.specs.Statements.{StmtTrees, stmt_tree, stmt_trees, stmt_depth, stmts_depth}
use Rattle.lisa_tree.specs.Descriptions as trees
use Rattle.lisa_tree.specs.Descriptions.{SectionTree, OperationTree, DescriptionTree, description_depth, sections_depth, operations_depth}
use Rattle.lisa_tree.specs.Operations.{sections_at, behavior_in}
use Rattle.behavior_runs.specs.Rooms.{all_locals, most_locals, sections_locals, operations_locals}

abbrev pub work : DescriptionTree → ℕ → ℕ → ℕ → ℕ
work d levels depth rank = levels * (8 * (description_depth d + 2)) + (8 * depth + rank)

-- one level less is less work, whatever is run there
pub level_less : (d : DescriptionTree) (k depth rank : ℕ) → depth ≤ description_depth d → work d k depth 1 < work d (suc k) 0 rank
level_less d k depth rank within = omega (arith, within)

pub body_less : (d : DescriptionTree) (levels depth rank : ℕ) → 0 < levels → depth ≤ description_depth d → work d (levels - 1) depth 1 < work d levels 0 rank
body_less d zero depth rank some within = absurd (omega arith)
body_less d (suc k) depth rank some within =
    let one : suc k - 1 ≡ k = omega arith in
    subst (λ (n : ℕ). work d n depth 1 < work d (suc k) 0 rank) (sym one) (level_less d k depth rank within)

-- ---- a statement of a list

pub depth_at : (all : List Stmt) (i : ℕ) (s : Stmt) → i < length all → s ≡ get_or all i s → stmt_depth (stmt_tree s) ≤ stmts_depth (stmt_trees all)
depth_at [] i s within is = absurd (omega arith)
depth_at (x ∷ xs) zero s within is = omega (arith, ap (λ (t : Stmt). stmt_depth (stmt_tree t)) is)
depth_at (x ∷ xs) (suc i) s within is = omega (arith, depth_at xs i s (omega arith) is)

-- ---- a BEHAVIOR among the sections

behavior_depth : (sections : List SectionTree) (all : StmtTrees) → behavior_in sections ≡ Some all → stmts_depth all ≤ sections_depth sections
behavior_depth [] all is = absurd (cc is)
behavior_depth (trees.Behavior own ∷ rest) all is = let e : own ≡ all = cc is in omega (arith, ap stmts_depth e)
behavior_depth (trees.Declares x ∷ rest) all is = omega (arith, behavior_depth rest all is)
behavior_depth (trees.Coding x ∷ rest) all is = omega (arith, behavior_depth rest all is)
behavior_depth (trees.Syntax x ∷ rest) all is = omega (arith, behavior_depth rest all is)
behavior_depth (trees.Expression x ∷ rest) all is = omega (arith, behavior_depth rest all is)
behavior_depth (trees.Activation x ∷ rest) all is = omega (arith, behavior_depth rest all is)

behavior_locals : (sections : List SectionTree) (all : StmtTrees) → behavior_in sections ≡ Some all → all_locals all ≤ sections_locals sections
behavior_locals [] all is = absurd (cc is)
behavior_locals (trees.Behavior own ∷ rest) all is = let e : own ≡ all = cc is in omega (arith, ap all_locals e)
behavior_locals (trees.Declares x ∷ rest) all is = omega (arith, behavior_locals rest all is)
behavior_locals (trees.Coding x ∷ rest) all is = omega (arith, behavior_locals rest all is)
behavior_locals (trees.Syntax x ∷ rest) all is = omega (arith, behavior_locals rest all is)
behavior_locals (trees.Expression x ∷ rest) all is = omega (arith, behavior_locals rest all is)
behavior_locals (trees.Activation x ∷ rest) all is = omega (arith, behavior_locals rest all is)

abbrev sections_of : Option OperationTree → List SectionTree
sections_of None = []
sections_of (Some operation) = operation.sections

deep_in : (operations : List OperationTree) (o : ℕ) (all : StmtTrees) (operation : OperationTree) → slice_get operations o ≡ Some operation → behavior_in operation.sections ≡ Some all → stmts_depth all ≤ operations_depth operations
deep_in [] o all operation at is = absurd (cc at)
deep_in (x ∷ rest) zero all operation at is = let e : x ≡ operation = cc at in omega (arith, behavior_depth x.sections all (ap (λ (y : OperationTree). behavior_in y.sections) e ∙ is))
deep_in (x ∷ rest) (suc o) all operation at is = omega (arith, deep_in rest o all operation at is)

many_in : (operations : List OperationTree) (o : ℕ) (all : StmtTrees) (operation : OperationTree) → slice_get operations o ≡ Some operation → behavior_in operation.sections ≡ Some all → all_locals all ≤ operations_locals operations
many_in [] o all operation at is = absurd (cc at)
many_in (x ∷ rest) zero all operation at is = let e : x ≡ operation = cc at in omega (arith, behavior_locals x.sections all (ap (λ (y : OperationTree). behavior_in y.sections) e ∙ is))
many_in (x ∷ rest) (suc o) all operation at is = omega (arith, many_in rest o all operation at is)

module _ (d : DescriptionTree) (o : ℕ) (all : StmtTrees) (is : behavior_in (sections_at d o) ≡ Some all) where
  by : (found : Option OperationTree) → slice_get d.operations o ≡ found → behavior_in (sections_of found) ≡ Some all → (operation : OperationTree) × (slice_get d.operations o ≡ Some operation) × (behavior_in operation.sections ≡ Some all)
  by None at has = absurd (cc has)
  by (Some operation) at has = (operation, at, has)

  found_at : (operation : OperationTree) × (slice_get d.operations o ≡ Some operation) × (behavior_in operation.sections ≡ Some all)
  found_at = by (slice_get d.operations o) refl is

  pub body_depth : stmts_depth all ≤ description_depth d
  body_depth = deep_in d.operations o all found_at.0 found_at.1 found_at.2

  pub body_locals : all_locals all ≤ most_locals d
  body_locals = many_in d.operations o all found_at.0 found_at.1 found_at.2
