-- How much is left to state: the levels of calls first, then the depth of the statements.
use Rattle.std.proofs.Common.{◌≡◌, ℕ, zero, suc, ◌+◌, ◌-◌, ◌*◌, ◌<◌, ◌≤◌, List, [], ◌∷◌, length, get_or, ap, arith}
use Rattle.lisa_tree.specs.declared.statements.Stmt.{Stmt}
use Rattle.lisa_tree.specs.Statements.{stmt_tree, stmt_trees, stmt_depth, stmts_depth}

abbrev pub work : (most levels depth rank : ℕ) → ℕ
work most levels depth rank = levels * (8 * (most + 2)) + (8 * depth + rank)

-- one level less is less work, whatever is stated there
pub body_less : (most levels depth rank other : ℕ) → 0 < levels → depth ≤ most → other < 8 → work most (levels - 1) depth other < work most levels 0 rank
body_less most zero depth rank other some within few = absurd (omega arith)
body_less most (suc levels) depth rank other some within few =
    let one : suc levels - 1 ≡ levels = omega arith in
    rw one (omega (arith, within, few))

-- a statement of a list is no deeper
pub depth_at : (all : List Stmt) (i : ℕ) (s : Stmt) → i < length all → s ≡ get_or all i s → stmt_depth (stmt_tree s) ≤ stmts_depth (stmt_trees all)
depth_at [] i s within is = absurd (omega arith)
depth_at (x ∷ xs) zero s within is = omega (arith, ap (λ (t : Stmt). stmt_depth (stmt_tree t)) is)
depth_at (x ∷ xs) (suc i) s within is = omega (arith, depth_at xs i s (omega arith) is)
