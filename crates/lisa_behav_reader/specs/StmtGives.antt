-- What the readers of statements answer.
use Rattle.std.specs.Prelude.{◌≡◌, ℕ, List, Option, Some, None}
use Rattle.std.specs.Borrow.{Bor}
use Rattle.std.specs.Global.{Vec}
use Rattle.lisa_tree.specs.declared.tokens.Token.{Token}
use Rattle.lisa_tree.specs.declared.expressions.Expr.{Expr}
use Rattle.lisa_tree.specs.declared.statements.ForHead.{ForHead}
use Rattle.lisa_tree.specs.declared.statements.Stmt.{Stmt}
use Rattle.lisa_tree.specs.Expressions.{ExprTree, expr_tree}
use Rattle.lisa_tree.specs.Statements.{HeadTree, StmtTree, StmtTrees, End, Then, head_tree, stmt_tree, stmt_trees}
use Rattle.lisa_tree.specs.Grammar.{Toks}
use Rattle.lisa_tree.specs.Tokens.{toks}
use Rattle.lisa_words.specs.Steps.{◌>>=◌}

abbrev pub seen_expr : Expr × Bor (List Token) → ExprTree × Toks
seen_expr x = (expr_tree x.0, toks x.1.now)

abbrev pub seen_stmt : Stmt × Bor (List Token) → StmtTree × Toks
seen_stmt x = (stmt_tree x.0, toks x.1.now)

abbrev pub seen_stmts : Vec Stmt × Bor (List Token) → StmtTrees × Toks
seen_stmts x = (stmt_trees x.0.items, toks x.1.now)

abbrev pub seen_head : ForHead × Bor (List Token) → HeadTree × Toks
seen_head x = (head_tree x.0, toks x.1.now)

abbrev pub seen_set : List ℕ × Expr × Bor (List Token) → (List ℕ × ExprTree) × Toks
seen_set x = ((x.0, expr_tree x.1), toks x.2.now)

-- one list of statements behind another
abbrev pub glue : StmtTrees → StmtTrees → StmtTrees
glue End more = more
glue (Then s all) more = Then s (glue all more)

-- what was read before, and what is still read
abbrev pub with_front : StmtTrees → Option (StmtTrees × Toks) → Option (StmtTrees × Toks)
with_front front read = read >>= λ x. Some (glue front x.0, x.1)
