-- What the loop over statements keeps.
use Rattle.std.proofs.Common.{◌≡◌, ℕ, ◌-◌, Bool, true, false, cond, List, [], ◌∷◌, ◌++◌, Option, Some, None, refl, sym, ap, ◌∙◌}
use Rattle.std.specs.Global.{Vec}
use mathlib.Core.Former.{Count}
use Rattle.lisa_tree.specs.declared.statements.Stmt.{Stmt, Block', Row_of-Stmt, end_of-Stmt, more_of-Stmt, items-the_row-Stmt, items_hidden-the_row-Stmt-0}
use Rattle.lisa_tree.specs.declared.statements.Stmt as stmt_variants
use Rattle.lisa_tree.specs.Statements as statements
use Rattle.lisa_tree.specs.Statements.{StmtTree, StmtTrees, End, Then, stmt_tree, stmt_trees, row_trees}
use Rattle.lisa_tree.specs.declared.tokens.Sign.TheVariants as signs
use Rattle.lisa_tree.specs.Grammar.{Toks}
use Rattle.lisa_behav_reader.specs.Past.{past_of}
use Rattle.lisa_words.specs.Steps.{◌>>=◌}
use Rattle.lisa_behav_reader.specs.declared.misses.Missed.{Missed}
use Rattle.lisa_behav_reader.specs.declared.misses.Missed.TheVariants as misses
use Rattle.lisa_behav_reader.specs.Gives.{Fails}
use Rattle.lisa_behav_reader.specs.StmtReading.{one, many, Answer, ends, block_of, next_of, many_of, stmts}
use Rattle.lisa_behav_reader.specs.StmtGives.{glue, with_front}
use Rattle.lisa_behav_reader.proofs.StmtEquation.{stmts_is}

glue-End : (all : StmtTrees) → glue all End ≡ all
glue-End End = refl
glue-End (Then s all) = ap (Then s) (glue-End all)

glue_more : (all : StmtTrees) (s : StmtTree) (more : StmtTrees) → glue all (Then s more) ≡ glue (glue all (Then s End)) more
glue_more End s more = refl
glue_more (Then t all) s more = ap (Then t) (glue_more all s more)

pub stmt_trees-push : (all : List Stmt) (s : Stmt) → stmt_trees (all ++ s ∷ []) ≡ glue (stmt_trees all) (Then (stmt_tree s) End)
stmt_trees-push [] s = refl
stmt_trees-push (x ∷ all) s = ap (Then (stmt_tree x)) (stmt_trees-push all s)

next_is : (n : ℕ) (ts : Toks) → false ≡ ends ts → stmts (many n ts) ≡ next_of stmts n ts
unfolding many_of
next_is n ts e = stmts_is (many n ts) ∙ rw (← e) refl

regroup : (front : StmtTrees) (s : StmtTree) (r : Option (StmtTrees × Toks)) → with_front front (r >>= λ x. Some (Then s x.0, x.1)) ≡ with_front (glue front (Then s End)) r
regroup front s None = refl
regroup front s (Some x) = ap (λ (all : StmtTrees). Some (all, x.1)) (glue_more front s x.0)

module _ (n : ℕ) (front : StmtTrees) (ts : Toks) (total : Option (StmtTrees × Toks)) (so_far : with_front front (stmts (many n ts)) ≡ total) where
  pub goes_on : (s : StmtTree) (after : Toks) → false ≡ ends ts → stmts (one n ts) ≡ Some (s, after) → with_front (glue front (Then s End)) (stmts (many n after)) ≡ total
  goes_on s after e h =
      sym (regroup front s (stmts (many n after)))
      ∙ ap (λ (z : Answer). with_front front (z >>= λ x. stmts (many n x.1) >>= λ all. Some (Then x.0 all.0, all.1))) (sym h)
      ∙ ap (with_front front) (sym (next_is n ts e)) ∙ so_far

  pub fails_on : (e : Missed) → false ≡ ends ts → Fails e (stmts (one n ts)) → Fails e total
  fails_on misses.NoMemory e h = tt
  fails_on (misses.At left) e h =
      sym so_far ∙ ap (with_front front) (next_is n ts e) ∙ ap (λ (z : Answer). with_front front (z >>= λ x. stmts (many n x.1) >>= λ all. Some (Then x.0 all.0, all.1))) h

  pub is_done : true ≡ ends ts → total ≡ Some (front, ts)
  unfolding many_of
  is_done e =
      let none : stmts (many n ts) ≡ Some (End, ts) = stmts_is (many n ts) ∙ rw (← e) refl in
      sym so_far ∙ ap (with_front front) none ∙ ap (λ (all : StmtTrees). Some (all, ts)) (glue-End front)

-- ---- a block's statements are those of its vector

abbrev row_in : Stmt → (n : Count) × Row_of-Stmt n
row_in (Block' _ row) = (_, row)
row_in _ = (_, end_of-Stmt)

of_row : (n : Count) (row : Row_of-Stmt n) → row_trees row ≡ stmt_trees (items-the_row-Stmt n row)
of_row n end_of-Stmt = refl
of_row n (more_of-Stmt s rest) = ap (Then (stmt_tree s)) (of_row _ rest)

pub stmt_tree-Block : (v : Vec Stmt) → stmt_tree (stmt_variants.Block v) ≡ statements.Block (stmt_trees v.items)
stmt_tree-Block v =
    let row = row_in (stmt_variants.Block v) in
    ap statements.Block (of_row row.0 row.1 ∙ ap stmt_trees (items_hidden-the_row-Stmt-0 v))

pub block_there : (n : ℕ) (ts after rest : Toks) (body : Vec Stmt) → stmts (many (n - 1) ts) ≡ Some (stmt_trees body.items, after) → past_of signs.CloseBrace after ≡ Some rest → block_of stmts n ts ≡ Some (stmt_tree (stmt_variants.Block body), rest)
unfolding block_of
block_there n ts after rest body e p =
    ap (λ (z : Option (StmtTrees × Toks)). z >>= λ all. past_of signs.CloseBrace all.1 >>= λ rest. Some (statements.Block all.0, rest)) e
    ∙ ap (λ (z : Option Toks). z >>= λ rest. Some (statements.Block (stmt_trees body.items), rest)) p
    ∙ ap (λ (s : StmtTree). Some (s, rest)) (sym (stmt_tree-Block body))

-- where the statements or their `}` can't be read, the block can't
pub block_fails : (n : ℕ) (ts : Toks) → stmts (many (n - 1) ts) ≡ None → block_of stmts n ts ≡ None
unfolding block_of
block_fails n ts e = ap (λ (z : Option (StmtTrees × Toks)). z >>= λ all. past_of signs.CloseBrace all.1 >>= λ rest. Some (statements.Block all.0, rest)) e

pub block_open : (n : ℕ) (ts after : Toks) (all : StmtTrees) → stmts (many (n - 1) ts) ≡ Some (all, after) → past_of signs.CloseBrace after ≡ None → block_of stmts n ts ≡ None
unfolding block_of
block_open n ts after all e p =
    ap (λ (z : Option (StmtTrees × Toks)). z >>= λ all. past_of signs.CloseBrace all.1 >>= λ rest. Some (statements.Block all.0, rest)) e
    ∙ ap (λ (z : Option Toks). z >>= λ rest. Some (statements.Block all, rest)) p
