use Rattle.std.proofs.Common.{◌≡◌, ◌∙◌, suc, List, [], ◌∷◌, Option, Some, length, nat_eq, refl, sym, ap, arith, Bor}
use Rattle.std.specs.Prelude.{option_map}
use Rattle.std.proofs.lemmas.Bool.{ne_eqb}
use Rattle.lisa_tree.specs.declared.statements.Stmt.{Stmt}
use Rattle.lisa_tree.specs.Statements.{stmt_trees}
use Rattle.lowered_edges.specs.Parts.{is_empty}
use Rattle.lowered_edges.proofs.parts.is_empty.Goals as goal

-- a list has no statements where it stands for none
stands_for_none : (all : List Stmt) → nat_eq (length all) 0 ≡ is_empty (Some (stmt_trees all))
stands_for_none [] = refl
stands_for_none (s ∷ rest) = ne_eqb (suc (length rest)) 0 (λ e. omega (arith, e))

pub returns-in-Some : goal.returns-in-Some
returns-in-Some c =
    c.is_empty.ensures ∙ stands_for_none c.in-Some.all.now
    ∙ ap (λ (o : Option (Bor (List Stmt))). is_empty (option_map (λ all. stmt_trees all.now) o)) (sym c.in-Some.is)
