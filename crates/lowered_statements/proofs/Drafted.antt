-- What is put behind a draft.
use Rattle.std.proofs.Common.{◌≡◌, ℕ, zero, suc, ◌+◌, ◌-◌, ◌*◌, ◌<◌, ◌≤◌, List, [], ◌∷◌, ◌++◌, Option, None, Some, length, get_or, refl, sym, ap, ap₂, ◌∙◌, subst, arith}
use Rattle.std.specs.Prelude.{take, drop, map}
use Rattle.std.proofs.lemmas.List.{append_assoc}
use Rattle.std.proofs.Math.Seq.{take-append_seam}
use Rattle.lisa_tree.specs.Statements as stmts
use Rattle.lisa_tree.specs.declared.statements.Stmt.{Stmt}
use Rattle.lisa_tree.specs.Statements.{StmtTree, StmtTrees, stmt_tree, stmt_trees}
use Rattle.step_program.specs.Programs.{Expr, Move}
use Rattle.step_pieces.specs.Pieces.{Piece, nothing, behind, top}
use Rattle.lowered_values.proofs.Drafting.{behind_assoc}
use Rattle.lowered_values.proofs.Lowering.{top_behind}
use Rattle.lowered_statements.specs.Scopes.{Scope}
use Rattle.lowered_statements.specs.Ways.{Guarded, Ways}
use Rattle.lowered_statements.specs.Scenes.{Scenes, call_piece, calls_piece, calls_within}
use Rattle.lowered_statements.specs.Stated.{stated, stated_all}
use Rattle.lowered_statements.proofs.Does.{Extends, extends, extends_all}

pub append_none : {A : Type 0} (xs : List A) → xs ++ [] ≡ xs
append_none [] = refl
append_none (x ∷ xs) = ap (λ ys. x ∷ ys) (append_none xs)

-- nothing is put behind it
pub none_behind : (a : Piece) → behind a nothing ≡ a
none_behind a = λ i. record { widths = append_none a.widths i; moves = append_none a.moves i }

pub none_adds : (old new : Piece) → new ≡ old → new ≡ behind old nothing
none_adds old new h = h ∙ sym (none_behind old)

-- a piece, and then one by the number of its first temp
pub then_adds : (old now new a : Piece) (f : ℕ → Piece) → now ≡ behind old a → new ≡ behind now (f (top 0 now)) → new ≡ behind old (behind a (f (top (top 0 old) a)))
then_adds old now new a f h k =
    k ∙ ap (λ (d : Piece). behind d (f (top 0 d))) h
    ∙ ap (λ (t : ℕ). behind (behind old a) (f t)) (sym (top_behind 0 old a))
    ∙ behind_assoc old a (f (top (top 0 old) a))

-- and one more
pub both_add : (old mid now new a : Piece) (f h : ℕ → Piece) → mid ≡ behind old a → now ≡ behind mid (f (top 0 mid)) → new ≡ behind now (h (top 0 now))
    → new ≡ behind old (behind (behind a (f (top (top 0 old) a))) (h (top (top 0 old) (behind a (f (top (top 0 old) a))))))
both_add old mid now new a f h first second third =
    then_adds old now new (behind a (f (top (top 0 old) a))) h (then_adds old mid now a f first second) third

-- the first temp behind both
pub then_top : (old now a : Piece) → now ≡ behind old a → top 0 now ≡ top (top 0 old) a
then_top old now a h = ap (λ (d : Piece). top 0 d) h ∙ sym (top_behind 0 old a)

-- ---- scopes

module _ (ways : Ways) where
  left : (scope after : Scope) → Extends scope after → take (length scope) after ≡ scope
  left scope after h = ap (take (length scope)) h.1 ∙ take-append_seam scope h.0

  pub one_left : (scope : Scope) (guard : Expr) (from : ℕ) (s : StmtTree) → take (length scope) (stated ways scope guard from s).scope ≡ scope
  one_left scope guard from s = left scope (stated ways scope guard from s).scope (extends ways s scope guard from)

  pub all_left : (scope : Scope) (guard : Expr) (from : ℕ) (all : StmtTrees) → take (length scope) (stated_all ways scope guard from all).scope ≡ scope
  all_left scope guard from all = left scope (stated_all ways scope guard from all).scope (extends_all ways all scope guard from)

  -- ---- one statement of a list

  -- what is left of the list puts the same behind
  pub more_adds : (scope new_scope : Scope) (guard : Expr) (now new whole : Piece) (s : StmtTree) (rest : StmtTrees)
      → behind now (stated_all ways scope guard (top 0 now) (stmts.Then s rest)).piece ≡ whole
      → new ≡ behind now (stated ways scope guard (top 0 now) s).piece → new_scope ≡ (stated ways scope guard (top 0 now) s).scope
      → behind new (stated_all ways new_scope guard (top 0 new) rest).piece ≡ whole
  more_adds scope new_scope guard now new whole s rest is h k =
      let x = stated ways scope guard (top 0 now) s in
      ap (λ (c : Scope). behind new (stated_all ways c guard (top 0 new) rest).piece) k
      ∙ then_adds now new (behind new (stated_all ways x.scope guard (top 0 new) rest).piece) x.piece (λ t. (stated_all ways x.scope guard t rest).piece) h refl
      ∙ is

  pub more_scope : (scope new_scope whole : Scope) (guard : Expr) (now new : Piece) (s : StmtTree) (rest : StmtTrees)
      → (stated_all ways scope guard (top 0 now) (stmts.Then s rest)).scope ≡ whole
      → new ≡ behind now (stated ways scope guard (top 0 now) s).piece → new_scope ≡ (stated ways scope guard (top 0 now) s).scope
      → (stated_all ways new_scope guard (top 0 new) rest).scope ≡ whole
  more_scope scope new_scope whole guard now new s rest is h k =
      let x = stated ways scope guard (top 0 now) s in
      ap (λ (c : Scope). (stated_all ways c guard (top 0 new) rest).scope) k
      ∙ ap (λ (t : ℕ). (stated_all ways x.scope guard t rest).scope) (then_top now new x.piece h)
      ∙ is

-- ---- lists

pub each_more : (all : List Stmt) (i : ℕ) (s : Stmt) → i < length all → s ≡ get_or all i s → stmt_trees (drop i all) ≡ stmts.Then (stmt_tree s) (stmt_trees (drop (i + 1) all))
each_more [] i s within is = absurd (omega arith)
each_more (x ∷ xs) zero s within is = ap (λ (t : Stmt). stmts.Then (stmt_tree t) (stmt_trees xs)) (sym is)
each_more (x ∷ xs) (suc i) s within is =
    let e : suc i + 1 ≡ suc (i + 1) = omega arith in
    each_more xs i s (omega arith) is ∙ ap (λ (j : ℕ). stmts.Then (stmt_tree s) (stmt_trees (drop j (x ∷ xs)))) (sym e)

pub item_more : {A B : Type 0} (f : A → B) (all : List A) (i : ℕ) (x : A) → i < length all → x ≡ get_or all i x → map f (drop i all) ≡ f x ∷ map f (drop (i + 1) all)
item_more f [] i s within is = absurd (omega arith)
item_more f (x ∷ xs) zero s within is = ap (λ t. f t ∷ map f xs) (sym is)
item_more f (x ∷ xs) (suc i) s within is =
    let e : suc i + 1 ≡ suc (i + 1) = omega arith in
    item_more f xs i s (omega arith) is ∙ ap (λ (j : ℕ). f s ∷ map f (drop j (x ∷ xs))) (sym e)

-- ---- calls

module _ {S : Type 0} (scenes : Scenes S) where
  pub deeper : (levels : ℕ) (s : S) (guard : Expr) (from : ℕ) (n : List ℕ) → 0 < levels → calls_within scenes levels s guard from n ≡ calls_piece scenes (calls_within scenes (levels - 1)) guard from (scenes.callees s n)
  deeper zero s guard from n some = absurd (omega arith)
  deeper (suc levels) s guard from n some =
      let e : suc levels - 1 ≡ levels = omega arith in
      ap (λ (k : ℕ). calls_piece scenes (calls_within scenes k) guard from (scenes.callees s n)) (sym e)

  -- what is left of what is called puts the same behind
  pub called_more : (calls : S → Guarded) (guard : Expr) (now new whole : Piece) (c : S × Option Expr) (cs : List (S × Option Expr))
      → behind now (calls_piece scenes calls guard (top 0 now) (c ∷ cs)) ≡ whole → new ≡ behind now (call_piece scenes calls c.0 c.1 guard (top 0 now))
      → behind new (calls_piece scenes calls guard (top 0 new) cs) ≡ whole
  called_more calls guard now new whole c cs is h =
      then_adds now new (behind new (calls_piece scenes calls guard (top 0 new) cs)) (call_piece scenes calls c.0 c.1 guard (top 0 now)) (λ t. calls_piece scenes calls guard t cs) h refl
      ∙ is
