-- What is spelled as statements is read.
use Rattle.std.proofs.Common.{◌≡◌, ℕ, zero, suc, ◌+◌, ◌-◌, ◌<◌, ◌≤◌, Bool, true, false, cond, List, [], ◌∷◌, ◌++◌, length, Option, Some, None, refl, sym, ap, subst, ◌∙◌, append_assoc, arith, max}
use Rattle.lisa_tree.specs.declared.tokens.Keyword.TheVariants as keywords
use Rattle.lisa_tree.specs.declared.tokens.Shape.{Shape}
use Rattle.lisa_tree.specs.declared.tokens.Sign.TheVariants as signs
use Rattle.lisa_tree.specs.declared.tokens.TokenPart.TheVariants as parts
use Rattle.lisa_tree.specs.Expressions as expressions
use Rattle.lisa_tree.specs.Expressions.{ExprTree, expr_depth}
use Rattle.lisa_tree.specs.Statements as statements
use Rattle.lisa_tree.specs.Statements.{HeadTree, StmtTree, StmtTrees, head_depth, stmt_depth, stmts_depth}
use Rattle.lisa_tree.specs.Grammar as grammar
use Rattle.lisa_tree.specs.Grammar.{Toks, mark, SpellsExpr, SpellsPlace, SpellsHead, SpellsStmt, SpellsStmts, shape_tokens, call_end}
use Rattle.lisa_words.specs.Steps.{◌>>=◌}
use Rattle.lisa_behav_reader.specs.Past.{past_of}
use Rattle.lisa_behav_reader.specs.Reading.{whole, reads, name_of}
use Rattle.lisa_behav_reader.specs.StmtReading.{one, many, Answer, expr, ends, assign_of, element_of, call_end_of, pipe_call, stage_call, stage_of, control_of, method_of, child_of, named_of, output_of, initial_of, value_of, local_of, test_of, set_of, head, head_from, head_of, block_of, else_of, if_of, while_of, for_of, one_of, next_of, many_of, stmts}
use Rattle.lisa_behav_reader.proofs.ExprComplete.{front_binds, complete}
use Rattle.lisa_behav_reader.proofs.StmtSound.{not_else}
use Rattle.lisa_behav_reader.proofs.StmtEquation.{stmts_is}

-- an expression up to a token that holds on to nothing
pub expression : (n : ℕ) (xs rest : Toks) (e : ExprTree) → SpellsExpr 0 xs e → expr_depth e ≤ n → front_binds rest ≤ 0 → expr n (xs ++ rest) ≡ Some (e, rest)
expression n xs rest e d le stops = let c = complete d in c.entire n rest le stops

-- a statement begins with neither `else` nor `}`
pub record Starts (ts : Toks) : Type 0 where
  pub goes : ends ts ≡ false
  pub free : not_else ts ≡ true

place_starts : {ts : Toks} {place : ExprTree} → SpellsPlace ts place → (rest : Toks) → Starts (ts ++ rest)
place_starts grammar.named rest = record { goes = refl; free = refl }
place_starts (grammar.element d is) rest = rw is (record { goes = refl; free = refl })
place_starts grammar.output rest = record { goes = refl; free = refl }

starts : {c : Bool} {ts : Toks} {s : StmtTree} → SpellsStmt c ts s → (rest : Toks) → Starts (ts ++ rest)
starts grammar.empty rest = record { goes = refl; free = refl }
starts (grammar.block d is) rest = rw is (record { goes = refl; free = refl })
starts grammar.bare rest = record { goes = refl; free = refl }
starts (grammar.local d is) rest = rw is (record { goes = refl; free = refl })
starts (grammar.assign {xs = xs} {ys = ys} p d is) rest =
    subst (λ (u : Toks). Starts (u ++ rest)) (sym is) (subst Starts (sym (append_assoc xs (mark signs.Equal ∷ (ys ++ mark signs.Semicolon ∷ [])) rest)) (place_starts p ((mark signs.Equal ∷ (ys ++ mark signs.Semicolon ∷ [])) ++ rest)))
starts (grammar.when d f is) rest = rw is (record { goes = refl; free = refl })
starts (grammar.choose d f g is) rest = rw is (record { goes = refl; free = refl })
starts (grammar.while d f is) rest = rw is (record { goes = refl; free = refl })
starts (grammar.for d f is) rest = rw is (record { goes = refl; free = refl })
starts grammar.call rest = record { goes = refl; free = refl }
starts grammar.stall rest = record { goes = refl; free = refl }
starts grammar.flush rest = record { goes = refl; free = refl }
starts grammar.execute rest = record { goes = refl; free = refl }
starts grammar.shift rest = record { goes = refl; free = refl }

ends_free : (ts : Toks) → ends ts ≡ true → not_else ts ≡ true
ends_free [] e = refl
ends_free (parts.Sign signs.CloseBrace ∷ ts) e = refl
ends_free _ e = absurd cc

all_free : {ts : Toks} {all : StmtTrees} → SpellsStmts ts all → (rest : Toks) → ends rest ≡ true → not_else (ts ++ rest) ≡ true
all_free grammar.none rest e = ends_free rest e
all_free (grammar.some {xs = xs} {ys = ys} d f is) rest e =
    let s = starts d (ys ++ rest) in
    ap (λ (l : Toks). not_else (l ++ rest)) is ∙ ap not_else (append_assoc xs ys rest) ∙ s.free

else_stops : (e : ExprTree) (s : StmtTree) (n : ℕ) (ts : Toks) → not_else ts ≡ true → else_of stmts e s n ts ≡ Some (statements.If e s, ts)
unfolding else_of
else_stops e s n (parts.Reserved keywords.Else ∷ ts) free = absurd cc
else_stops e s n ts free = refl

-- ---- parts that aren't statements

assign_there : (n : ℕ) (place value : ExprTree) (ys rest : Toks) → SpellsExpr 0 ys value → expr_depth value ≤ n - 1 → assign_of place n (mark signs.Equal ∷ (ys ++ (mark signs.Semicolon ∷ rest))) ≡ Some (statements.Assign place value, rest)
unfolding assign_of
assign_there n place value ys rest d le =
    ap (λ (z : Option (ExprTree × Toks)). z >>= λ v. past_of signs.Semicolon v.1 >>= λ after. Some (statements.Assign place v.0, after)) (expression (n - 1) ys (mark signs.Semicolon ∷ rest) value d le (omega arith))

element_there : (n : ℕ) (name : List ℕ) (i value : ExprTree) (xs ys rest : Toks) → SpellsExpr 0 xs i → SpellsExpr 0 ys value → expr_depth i ≤ n - 2 → expr_depth value ≤ n - 1
    → element_of name n (xs ++ (mark signs.CloseSquare ∷ mark signs.Equal ∷ (ys ++ (mark signs.Semicolon ∷ rest)))) ≡ Some (statements.Assign (expressions.Element name i) value, rest)
unfolding element_of
element_there n name i value xs ys rest d e less le =
    ap (λ (z : Option (ExprTree × Toks)). z >>= λ x. past_of signs.CloseSquare x.1 >>= λ after. assign_of (expressions.Element name x.0) n after) (expression (n - 2) xs (mark signs.CloseSquare ∷ mark signs.Equal ∷ (ys ++ (mark signs.Semicolon ∷ rest))) i d less (omega arith))
    ∙ assign_there n (expressions.Element name i) value ys rest e le

initial_there : (n : ℕ) (shape : Shape) (name : List ℕ) (value : ExprTree) (ys rest : Toks) → SpellsExpr 0 ys value → expr_depth value ≤ n - 1
    → initial_of shape name n (mark signs.Equal ∷ (ys ++ (mark signs.Semicolon ∷ rest))) ≡ Some (statements.Local shape name (Some value), rest)
unfolding initial_of
initial_there n shape name value ys rest d le =
    ap (λ (z : Option (ExprTree × Toks)). z >>= λ v. past_of signs.Semicolon v.1 >>= λ after. Some (statements.Local shape name (Some v.0), after)) (expression (n - 1) ys (mark signs.Semicolon ∷ rest) value d le (omega arith))

pub test_there : (n : ℕ) (e : ExprTree) (xs us : Toks) → SpellsExpr 0 xs e → expr_depth e ≤ n → test_of n (mark signs.OpenRound ∷ (xs ++ (mark signs.CloseRound ∷ us))) ≡ Some (e, us)
unfolding test_of
test_there n e xs us d le =
    ap (λ (z : Option (ExprTree × Toks)). z >>= λ x. past_of signs.CloseRound x.1 >>= λ after. Some (x.0, after)) (expression n xs (mark signs.CloseRound ∷ us) e d le (omega arith))

set_there : (n : ℕ) (name : List ℕ) (e : ExprTree) (xs us : Toks) → SpellsExpr 0 xs e → expr_depth e ≤ n → front_binds us ≤ 0 → set_of n (parts.Named name ∷ mark signs.Equal ∷ (xs ++ us)) ≡ Some ((name, e), us)
unfolding set_of
set_there n name e xs us d le stops = ap (λ (z : Option (ExprTree × Toks)). z >>= λ v. Some ((name, v.0), v.1)) (expression n xs us e d le stops)

from_there : (n : ℕ) (shape : Option Shape) (name next : List ℕ) (first test step : ExprTree) (xs ys zs us : Toks) → SpellsExpr 0 xs first → SpellsExpr 0 ys test → SpellsExpr 0 zs step
    → expr_depth first ≤ n → expr_depth test ≤ n → expr_depth step ≤ n → front_binds us ≤ 0
    → head_from shape n (parts.Named name ∷ mark signs.Equal ∷ (xs ++ (mark signs.Semicolon ∷ (ys ++ (mark signs.Semicolon ∷ parts.Named next ∷ mark signs.Equal ∷ (zs ++ us)))))) ≡ Some (head shape (name, first) test (next, step), us)
unfolding head_from
from_there n shape name next first test step xs ys zs us d e f ld le lf stops =
    let tail : Toks = mark signs.Semicolon ∷ parts.Named next ∷ mark signs.Equal ∷ (zs ++ us) in
    ap (λ (z : Option ((List ℕ × ExprTree) × Toks)). z >>= λ first. past_of signs.Semicolon first.1 >>= λ a. expr n a >>= λ test. past_of signs.Semicolon test.1 >>= λ b. set_of n b >>= λ step. Some (head shape first.0 test.0 step.0, step.1))
    (set_there n name first xs (mark signs.Semicolon ∷ (ys ++ tail)) d ld (omega arith))
    ∙ ap (λ (z : Option (ExprTree × Toks)). z >>= λ test. past_of signs.Semicolon test.1 >>= λ b. set_of n b >>= λ step. Some (head shape (name, first) test.0 step.0, step.1)) (expression n ys tail test e le (omega arith))
    ∙ ap (λ (z : Option ((List ℕ × ExprTree) × Toks)). z >>= λ step. Some (head shape (name, first) test step.0, step.1)) (set_there n next step zs us f lf stops)

with_shape : (n : ℕ) (shape : Option Shape) (name : List ℕ) (us : Toks) → head_of n (shape_tokens shape ++ (parts.Named name ∷ us)) ≡ head_from shape n (parts.Named name ∷ us)
unfolding head_of
with_shape n None name us = refl
with_shape n (Some shape) name us = refl

head_there : (n : ℕ) (ts us : Toks) (h : HeadTree) → SpellsHead ts h → head_depth h ≤ n → front_binds us ≤ 0 → head_of n (ts ++ us) ≡ Some (h, us)
head_there n ts us h s le stops =
    let xs = s.first in
    let ys = s.test in
    let zs = s.step in
    let inner : Toks = parts.Named h.next ∷ mark signs.Equal ∷ zs in
    let body : Toks = mark signs.Equal ∷ (xs ++ (mark signs.Semicolon ∷ (ys ++ (mark signs.Semicolon ∷ inner)))) in
    let regrouped : ts ++ us ≡ shape_tokens h.shape ++ (parts.Named h.name ∷ mark signs.Equal ∷ (xs ++ (mark signs.Semicolon ∷ (ys ++ (mark signs.Semicolon ∷ parts.Named h.next ∷ mark signs.Equal ∷ (zs ++ us)))))) =
    ap (λ (l : Toks). l ++ us) s.whole ∙ append_assoc (shape_tokens h.shape) (parts.Named h.name ∷ body) us
    ∙ ap (λ (l : Toks). shape_tokens h.shape ++ (parts.Named h.name ∷ mark signs.Equal ∷ l)) (append_assoc xs (mark signs.Semicolon ∷ (ys ++ (mark signs.Semicolon ∷ inner))) us ∙ ap (λ (l : Toks). xs ++ (mark signs.Semicolon ∷ l)) (append_assoc ys (mark signs.Semicolon ∷ inner) us)) in
    ap (head_of n) regrouped ∙ with_shape n h.shape h.name _ ∙ from_there n h.shape h.name h.next h.first h.test h.step xs ys zs us s.spells_first s.spells_test s.spells_step (omega arith) (omega arith) (omega arith) stops

-- ---- what is spelled is read

assign_complete : (n : ℕ) (place value : ExprTree) (xs ys rest : Toks) → SpellsPlace xs place → SpellsExpr 0 ys value → expr_depth place ≤ n → expr_depth value ≤ n → one_of stmts (suc n) (xs ++ (mark signs.Equal ∷ (ys ++ (mark signs.Semicolon ∷ rest)))) ≡ Some (statements.Assign place value, rest)
unfolding one_of named_of output_of
assign_complete n place value xs ys rest grammar.named d lp lv = assign_there (suc n) place value ys rest d (omega arith)
assign_complete n place value xs ys rest (grammar.element {name = name} {xs = is} {index = i} e same) d lp lv =
    let tail : Toks = mark signs.Equal ∷ (ys ++ (mark signs.Semicolon ∷ rest)) in
    ap (λ (l : Toks). one_of stmts (suc n) (l ++ tail)) same ∙ ap (λ (l : Toks). one_of stmts (suc n) (parts.Named name ∷ mark signs.OpenSquare ∷ l)) (append_assoc is (mark signs.CloseSquare ∷ []) tail)
    ∙ element_there (suc n) name i value is ys rest e d (omega arith) (omega arith)
assign_complete n place value xs ys rest grammar.output d lp lv = assign_there (suc n) place value ys rest d (omega arith)

stmt_positive : (s : StmtTree) → 0 < stmt_depth s
stmt_positive (statements.Block all) = omega arith
stmt_positive (statements.Local shape name value) = omega arith
stmt_positive (statements.Assign place value) = omega arith
stmt_positive (statements.If e s) = omega arith
stmt_positive (statements.IfElse e s u) = omega arith
stmt_positive (statements.While e s) = omega arith
stmt_positive (statements.For h s) = omega arith
stmt_positive _ = omega arith

-- one step, where there is room for a statement
by_step : (n : ℕ) (s : StmtTree) (us rest : Toks) → stmt_depth s ≤ n → ((m : ℕ) → n ≡ suc m → one_of stmts (suc m) us ≡ Some (s, rest)) → stmts (one n us) ≡ Some (s, rest)
by_step zero s us rest le f = absurd (omega (arith, stmt_positive s))
by_step (suc m) s us rest le f = stmts_is (one (suc m) us) ∙ f m refl

mutual
  unfolding one_of block_of local_of if_of while_of for_of else_of many_of named_of child_of method_of control_of stage_of call_end_of

  pub stmt_complete : {c : Bool} {ts : Toks} {s : StmtTree} → SpellsStmt c ts s → (n : ℕ) (rest : Toks) → stmt_depth s ≤ n → (c ≡ false → not_else rest ≡ true) → stmts (one n (ts ++ rest)) ≡ Some (s, rest)
  stmt_complete grammar.empty n rest le free = by_step n statements.Empty _ rest le (λ m same. refl)
  stmt_complete (grammar.block {xs = xs} {all = all} d is) n rest le free = by_step n (statements.Block all) _ rest le (λ m same.
      let regrouped = ap (λ (l : Toks). l ++ rest) is ∙ ap (λ (l : Toks). mark signs.OpenBrace ∷ l) (append_assoc xs (mark signs.CloseBrace ∷ []) rest) in
      ap (one_of stmts (suc m)) regrouped
      ∙ ap (λ (z : Option (StmtTrees × Toks)). z >>= λ x. past_of signs.CloseBrace x.1 >>= λ after. Some (statements.Block x.0, after)) (stmts_complete d (suc m - 1) (mark signs.CloseBrace ∷ rest) (omega arith) refl))
  stmt_complete (grammar.bare {shape = shape} {name = name}) n rest le free = by_step n (statements.Local shape name None) _ rest le (λ m same. refl)
  stmt_complete (grammar.local {shape = shape} {name = name} {xs = xs} {value = value} d is) n rest le free = by_step n (statements.Local shape name (Some value)) _ rest le (λ m same.
      let regrouped = ap (λ (l : Toks). l ++ rest) is ∙ ap (λ (l : Toks). parts.TypeWord shape ∷ parts.Named name ∷ mark signs.Equal ∷ l) (append_assoc xs (mark signs.Semicolon ∷ []) rest) in
      ap (one_of stmts (suc m)) regrouped ∙ initial_there (suc m) shape name value xs rest d (omega arith))
  stmt_complete (grammar.assign {xs = xs} {ys = ys} {place = place} {value = value} p d is) n rest le free = by_step n (statements.Assign place value) _ rest le (λ m same.
      let regrouped = ap (λ (l : Toks). l ++ rest) is ∙ append_assoc xs (mark signs.Equal ∷ (ys ++ mark signs.Semicolon ∷ [])) rest ∙ ap (λ (l : Toks). xs ++ (mark signs.Equal ∷ l)) (append_assoc ys (mark signs.Semicolon ∷ []) rest) in
      ap (one_of stmts (suc m)) regrouped ∙ assign_complete m place value xs ys rest p d (omega arith) (omega arith))
  stmt_complete (grammar.when {xs = xs} {ys = ys} {test = e} {s = s} d f is) n rest le free = by_step n (statements.If e s) _ rest le (λ m same.
      let regrouped = ap (λ (l : Toks). l ++ rest) is ∙ ap (λ (l : Toks). parts.Reserved keywords.If ∷ mark signs.OpenRound ∷ l) (append_assoc xs (mark signs.CloseRound ∷ ys) rest) in
      ap (one_of stmts (suc m)) regrouped
      ∙ ap (λ (z : Option (ExprTree × Toks)). z >>= λ x. stmts (one (suc m - 1) x.1) >>= λ y. else_of stmts x.0 y.0 (suc m) y.1) (test_there (suc m - 1) e xs (ys ++ rest) d (omega arith))
      ∙ ap (λ (z : Answer). z >>= λ y. else_of stmts e y.0 (suc m) y.1) (stmt_complete f (suc m - 1) rest (omega arith) (λ _. free refl))
      ∙ else_stops e s (suc m) rest (free refl))
  stmt_complete (grammar.choose {xs = xs} {ys = ys} {zs = zs} {test = e} {s = s} {u = u} d f g is) n rest le free = by_step n (statements.IfElse e s u) _ rest le (λ m same.
      let regrouped = ap (λ (l : Toks). l ++ rest) is ∙ ap (λ (l : Toks). parts.Reserved keywords.If ∷ mark signs.OpenRound ∷ l) (append_assoc xs (mark signs.CloseRound ∷ (ys ++ (parts.Reserved keywords.Else ∷ zs))) rest) ∙ ap (λ (l : Toks). parts.Reserved keywords.If ∷ mark signs.OpenRound ∷ (xs ++ (mark signs.CloseRound ∷ l))) (append_assoc ys (parts.Reserved keywords.Else ∷ zs) rest) in
      let tail : Toks = parts.Reserved keywords.Else ∷ (zs ++ rest) in
      ap (one_of stmts (suc m)) regrouped
      ∙ ap (λ (z : Option (ExprTree × Toks)). z >>= λ x. stmts (one (suc m - 1) x.1) >>= λ y. else_of stmts x.0 y.0 (suc m) y.1) (test_there (suc m - 1) e xs (ys ++ tail) d (omega arith))
      ∙ ap (λ (z : Answer). z >>= λ y. else_of stmts e y.0 (suc m) y.1) (stmt_complete f (suc m - 1) tail (omega arith) (λ h. absurd cc))
      ∙ ap (λ (z : Answer). z >>= λ y. Some (statements.IfElse e s y.0, y.1)) (stmt_complete g (suc m - 1) rest (omega arith) free))
  stmt_complete (grammar.while {xs = xs} {ys = ys} {test = e} {s = s} d f is) n rest le free = by_step n (statements.While e s) _ rest le (λ m same.
      let regrouped = ap (λ (l : Toks). l ++ rest) is ∙ ap (λ (l : Toks). parts.Reserved keywords.While ∷ mark signs.OpenRound ∷ l) (append_assoc xs (mark signs.CloseRound ∷ ys) rest) in
      ap (one_of stmts (suc m)) regrouped
      ∙ ap (λ (z : Option (ExprTree × Toks)). z >>= λ x. stmts (one (suc m - 1) x.1) >>= λ y. Some (statements.While x.0 y.0, y.1)) (test_there (suc m - 1) e xs (ys ++ rest) d (omega arith))
      ∙ ap (λ (z : Answer). z >>= λ y. Some (statements.While e y.0, y.1)) (stmt_complete f (suc m - 1) rest (omega arith) free))
  stmt_complete (grammar.for {xs = xs} {ys = ys} {head = h} {s = s} d f is) n rest le free = by_step n (statements.For h s) _ rest le (λ m same.
      let regrouped = ap (λ (l : Toks). l ++ rest) is ∙ ap (λ (l : Toks). parts.Reserved keywords.For ∷ mark signs.OpenRound ∷ l) (append_assoc xs (mark signs.CloseRound ∷ ys) rest) in
      ap (one_of stmts (suc m)) regrouped
      ∙ ap (λ (z : Option (HeadTree × Toks)). z >>= λ x. past_of signs.CloseRound x.1 >>= λ after. stmts (one (suc m - 1) after) >>= λ y. Some (statements.For x.0 y.0, y.1)) (head_there (suc m - 1) xs (mark signs.CloseRound ∷ (ys ++ rest)) h d (omega arith) (omega arith))
      ∙ ap (λ (z : Answer). z >>= λ y. Some (statements.For h y.0, y.1)) (stmt_complete f (suc m - 1) rest (omega arith) free))
  stmt_complete (grammar.call {name = name}) n rest le free = by_step n (statements.Call name) _ rest le (λ m same. refl)
  stmt_complete (grammar.stall {pipe = pipe} {stage = stage}) n rest le free = by_step n (statements.Stall pipe stage) _ rest le (λ m same. refl)
  stmt_complete (grammar.flush {pipe = pipe} {stage = stage}) n rest le free = by_step n (statements.Flush pipe stage) _ rest le (λ m same. refl)
  stmt_complete (grammar.execute {pipe = pipe}) n rest le free = by_step n (statements.Execute pipe) _ rest le (λ m same. refl)
  stmt_complete (grammar.shift {pipe = pipe}) n rest le free = by_step n (statements.Shift pipe) _ rest le (λ m same. refl)

  pub stmts_complete : {ts : Toks} {all : StmtTrees} → SpellsStmts ts all → (n : ℕ) (rest : Toks) → stmts_depth all ≤ n → ends rest ≡ true → stmts (many n (ts ++ rest)) ≡ Some (all, rest)
  stmts_complete grammar.none n rest le e = stmts_is (many n rest) ∙ rw e refl
  stmts_complete (grammar.some {xs = xs} {ys = ys} {s = s} {all = all} d f is) n rest le e =
      let regrouped = ap (λ (l : Toks). l ++ rest) is ∙ append_assoc xs ys rest in
      let begins = starts d (ys ++ rest) in
      ap (λ (l : Toks). stmts (many n l)) regrouped ∙ stmts_is (many n (xs ++ (ys ++ rest)))
      ∙ ap (λ (b : Bool). cond b (Some (statements.End, xs ++ (ys ++ rest))) (next_of stmts n (xs ++ (ys ++ rest)))) begins.goes
      ∙ ap (λ (z : Answer). z >>= λ x. stmts (many n x.1) >>= λ more. Some (statements.Then x.0 more.0, more.1)) (stmt_complete d n (ys ++ rest) (omega arith) (λ _. all_free f rest e))
      ∙ ap (λ (z : Option (StmtTrees × Toks)). z >>= λ more. Some (statements.Then s more.0, more.1)) (stmts_complete f n rest (omega arith) e)
