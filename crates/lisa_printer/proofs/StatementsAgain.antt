-- The canonical tokens of statements and of items of an activation spell them, wherever some tokens do.
use Rattle.std.proofs.Common.{Bool, [], ◌∷◌, ◌++◌, Option, Some, None, refl, sym, subst, arith}
use Rattle.std.proofs.lemmas.List.{append-nil}
use Rattle.lisa_tree.specs.declared.tokens.Keyword.TheVariants as keywords
use Rattle.lisa_tree.specs.declared.tokens.Shape.{Shape}
use Rattle.lisa_tree.specs.declared.tokens.Sign.TheVariants as signs
use Rattle.lisa_tree.specs.declared.tokens.TokenPart.TheVariants as parts
use Rattle.lisa_tree.specs.Expressions.{ExprTree}
use Rattle.lisa_tree.specs.Statements.{HeadTree, StmtTree, StmtTrees}
use Rattle.lisa_tree.specs.Activations as activations
use Rattle.lisa_tree.specs.Activations.{ActTree, ActTrees}
use Rattle.lisa_tree.specs.Grammar as grammar
use Rattle.lisa_tree.specs.Grammar.{Toks, mark, shape_tokens, call_end, SpellsExpr, SpellsHead, SpellsStmt, SpellsStmts}
use Rattle.lisa_tree.specs.DescriptionGrammar as items
use Rattle.lisa_tree.specs.DescriptionGrammar.{word, SpellsAct, SpellsActs}
use Rattle.lisa_printer.specs.CanonicalTokens.{expr_tokens, head_tokens, stmt_tokens, stmts_tokens, act_tokens, acts_tokens}
use Rattle.lisa_printer.proofs.SoundTokens.{AreSound, sound_front, sound_back, sound_sign, sound_word}
use Rattle.lisa_printer.proofs.Replaced.{Replaces, nothing, joined, behind, one, in_rounds, in_braces, spelled_so}
use Rattle.lisa_printer.proofs.ExpressionsAgain.{again, replaced, spelled, place_again}

-- an expression at level 0
pub record IsWholeAgain (ts : Toks) (e : ExprTree) : Type 0 where
  pub replaced : Replaces ts (expr_tokens 0 e)
  pub spelled : SpellsExpr 0 (expr_tokens 0 e) e

pub whole_again : {ts : Toks} {e : ExprTree} → SpellsExpr 0 ts e → AreSound ts → IsWholeAgain ts e
whole_again d s = let h = again d s in record { replaced = replaced h; spelled = spelled h (omega arith) }

-- `word ( xs ) ys` with `xs` and `ys` replaced
call_again : Replaces call_end call_end
call_again = in_rounds nothing (one (λ n. refl) (sound_sign signs.Semicolon))

-- ---- the head of a loop

pub record IsHeadAgain (ts : Toks) (head : HeadTree) : Type 0 where
  pub replaced : Replaces ts (head_tokens head)
  pub spelled : SpellsHead (head_tokens head) head

shape_again : (shape : Option Shape) → AreSound (shape_tokens shape) → Replaces (shape_tokens shape) (shape_tokens shape)
shape_again None s = nothing
shape_again (Some shape) s = one (λ n. refl) s.0

head_again : {ts : Toks} {head : HeadTree} → SpellsHead ts head → AreSound ts → IsHeadAgain ts head
head_again {head = head} d s =
    let last : Toks = parts.Named head.next ∷ mark signs.Equal ∷ d.step in
    let tail : Toks = d.first ++ (mark signs.Semicolon ∷ (d.test ++ (mark signs.Semicolon ∷ last))) in
    let t = subst AreSound d.whole s in
    let u = sound_back (shape_tokens head.shape) (parts.Named head.name ∷ mark signs.Equal ∷ tail) t in
    let behind_first = (sound_back d.first (mark signs.Semicolon ∷ (d.test ++ (mark signs.Semicolon ∷ last))) u.1.1).1 in
    let behind_test = (sound_back d.test (mark signs.Semicolon ∷ last) behind_first).1 in
    let first = whole_again d.spells_first (sound_front d.first (mark signs.Semicolon ∷ (d.test ++ (mark signs.Semicolon ∷ last))) u.1.1) in
    let test = whole_again d.spells_test (sound_front d.test (mark signs.Semicolon ∷ last) behind_first) in
    let step = whole_again d.spells_step behind_test.1.1 in
    record {
      replaced = spelled_so d.whole
          (joined (shape_again head.shape (sound_front (shape_tokens head.shape) (parts.Named head.name ∷ mark signs.Equal ∷ tail) t))
          (behind (λ n. refl) u.0 (behind (λ n. refl) (sound_sign signs.Equal) (joined first.replaced (behind (λ n. refl) (sound_sign signs.Semicolon)
          (joined test.replaced (behind (λ n. refl) (sound_sign signs.Semicolon) (behind (λ n. refl) behind_test.0 (behind (λ n. refl) (sound_sign signs.Equal) step.replaced)))))))));
      spelled = record {
        first = expr_tokens 0 head.first;
        test = expr_tokens 0 head.test;
        step = expr_tokens 0 head.step;
        spells_first = first.spelled;
        spells_test = test.spelled;
        spells_step = step.spelled;
        whole = refl;
      };
    }

-- ---- statements

pub record IsStmtAgain (closed : Bool) (ts : Toks) (a : StmtTree) : Type 0 where
  pub replaced : Replaces ts (stmt_tokens a)
  pub spelled : SpellsStmt closed (stmt_tokens a) a

pub record AreStmtsAgain (ts : Toks) (all : StmtTrees) : Type 0 where
  pub replaced : Replaces ts (stmts_tokens all)
  pub spelled : SpellsStmts (stmts_tokens all) all

mutual
  stmt_again : {closed : Bool} {ts : Toks} {a : StmtTree} → SpellsStmt closed ts a → AreSound ts → IsStmtAgain closed ts a
  stmt_again grammar.empty s = record { replaced = one (λ n. refl) s.0; spelled = grammar.empty }
  stmt_again (grammar.block {xs = xs} d whole) s =
      let t = subst AreSound whole s in
      let h = stmts_again d (sound_front xs (mark signs.CloseBrace ∷ []) t.1) in
      record { replaced = spelled_so whole (in_braces h.replaced nothing); spelled = grammar.block h.spelled refl }
  stmt_again grammar.bare s = record { replaced = behind (λ n. refl) s.0 (behind (λ n. refl) s.1.0 (one (λ n. refl) s.1.1.0)); spelled = grammar.bare }
  stmt_again (grammar.local {xs = xs} d whole) s =
      let t = subst AreSound whole s in
      let h = whole_again d (sound_front xs (mark signs.Semicolon ∷ []) t.1.1.1) in
      record {
        replaced = spelled_so whole (behind (λ n. refl) t.0 (behind (λ n. refl) t.1.0 (behind (λ n. refl) (sound_sign signs.Equal) (joined h.replaced (one (λ n. refl) (sound_sign signs.Semicolon))))));
        spelled = grammar.local h.spelled refl;
      }
  stmt_again (grammar.assign {xs = xs} {ys = ys} p d whole) s =
      let t = subst AreSound whole s in
      let rest = (sound_back xs (mark signs.Equal ∷ (ys ++ mark signs.Semicolon ∷ [])) t).1 in
      let h = place_again p (sound_front xs (mark signs.Equal ∷ (ys ++ mark signs.Semicolon ∷ [])) t) in
      let k = whole_again d (sound_front ys (mark signs.Semicolon ∷ []) rest) in
      record {
        replaced = spelled_so whole (joined h.replaced (behind (λ n. refl) (sound_sign signs.Equal) (joined k.replaced (one (λ n. refl) (sound_sign signs.Semicolon)))));
        spelled = grammar.assign h.spelled k.spelled refl;
      }
  stmt_again (grammar.when {xs = xs} {ys = ys} d b whole) s =
      let t = subst AreSound whole s in
      let h = whole_again d (sound_front xs (mark signs.CloseRound ∷ ys) t.1.1) in
      let k = stmt_again b (sound_back xs (mark signs.CloseRound ∷ ys) t.1.1).1 in
      record { replaced = spelled_so whole (behind (λ n. refl) t.0 (in_rounds h.replaced k.replaced)); spelled = grammar.when h.spelled k.spelled refl }
  stmt_again (grammar.choose {xs = xs} {ys = ys} {zs = zs} d b c whole) s =
      let t = subst AreSound whole s in
      let tail : Toks = ys ++ (word keywords.Else ∷ zs) in
      let u = (sound_back xs (mark signs.CloseRound ∷ tail) t.1.1).1 in
      let h = whole_again d (sound_front xs (mark signs.CloseRound ∷ tail) t.1.1) in
      let k = stmt_again b (sound_front ys (word keywords.Else ∷ zs) u) in
      let l = stmt_again c (sound_back ys (word keywords.Else ∷ zs) u).1 in
      record {
        replaced = spelled_so whole (behind (λ n. refl) t.0 (in_rounds h.replaced (joined k.replaced (behind (λ n. refl) (sound_word keywords.Else) l.replaced))));
        spelled = grammar.choose h.spelled k.spelled l.spelled refl;
      }
  stmt_again (grammar.while {xs = xs} {ys = ys} d b whole) s =
      let t = subst AreSound whole s in
      let h = whole_again d (sound_front xs (mark signs.CloseRound ∷ ys) t.1.1) in
      let k = stmt_again b (sound_back xs (mark signs.CloseRound ∷ ys) t.1.1).1 in
      record { replaced = spelled_so whole (behind (λ n. refl) t.0 (in_rounds h.replaced k.replaced)); spelled = grammar.while h.spelled k.spelled refl }
  stmt_again (grammar.for {xs = xs} {ys = ys} d b whole) s =
      let t = subst AreSound whole s in
      let h = head_again d (sound_front xs (mark signs.CloseRound ∷ ys) t.1.1) in
      let k = stmt_again b (sound_back xs (mark signs.CloseRound ∷ ys) t.1.1).1 in
      record { replaced = spelled_so whole (behind (λ n. refl) t.0 (in_rounds h.replaced k.replaced)); spelled = grammar.for h.spelled k.spelled refl }
  stmt_again grammar.call s = record { replaced = behind (λ n. refl) s.0 call_again; spelled = grammar.call }
  stmt_again grammar.stall s = record { replaced = behind (λ n. refl) s.0 (behind (λ n. refl) s.1.0 (behind (λ n. refl) s.1.1.0 (behind (λ n. refl) s.1.1.1.0 (behind (λ n. refl) s.1.1.1.1.0 call_again)))); spelled = grammar.stall }
  stmt_again grammar.flush s = record { replaced = behind (λ n. refl) s.0 (behind (λ n. refl) s.1.0 (behind (λ n. refl) s.1.1.0 (behind (λ n. refl) s.1.1.1.0 (behind (λ n. refl) s.1.1.1.1.0 call_again)))); spelled = grammar.flush }
  stmt_again grammar.execute s = record { replaced = behind (λ n. refl) s.0 (behind (λ n. refl) s.1.0 (behind (λ n. refl) s.1.1.0 call_again)); spelled = grammar.execute }
  stmt_again grammar.shift s = record { replaced = behind (λ n. refl) s.0 (behind (λ n. refl) s.1.0 (behind (λ n. refl) s.1.1.0 call_again)); spelled = grammar.shift }

  pub stmts_again : {ts : Toks} {all : StmtTrees} → SpellsStmts ts all → AreSound ts → AreStmtsAgain ts all
  stmts_again grammar.none s = record { replaced = nothing; spelled = grammar.none }
  stmts_again (grammar.some {xs = xs} {ys = ys} d rest whole) s =
      let t = subst AreSound whole s in
      let h = stmt_again d (sound_front xs ys t) in
      let k = stmts_again rest (sound_back xs ys t) in
      record { replaced = spelled_so whole (joined h.replaced k.replaced); spelled = grammar.some h.spelled k.spelled refl }

-- ---- items of an activation

pub record IsActAgain (ts : Toks) (a : ActTree) : Type 0 where
  pub replaced : Replaces ts (act_tokens a)
  pub spelled : SpellsAct (act_tokens a) a

pub record AreActsAgain (ts : Toks) (all : ActTrees) : Type 0 where
  pub replaced : Replaces ts (acts_tokens all)
  pub spelled : SpellsActs (acts_tokens all) all

without_end : {ts us : Toks} → Replaces ts us → Replaces ts (us ++ [])
without_end {ts = ts} {us = us} h = subst (λ (l : Toks). Replaces ts l) (sym (append-nil us)) h

mutual
  act_again : {ts : Toks} {a : ActTree} → SpellsAct ts a → AreSound ts → IsActAgain ts a
  act_again items.start s = record { replaced = one (λ n. refl) s.0; spelled = items.start }
  act_again (items.choose {xs = xs} {ys = ys} d all whole) s =
      let t = subst AreSound whole s in
      let tail : Toks = mark signs.OpenBrace ∷ (ys ++ mark signs.CloseBrace ∷ []) in
      let u = (sound_back xs (mark signs.CloseRound ∷ tail) t.1.1).1 in
      let h = whole_again d (sound_front xs (mark signs.CloseRound ∷ tail) t.1.1) in
      let k = acts_again all (sound_front ys (mark signs.CloseBrace ∷ []) u.1) in
      record { replaced = spelled_so whole (behind (λ n. refl) t.0 (in_rounds h.replaced (in_braces k.replaced nothing))); spelled = items.choose h.spelled k.spelled refl }
  act_again (items.otherwise {xs = xs} {ys = ys} {zs = zs} d all others whole) s =
      let t = subst AreSound whole s in
      let last : Toks = word keywords.Else ∷ mark signs.OpenBrace ∷ (zs ++ mark signs.CloseBrace ∷ []) in
      let tail : Toks = mark signs.OpenBrace ∷ (ys ++ (mark signs.CloseBrace ∷ last)) in
      let u = (sound_back xs (mark signs.CloseRound ∷ tail) t.1.1).1 in
      let v = (sound_back ys (mark signs.CloseBrace ∷ last) u.1).1 in
      let h = whole_again d (sound_front xs (mark signs.CloseRound ∷ tail) t.1.1) in
      let k = acts_again all (sound_front ys (mark signs.CloseBrace ∷ last) u.1) in
      let l = acts_again others (sound_front zs (mark signs.CloseBrace ∷ []) v.1.1) in
      record {
        replaced = spelled_so whole (behind (λ n. refl) t.0 (in_rounds h.replaced (in_braces k.replaced (behind (λ n. refl) (sound_word keywords.Else) (in_braces l.replaced nothing)))));
        spelled = items.otherwise h.spelled k.spelled l.spelled refl;
      }

  pub acts_again : {ts : Toks} {all : ActTrees} → SpellsActs ts all → AreSound ts → AreActsAgain ts all
  acts_again items.none s = record { replaced = nothing; spelled = items.none }
  acts_again (items.one {a = a} d) s =
      let h = act_again d s in
      record { replaced = without_end h.replaced; spelled = subst (λ (l : Toks). SpellsActs l (activations.Then a activations.End)) (sym (append-nil (act_tokens a))) (items.one h.spelled) }
  acts_again (items.more {xs = xs} {ys = ys} d rest whole) s =
      let t = subst AreSound whole s in
      let h = act_again d (sound_front xs (mark signs.Comma ∷ ys) t) in
      let k = acts_again rest (sound_back xs (mark signs.Comma ∷ ys) t).1 in
      record { replaced = spelled_so whole (joined h.replaced (behind (λ n. refl) (sound_sign signs.Comma) k.replaced)); spelled = items.more h.spelled k.spelled refl }
