-- Expressions, statements and items of an activation that well-formed tokens spell.
use Rattle.std.proofs.Common.{ℕ, Bool, [], ◌∷◌, ◌++◌, Option, Some, None, subst}
use Rattle.std.specs.Prelude.{IfSome}
use Rattle.lisa_tree.specs.declared.tokens.Keyword.TheVariants as keywords
use Rattle.lisa_tree.specs.declared.tokens.Shape.{Shape}
use Rattle.lisa_tree.specs.declared.tokens.Sign.TheVariants as signs
use Rattle.lisa_tree.specs.declared.tokens.TokenPart.TheVariants as parts
use Rattle.lisa_tree.specs.Operators.{sign_of}
use Rattle.lisa_tree.specs.Expressions.{ExprTree}
use Rattle.lisa_tree.specs.Statements.{HeadTree, StmtTree, StmtTrees}
use Rattle.lisa_tree.specs.Activations.{ActTree, ActTrees}
use Rattle.lisa_tree.specs.Grammar as grammar
use Rattle.lisa_tree.specs.Grammar.{Toks, mark, shape_tokens, SpellsExpr, SpellsPlace, SpellsHead, SpellsStmt, SpellsStmts}
use Rattle.lisa_tree.specs.DescriptionGrammar as items
use Rattle.lisa_tree.specs.DescriptionGrammar.{word, SpellsAct, SpellsActs}
use Rattle.spelled_promises.specs.Words.{IsType}
use Rattle.spelled_promises.specs.Trees.{IsWellFormedExpr, IsTarget, IsWellFormedHead, IsWellFormedStmt, IsWellFormedStmts, IsWellFormedAct, IsWellFormedActs}
use Rattle.spelled_promises.proofs.Lexed.{AreFormed, front, back}

-- ---- expressions

pub expr : {level : ℕ} {ts : Toks} {e : ExprTree} → SpellsExpr level ts e → AreFormed ts → IsWellFormedExpr e
expr grammar.number h = h.0
expr (grammar.pattern binary small) h = small
expr grammar.named h = h.0
expr (grammar.element {xs = xs} d whole) h = let t = subst AreFormed whole h in (t.0, expr d (front xs (mark signs.CloseSquare ∷ []) t.1.1))
expr grammar.input h = h.1.1.0
expr grammar.decoded h = tt
expr grammar.boundary h = (h.1.1.0, h.1.1.1.1.0, h.1.1.1.1.1.1.0, h.1.1.1.1.1.1.1.1.1.0)
expr (grammar.inside {xs = xs} d whole) h = let t = subst AreFormed whole h in expr d (front xs (mark signs.CloseRound ∷ []) t.1)
expr (grammar.complement d) h = expr d h.1
expr (grammar.negate d) h = expr d h.1
expr (grammar.cast d) h = (h.1.0, expr d h.1.1.1)
expr (grammar.two o {xs = xs} {ys = ys} level d f whole) h =
    let t = subst AreFormed whole h in
    (expr d (front xs (mark (sign_of o) ∷ ys) t), expr f (back xs (mark (sign_of o) ∷ ys) t).1)
expr (grammar.choose {xs = xs} {ys = ys} {zs = zs} c d f whole) h =
    let t = subst AreFormed whole h in
    let u = (back xs (mark signs.Question ∷ (ys ++ (mark signs.Colon ∷ zs))) t).1 in
    (expr c (front xs (mark signs.Question ∷ (ys ++ (mark signs.Colon ∷ zs))) t), expr d (front ys (mark signs.Colon ∷ zs) u), expr f (back ys (mark signs.Colon ∷ zs) u).1)
expr (grammar.tighter d) h = expr d h

pub target : {ts : Toks} {e : ExprTree} → SpellsPlace ts e → AreFormed ts → IsTarget e
target grammar.named h = h.0
target (grammar.element {xs = xs} d whole) h = let t = subst AreFormed whole h in (t.0, expr d (front xs (mark signs.CloseSquare ∷ []) t.1.1))
target grammar.output h = h.1.1.0

-- ---- statements

type_of : (shape : Option Shape) → AreFormed (shape_tokens shape) → IfSome shape IsType
type_of None h = tt
type_of (Some shape) h = h.0

head_formed : {ts : Toks} {head : HeadTree} → SpellsHead ts head → AreFormed ts → IsWellFormedHead head
head_formed {head = head} d h =
    let last : Toks = parts.Named head.next ∷ mark signs.Equal ∷ d.step in
    let tests : Toks = d.test ++ (mark signs.Semicolon ∷ last) in
    let named : Toks = parts.Named head.name ∷ mark signs.Equal ∷ (d.first ++ (mark signs.Semicolon ∷ tests)) in
    let t = subst AreFormed d.whole h in
    let u = back (shape_tokens head.shape) named t in
    let v = (back d.first (mark signs.Semicolon ∷ tests) u.1.1).1 in
    let w = (back d.test (mark signs.Semicolon ∷ last) v).1 in
    record {
      shape = type_of head.shape (front (shape_tokens head.shape) named t);
      name = u.0;
      first = expr d.spells_first (front d.first (mark signs.Semicolon ∷ tests) u.1.1);
      test = expr d.spells_test (front d.test (mark signs.Semicolon ∷ last) v);
      next = w.0;
      step = expr d.spells_step w.1.1;
    }

mutual
  stmt : {closed : Bool} {ts : Toks} {s : StmtTree} → SpellsStmt closed ts s → AreFormed ts → IsWellFormedStmt s
  stmt grammar.empty h = tt
  stmt (grammar.block {xs = xs} d whole) h = let t = subst AreFormed whole h in stmts d (front xs (mark signs.CloseBrace ∷ []) t.1)
  stmt grammar.bare h = (h.0, h.1.0, tt)
  stmt (grammar.local {xs = xs} d whole) h = let t = subst AreFormed whole h in (t.0, t.1.0, expr d (front xs (mark signs.Semicolon ∷ []) t.1.1.1))
  stmt (grammar.assign {xs = xs} {ys = ys} p d whole) h =
      let t = subst AreFormed whole h in
      let u = (back xs (mark signs.Equal ∷ (ys ++ mark signs.Semicolon ∷ [])) t).1 in
      (target p (front xs (mark signs.Equal ∷ (ys ++ mark signs.Semicolon ∷ [])) t), expr d (front ys (mark signs.Semicolon ∷ []) u))
  stmt (grammar.when {xs = xs} {ys = ys} d b whole) h =
      let t = subst AreFormed whole h in
      (expr d (front xs (mark signs.CloseRound ∷ ys) t.1.1), stmt b (back xs (mark signs.CloseRound ∷ ys) t.1.1).1)
  stmt (grammar.choose {xs = xs} {ys = ys} {zs = zs} d b c whole) h =
      let t = subst AreFormed whole h in
      let rest : Toks = ys ++ (word keywords.Else ∷ zs) in
      let u = (back xs (mark signs.CloseRound ∷ rest) t.1.1).1 in
      (expr d (front xs (mark signs.CloseRound ∷ rest) t.1.1), stmt b (front ys (word keywords.Else ∷ zs) u), stmt c (back ys (word keywords.Else ∷ zs) u).1)
  stmt (grammar.while {xs = xs} {ys = ys} d b whole) h =
      let t = subst AreFormed whole h in
      (expr d (front xs (mark signs.CloseRound ∷ ys) t.1.1), stmt b (back xs (mark signs.CloseRound ∷ ys) t.1.1).1)
  stmt (grammar.for {xs = xs} {ys = ys} d b whole) h =
      let t = subst AreFormed whole h in
      (head_formed d (front xs (mark signs.CloseRound ∷ ys) t.1.1), stmt b (back xs (mark signs.CloseRound ∷ ys) t.1.1).1)
  stmt grammar.call h = h.0
  stmt grammar.stall h = (h.0, h.1.1.0)
  stmt grammar.flush h = (h.0, h.1.1.0)
  stmt grammar.execute h = h.0
  stmt grammar.shift h = h.0

  pub stmts : {ts : Toks} {all : StmtTrees} → SpellsStmts ts all → AreFormed ts → IsWellFormedStmts all
  stmts grammar.none h = tt
  stmts (grammar.some {xs = xs} {ys = ys} d rest whole) h = let t = subst AreFormed whole h in (stmt d (front xs ys t), stmts rest (back xs ys t))

-- ---- activations

mutual
  act : {ts : Toks} {a : ActTree} → SpellsAct ts a → AreFormed ts → IsWellFormedAct a
  act items.start h = h.0
  act (items.choose {xs = xs} {ys = ys} d b whole) h =
      let t = subst AreFormed whole h in
      let rest : Toks = mark signs.CloseRound ∷ mark signs.OpenBrace ∷ (ys ++ mark signs.CloseBrace ∷ []) in
      (expr d (front xs rest t.1.1), acts b (front ys (mark signs.CloseBrace ∷ []) (back xs rest t.1.1).1.1))
  act (items.otherwise {xs = xs} {ys = ys} {zs = zs} d b c whole) h =
      let t = subst AreFormed whole h in
      let last : Toks = mark signs.CloseBrace ∷ word keywords.Else ∷ mark signs.OpenBrace ∷ (zs ++ mark signs.CloseBrace ∷ []) in
      let rest : Toks = mark signs.CloseRound ∷ mark signs.OpenBrace ∷ (ys ++ last) in
      let u = (back xs rest t.1.1).1.1 in
      (expr d (front xs rest t.1.1), acts b (front ys last u), acts c (front zs (mark signs.CloseBrace ∷ []) (back ys last u).1.1.1))

  pub acts : {ts : Toks} {all : ActTrees} → SpellsActs ts all → AreFormed ts → IsWellFormedActs all
  acts items.none h = tt
  acts (items.one d) h = (act d h, tt)
  acts (items.more {xs = xs} {ys = ys} d rest whole) h =
      let t = subst AreFormed whole h in
      (act d (front xs (mark signs.Comma ∷ ys) t), acts rest (back xs (mark signs.Comma ∷ ys) t).1)
