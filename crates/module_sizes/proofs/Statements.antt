-- What statements cost once they are lowered: no more than they are worth, where what they are made of costs no more.
use Rattle.std.proofs.Common.{ℕ, zero, suc, ◌+◌, ◌*◌, ◌≤◌, Bool, true, false, List, ◌∷◌, Option, None, Some, refl, arith, nat_eq, if◌then◌else◌}
use Rattle.std.specs.Option.{option_map_or}
use Rattle.lisa_words.specs.declared.words.Kind.{Kind}
use Rattle.lisa_tree.specs.declared.tokens.Shape.{Shape}
use Rattle.lisa_tree.specs.Expressions.{ExprTree}
use Rattle.lisa_tree.specs.Statements as stmts
use Rattle.lisa_tree.specs.Statements.{HeadTree, StmtTree, StmtTrees}
use Rattle.description_places.specs.Literals.{literal}
use Rattle.shape_checks.specs.declared.bounds.Bounds.{Bounds}
use Rattle.shape_checks.specs.Bounds.{bounds_of, turns}
use Rattle.step_program.specs.Programs.{Program, Expr, Const, Temp, Move}
use Rattle.step_pieces.specs.Pieces.{Piece, nothing, behind, top, held}
use Rattle.lowered_values.specs.Operands.{Operand}
use Rattle.lowered_values.specs.Templates.{as_shape, picked}
use Rattle.lowered_edges.specs.lowered_statements.Scopes.{Scope, entered}
use Rattle.lowered_edges.specs.lowered_statements.Ways.{Ways}
use Rattle.lowered_edges.specs.lowered_statements.Stated.{given, first_of, with_local, on, off, counter_of, turn_moves, all_moves, looped, stated, stated_all}
use Rattle.module_sizes.specs.Costs.{Rates, IsLongest, IsFree, moves_cost}
use Rattle.module_sizes.specs.Worths.{unit, Naming, value_worth, place_worth, statement_worth, statements_worth}
use Rattle.module_sizes.proofs.Templates.{shape_cost, held_picked_cost}
use Rattle.module_sizes.proofs.Adding.{total, moves_append, behind_cost, held_cost}
use Rattle.module_sizes.proofs.Values.{Costs}

-- what is left over where there are statements
abbrev pub left_over : StmtTrees → ℕ
left_over stmts.End = 0
left_over (stmts.Then s rest) = 100

module _ (p : Program) (most : ℕ) (longest : IsLongest most) (rates : Rates) where
  abbrev Free : Expr → Type 0
  Free e = IsFree p most rates e

  abbrev cost : Piece → ℕ
  cost a = total p most rates a

  -- what statements are made of costs no more than it is worth
  pub record AreWorth (names : Naming) (ways : Ways) : Type 0 where
    pub reads : (scope : Scope) (from : ℕ) (e : ExprTree) → Costs p most longest rates (value_worth names e) (ways.reads scope from e)
    pub puts : (scope : Scope) (guard : Expr) (from : ℕ) (target : ExprTree) (x : Kind → Operand) → Free guard → ((kind : Kind) → Free (x kind).at)
        → cost (ways.puts scope guard from target x) ≤ place_worth names target
    pub calls : (guard : Expr) (from : ℕ) (n : List ℕ) → Free guard → cost (ways.calls guard from n) ≤ names.run n
    pub stalls : (guard : Expr) (from : ℕ) (n : List ℕ) → Free guard → cost (ways.stalls guard from n) + 100 ≤ unit
    pub flushes : (guard : Expr) (from : ℕ) (n : List ℕ) → Free guard → cost (ways.flushes guard from n) + 100 ≤ unit

  -- ---- loops

  turns_cost : (turn : ℕ → List Move) (w : ℕ) → ((bits : ℕ) → moves_cost p most rates (turn bits) ≤ w) → (b : Bounds) (k n : ℕ) → moves_cost p most rates (all_moves turn b k n) ≤ n * w
  turns_cost turn w each b k zero = omega arith
  turns_cost turn w each b k (suc n) =
      let all = moves_append p most rates (turn (b.first + k * b.step)) (all_moves turn b (k + 1) n) in
      let one = each (b.first + k * b.step) in
      let more = turns_cost turn w each b (k + 1) n in
      omega (arith, all, one, more)

  looped_cost : (from : ℕ) (shape : Option Shape) (body : Piece) (w : ℕ) → cost body ≤ w → (r : Option Bounds) → cost (looped from shape body r) ≤ option_map_or turns r 0 * w
  looped_cost from shape body w h None = omega arith
  looped_cost from shape body w h (Some b) = go (nat_eq (turns b) 0)
    where
      turn_cost : (bits : ℕ) → moves_cost p most rates (turn_moves from shape body bits) ≤ w
      turn_cost bits = omega (arith, h)

      go : (none : Bool) → cost (if none then nothing else record { widths = (counter_of from shape).width ∷ body.widths; moves = all_moves (turn_moves from shape body) b 0 (turns b) }) ≤ turns b * w
      go true = omega arith
      go false = turns_cost (turn_moves from shape body) w turn_cost b 0 (turns b)

  -- ---- locals and guards

  given_free : (l : Option ℕ) (x : Operand) (kind : Kind) → Free x.at → Free (given l x kind).at
  given_free None x kind h = h
  given_free (Some v) x kind h = omega arith

  module _ (names : Naming) (ways : Ways) (worth : AreWorth names ways) where
    local_cost : (scope : Scope) (from : ℕ) (n : List ℕ) (shape : Shape) (e : Option ExprTree)
        → cost (with_local scope from n (first_of ways.reads scope from shape e)).piece + 100 ≤ unit + option_map_or (value_worth names) e 0
    local_cost scope from n shape None = omega arith
    local_cost scope from n shape (Some e) =
        let r = worth.reads scope from e in
        let x = ways.reads scope from e in
        let o = as_shape shape (given (literal e) x.out shape.kind) in
        let h = held_cost p most rates longest from x.piece o.width o.at (value_worth names e) 459 r.low (shape_cost p most longest rates shape (given (literal e) x.out shape.kind) (given_free (literal e) x.out shape.kind r.out)) in
        omega (arith, h)

    -- a temp for a guard
    guard_cost : (from : ℕ) (a : Piece) (test : Operand) (this other : Expr) (m : ℕ) → cost a ≤ m → Free test.at → Free this → Free other → cost (held from a 1 (picked test this other)) ≤ m + 741
    guard_cost from a test this other m h t f g = held_picked_cost p most longest rates from a test this other m h t (omega (arith, f)) (omega (arith, g))

    mutual
      pub stated_cost : (s : StmtTree) (scope : Scope) (guard : Expr) (from : ℕ) → Free guard → cost (stated ways scope guard from s).piece + 100 ≤ statement_worth names s
      stated_cost stmts.Empty scope guard from free = omega arith
      stated_cost (stmts.Block all) scope guard from free = let h = stated_all_cost all scope guard from free in omega (arith, h)
      stated_cost (stmts.Local shape n e) scope guard from free = let h = local_cost scope from n shape e in omega (arith, h)
      stated_cost (stmts.Assign target e) scope guard from free =
          let x = ways.reads scope from e in
          let r = worth.reads scope from e in
          let put = ways.puts scope guard (top from x.piece) target (given (literal e) x.out) in
          let w = worth.puts scope guard (top from x.piece) target (given (literal e) x.out) free (λ kind. given_free (literal e) x.out kind r.out) in
          let all = behind_cost p most rates x.piece put (value_worth names e) (place_worth names target) r.low w in
          omega (arith, all)
      stated_cost (stmts.If test chosen) scope guard from free =
          let c = ways.reads scope from test in
          let r = worth.reads scope from test in
          let tests = held from c.piece 1 (on c.out guard) in
          let t = guard_cost from c.piece c.out guard (Const 1 0) (value_worth names test) r.low r.out free refl in
          let body = (stated ways scope (Temp (top from c.piece)) (top from tests) chosen).piece in
          let s = stated_cost chosen scope (Temp (top from c.piece)) (top from tests) refl in
          let all = behind_cost p most rates tests body (value_worth names test + 741) (statement_worth names chosen) t (omega (arith, s)) in
          omega (arith, all)
      stated_cost (stmts.IfElse test chosen other) scope guard from free =
          let c = ways.reads scope from test in
          let r = worth.reads scope from test in
          let first = held from c.piece 1 (on c.out guard) in
          let t = guard_cost from c.piece c.out guard (Const 1 0) (value_worth names test) r.low r.out free refl in
          let tests = held from first 1 (off c.out guard) in
          let u = guard_cost from first c.out (Const 1 0) guard (value_worth names test + 741) t r.out refl free in
          let one = (stated ways scope (Temp (top from c.piece)) (top from tests) chosen).piece in
          let s = stated_cost chosen scope (Temp (top from c.piece)) (top from tests) refl in
          let x = behind tests one in
          let both = behind_cost p most rates tests one (value_worth names test + 741 + 741) (statement_worth names chosen) u (omega (arith, s)) in
          let two = (stated ways scope (Temp (top from first)) (top from x) other).piece in
          let q = stated_cost other scope (Temp (top from first)) (top from x) refl in
          let all = behind_cost p most rates x two (value_worth names test + 741 + 741 + statement_worth names chosen) (statement_worth names other) both (omega (arith, q)) in
          omega (arith, all)
      stated_cost (stmts.While test body) scope guard from free = omega arith
      stated_cost (stmts.For head body) scope guard from free =
          let inside = entered scope head.name (counter_of from head.shape) in
          let b = stated_cost body inside guard (from + 1) free in
          let l = looped_cost from head.shape (stated ways inside guard (from + 1) body).piece (statement_worth names body) (omega (arith, b)) (bounds_of head) in
          omega (arith, l)
      stated_cost (stmts.Call n) scope guard from free = let c = worth.calls guard from n free in omega (arith, c)
      stated_cost (stmts.Stall pipe stage) scope guard from free = worth.stalls guard from stage free
      stated_cost (stmts.Flush pipe stage) scope guard from free = worth.flushes guard from stage free
      stated_cost (stmts.Execute pipe) scope guard from free = omega arith
      stated_cost (stmts.Shift pipe) scope guard from free = omega arith

      pub stated_all_cost : (all : StmtTrees) (scope : Scope) (guard : Expr) (from : ℕ) → Free guard → cost (stated_all ways scope guard from all).piece + left_over all ≤ statements_worth names all
      stated_all_cost stmts.End scope guard from free = omega arith
      stated_all_cost (stmts.Then s rest) scope guard from free =
          let x = stated ways scope guard from s in
          let y = stated_all ways x.scope guard (top from x.piece) rest in
          let h = stated_cost s scope guard from free in
          let k = stated_all_cost rest x.scope guard (top from x.piece) free in
          let both = behind_cost p most rates x.piece y.piece (cost x.piece) (statements_worth names rest) (omega arith) (omega (arith, k)) in
          omega (arith, h, both)
