-- Locals in scope, and temps that are none of theirs.
use Rattle.std.proofs.Common.{◌≡◌, ◌≢◌, ℕ, zero, suc, ◌+◌, ◌<◌, ◌≤◌, Bool, true, false, cond, List, [], ◌∷◌, ◌++◌, length, map, refl, sym, ap, ap₂, ◌∙◌, subst, arith, Option, None, Some, length-append}
use Rattle.std.specs.Prelude.{slice_index, take, ⊤, nat_le, nat_lt, ◌&&◌}
use Rattle.std.proofs.lemmas.Bool.Decides.{nat_tests}
use Rattle.std.specs.List.{AllZip}
use Rattle.lisa_tree.specs.declared.tokens.Shape.{Shape}
use Rattle.lisa_tree.specs.Expressions.{ExprTree}
use Rattle.lisa_tree.specs.Statements as stmts
use Rattle.lisa_tree.specs.Statements.{StmtTree, StmtTrees}
use Rattle.lisa_tree.specs.Same.{same_name}
use Rattle.step_program.specs.Programs.{Program, Expr, Const, Now, Before, Pin, Temp, Cell, One, Two, Choose}
use Rattle.step_program.specs.Effects.{Moment, width}
use Rattle.step_program.specs.Effects as effects
use Rattle.step_program.specs.WellFormed.{IsWidth, IsFit}
use Rattle.typed_values.specs.Effects.{local_put}
use Rattle.typed_values.specs.Words.{TypedWord, word_width}
use Rattle.step_pieces.specs.Pieces.{Piece, behind, top, held}
use Rattle.step_pieces.specs.Running.{Rests, IsLow}
use Rattle.step_pieces.specs.Formed.{Lies}
use Rattle.step_pieces.proofs.Laid.{lies_right, lies_one}
use Rattle.step_pieces.proofs.Rested.{low_value}
use Rattle.lowered_values.specs.Operands.{StandsFor}
use Rattle.lowered_values.proofs.Lowering.{stands_on, top_behind, top_low, top_held}
use Rattle.lowered_statements.specs.Scopes.{Local, Scope, local_operand, entered, Names, local_shape, names_of, IsNew, IsScope, IsFree}
use Rattle.lowered_statements.specs.Ways.{Ways}
use Rattle.lowered_statements.specs.Stated.{shaped, stated, first_of}
use Rattle.lowered_statements.specs.Typed.{names_after}
use Rattle.lowered_statements.specs.Agreement.{IsLocal, Spares, IsGuard}

-- ---- where locals lie

pub scope_up : (p : Program) (low high to : ℕ) (scope : Scope) → high ≤ to → IsScope p low high scope → IsScope p low to scope
scope_up p low high to [] le is = omega (arith, is)
scope_up p low high to (x ∷ xs) le is = (is.0, is.1, is.2, is.3, scope_up p (x.1.temp + 1) high to xs le is.4)

pub scope_low : (p : Program) (low high : ℕ) (scope : Scope) → IsScope p low high scope → low ≤ high
scope_low p low high [] is = is
scope_low p low high (x ∷ xs) is =
    let h = scope_low p (x.1.temp + 1) high xs is.4 in
    let l = is.0 in
    omega (arith, h, l)

-- a local more, whose temp is behind the others
pub scope_entered : (p : Program) (low high : ℕ) (scope : Scope) (n : List ℕ) (l : Local) → IsScope p low high scope → high ≤ l.temp → l.temp < length p.temps → slice_index p.temps l.temp ≡ l.width → IsWidth l.width → IsScope p low (l.temp + 1) (entered scope n l)
scope_entered p low high [] n l is le there at sized = (omega (arith, is), there, at, sized, omega arith)
scope_entered p low high (x ∷ xs) n l is le there at sized = (is.0, is.1, is.2, is.3, scope_entered p (x.1.temp + 1) high xs n l is.4 le there at sized)

pub free_high : (p : Program) (low high : ℕ) (scope : Scope) (k : ℕ) → IsScope p low high scope → high ≤ k → IsFree scope k
free_high p low high [] k is le = tt
free_high p low high (x ∷ xs) k is le =
    let h = scope_low p (x.1.temp + 1) high xs is.4 in
    ((λ e. omega (arith, h, e)), free_high p (x.1.temp + 1) high xs k is.4 le)

pub free_entered : (scope : Scope) (n : List ℕ) (l : Local) (k : ℕ) → IsFree scope k → k < l.temp → IsFree (entered scope n l) k
free_entered [] n l k is lt = ((λ e. omega (arith, e)), tt)
free_entered (x ∷ xs) n l k is lt = (is.0, free_entered xs n l k is.1 lt)

-- ---- names

pub names_entered : (scope : Scope) (n : List ℕ) (l : Local) → names_of (entered scope n l) ≡ names_of scope ++ (n, local_shape l) ∷ []
names_entered [] n l = refl
names_entered (x ∷ xs) n l = ap (λ (rest : Names). (x.0, local_shape x.1) ∷ rest) (names_entered xs n l)

-- ---- locals' values

module _ (p : Program) (before pins : List ℕ) where
  abbrev pub Are : Moment → Scope → List (List ℕ × TypedWord) → Type 0
  Are now scope locals = AllZip (IsLocal p before pins now) scope locals

  pub locals_long : (now : Moment) (scope : Scope) (locals : List (List ℕ × TypedWord)) → Are now scope locals → length locals ≡ length scope
  locals_long now [] [] are = refl
  locals_long now [] (v ∷ vs) are = absurd are
  locals_long now (x ∷ xs) [] are = absurd are
  locals_long now (x ∷ xs) (v ∷ vs) are = ap suc (locals_long now xs vs are.1)

  pub locals_rest : (low high : ℕ) (scope : Scope) (locals : List (List ℕ × TypedWord)) (a b : Moment) → IsScope p low high scope → Rests high a b → Are a scope locals → Are b scope locals
  locals_rest low high [] [] a b is r are = are
  locals_rest low high [] (v ∷ vs) a b is r are = absurd are
  locals_rest low high (x ∷ xs) [] a b is r are = absurd are
  locals_rest low high (x ∷ xs) (v ∷ vs) a b is r are =
      let h = scope_low p (x.1.temp + 1) high xs is.4 in
      ((are.0.0, stands_on p before pins high (local_operand x.1) v.1 a b (omega (arith, h)) r are.0.1), locals_rest (x.1.temp + 1) high xs vs a b is.4 r are.1)

  pub locals_entered : (now : Moment) (scope : Scope) (locals : List (List ℕ × TypedWord)) (n : List ℕ) (l : Local) (v : TypedWord) → IsNew (names_of scope) n → Are now scope locals → StandsFor p before pins now (local_operand l) v → Are now (entered scope n l) (local_put locals n v)
  locals_entered now [] [] n l v new are h = ((refl, h), tt)
  locals_entered now [] (w ∷ ws) n l v new are h = absurd are
  locals_entered now (x ∷ xs) [] n l v new are h = absurd are
  locals_entered now (x ∷ xs) (w ∷ ws) n l v new are h =
      let other : same_name n w.0 ≡ false = ap (same_name n) (sym are.0.0) ∙ new.0 in
      subst (λ (b : Bool). Are now (entered (x ∷ xs) n l) (cond b ((w.0, v) ∷ ws) (w ∷ local_put ws n v))) (sym other)
      (are.0, locals_entered now xs ws n l v new.1 are.1 h)

  -- the first locals are those of the scope
  pub locals_left : (now : Moment) (scope more : Scope) (locals : List (List ℕ × TypedWord)) → Are now (scope ++ more) locals → Are now scope (take (length scope) locals)
  locals_left now [] more locals are = tt
  locals_left now (x ∷ xs) more [] are = absurd are
  locals_left now (x ∷ xs) more (v ∷ vs) are = (are.0, locals_left now xs more vs are.1)

  -- ---- guards

  pub guard_low : (lasts from : ℕ) (scope : Scope) (guard : Expr) → IsGuard p lasts from scope guard → IsLow from guard
  guard_low lasts from scope (Const w v) is = tt
  guard_low lasts from scope (Now item) is = absurd is
  guard_low lasts from scope (Before item) is = absurd is
  guard_low lasts from scope (Pin pin) is = absurd is
  guard_low lasts from scope (Temp temp) is = is.1
  guard_low lasts from scope (Cell array index) is = absurd is
  guard_low lasts from scope (One one a) is = absurd is
  guard_low lasts from scope (Two two a b) is = absurd is
  guard_low lasts from scope (Choose c a b) is = absurd is

  pub guard_wide : (lasts from : ℕ) (scope : Scope) (guard : Expr) → IsGuard p lasts from scope guard → width p guard ≡ 1
  guard_wide lasts from scope (Const w v) is = is.0
  guard_wide lasts from scope (Now item) is = absurd is
  guard_wide lasts from scope (Before item) is = absurd is
  guard_wide lasts from scope (Pin pin) is = absurd is
  guard_wide lasts from scope (Temp temp) is = is.3
  guard_wide lasts from scope (Cell array index) is = absurd is
  guard_wide lasts from scope (One one a) is = absurd is
  guard_wide lasts from scope (Two two a b) is = absurd is
  guard_wide lasts from scope (Choose c a b) is = absurd is

  one_fits : (w v : ℕ) → w ≡ 1 → v ≡ 1 → IsFit p (Const w v)
  one_fits w v e f = subst (λ (n : ℕ). IsFit p (Const n v)) (sym e) ((omega arith, omega arith), omega (arith, f))

  pub guard_fits : (lasts from : ℕ) (scope : Scope) (guard : Expr) → IsGuard p lasts from scope guard → IsFit p guard
  guard_fits lasts from scope (Const w v) is = one_fits w v is.0 is.1
  guard_fits lasts from scope (Now item) is = absurd is
  guard_fits lasts from scope (Before item) is = absurd is
  guard_fits lasts from scope (Pin pin) is = absurd is
  guard_fits lasts from scope (Temp temp) is = is.2
  guard_fits lasts from scope (Cell array index) is = absurd is
  guard_fits lasts from scope (One one a) is = absurd is
  guard_fits lasts from scope (Two two a b) is = absurd is
  guard_fits lasts from scope (Choose c a b) is = absurd is

  -- a guard is one still from a later temp on, and where the scope has got locals behind it
  pub guard_up : (lasts from to : ℕ) (scope after : Scope) (guard : Expr) → from ≤ to → ((k : ℕ) → k < from → IsFree scope k → IsFree after k) → IsGuard p lasts from scope guard → IsGuard p lasts to after guard
  guard_up lasts from to scope after (Const w v) le free is = is
  guard_up lasts from to scope after (Now item) le free is = absurd is
  guard_up lasts from to scope after (Before item) le free is = absurd is
  guard_up lasts from to scope after (Pin pin) le free is = absurd is
  guard_up lasts from to scope after (Temp temp) le free is = (is.0, let l = is.1 in omega (arith, l), is.2, is.3, free temp is.1 is.4)
  guard_up lasts from to scope after (Cell array index) le free is = absurd is
  guard_up lasts from to scope after (One one a) le free is = absurd is
  guard_up lasts from to scope after (Two two a b) le free is = absurd is
  guard_up lasts from to scope after (Choose c a b) le free is = absurd is

  pub guard_spared : (lasts from : ℕ) (scope : Scope) (guard : Expr) (a b : Moment) → IsGuard p lasts from scope guard → Spares lasts from scope a b → effects.value p before pins b guard ≡ effects.value p before pins a guard
  guard_spared lasts from scope (Const w v) a b is s = refl
  guard_spared lasts from scope (Now item) a b is s = absurd is
  guard_spared lasts from scope (Before item) a b is s = absurd is
  guard_spared lasts from scope (Pin pin) a b is s = absurd is
  guard_spared lasts from scope (Temp temp) a b is s = s.temps temp is.0 is.1 is.4
  guard_spared lasts from scope (Cell array index) a b is s = absurd is
  guard_spared lasts from scope (One one x) a b is s = absurd is
  guard_spared lasts from scope (Two two x y) a b is s = absurd is
  guard_spared lasts from scope (Choose c x y) a b is s = absurd is

  pub guard_rests : (lasts from : ℕ) (scope : Scope) (guard : Expr) (a b : Moment) → IsGuard p lasts from scope guard → Rests from a b → effects.value p before pins b guard ≡ effects.value p before pins a guard
  guard_rests lasts from scope guard a b is r = low_value p before pins from guard a b (guard_low lasts from scope guard is) r

-- ---- what is spared

pub spares_rest : (lasts from : ℕ) (scope : Scope) (a b : Moment) → Rests from a b → Spares lasts from scope a b
spares_rest lasts from scope a b r = record { room = r.room; temps = λ k h l f. r.temps k l }

pub spares_on : (lasts from to : ℕ) (scope after : Scope) (a b c : Moment) → from ≤ to → ((k : ℕ) → k < from → IsFree scope k → IsFree after k) → Spares lasts from scope a b → Spares lasts to after b c → Spares lasts from scope a c
spares_on lasts from to scope after a b c le free r s = record {
  room = s.room ∙ r.room;
  temps = λ k h l f. s.temps k h (omega arith) (free k l f) ∙ r.temps k h l f;
}

-- ---- the scope behind a statement

module _ (ways : Ways) where
  pub free_after : (s : StmtTree) (scope : Scope) (guard : Expr) (from k : ℕ) → k < from → IsFree scope k → IsFree (stated ways scope guard from s).scope k
  free_after stmts.Empty scope guard from k lt f = f
  free_after (stmts.Block all) scope guard from k lt f = f
  free_after (stmts.Local shape n e) scope guard from k lt f =
      let x = first_of ways.reads scope from shape e in
      free_entered scope n (record { temp = top from x.piece; kind = x.out.kind; width = x.out.width }) k f (omega (arith, top_low from x.piece))
  free_after (stmts.Assign target e) scope guard from k lt f = f
  free_after (stmts.If test chosen) scope guard from k lt f = f
  free_after (stmts.IfElse test chosen other) scope guard from k lt f = f
  free_after (stmts.While test body) scope guard from k lt f = f
  free_after (stmts.For head body) scope guard from k lt f = f
  free_after (stmts.Call n) scope guard from k lt f = f
  free_after (stmts.Stall pipe stage) scope guard from k lt f = f
  free_after (stmts.Flush pipe stage) scope guard from k lt f = f
  free_after (stmts.Execute pipe) scope guard from k lt f = f
  free_after (stmts.Shift pipe) scope guard from k lt f = f

  first_shape : (scope : Scope) (from : ℕ) (shape : Shape) (e : Option ExprTree) → (first_of ways.reads scope from shape e).out.kind ≡ shape.kind
  first_shape scope from shape None = refl
  first_shape scope from shape (Some e) = refl

  first_width : (scope : Scope) (from : ℕ) (shape : Shape) (e : Option ExprTree) → (first_of ways.reads scope from shape e).out.width ≡ (shaped shape).width
  first_width scope from shape None = refl
  first_width scope from shape (Some e) = refl

  shapes : (s t : Shape) → s.kind ≡ t.kind → s.width ≡ t.width → s ≡ t
  shapes s t e f = λ i. record { kind = e i; width = f i }

  pub names_stated : (s : StmtTree) (scope : Scope) (guard : Expr) (from : ℕ) → names_of (stated ways scope guard from s).scope ≡ names_after (names_of scope) s
  names_stated stmts.Empty scope guard from = refl
  names_stated (stmts.Block all) scope guard from = refl
  names_stated (stmts.Local shape n e) scope guard from =
      let x = first_of ways.reads scope from shape e in
      let l : Local = record { temp = top from x.piece; kind = x.out.kind; width = x.out.width } in
      names_entered scope n l ∙ ap (λ (t : Shape). names_of scope ++ (n, t) ∷ []) (shapes (local_shape l) (shaped shape) (first_shape scope from shape e) (first_width scope from shape e))
  names_stated (stmts.Assign target e) scope guard from = refl
  names_stated (stmts.If test chosen) scope guard from = refl
  names_stated (stmts.IfElse test chosen other) scope guard from = refl
  names_stated (stmts.While test body) scope guard from = refl
  names_stated (stmts.For head body) scope guard from = refl
  names_stated (stmts.Call n) scope guard from = refl
  names_stated (stmts.Stall pipe stage) scope guard from = refl
  names_stated (stmts.Flush pipe stage) scope guard from = refl
  names_stated (stmts.Execute pipe) scope guard from = refl
  names_stated (stmts.Shift pipe) scope guard from = refl

pub word_width_is : (w : ℕ) → IsWidth (word_width w)
word_width_is w = (grind (arith, nat_tests), grind (arith, nat_tests))

module _ (ways : Ways) (p : Program) (lasts : ℕ) where
  first_wide : (scope : Scope) (from : ℕ) (shape : Shape) (e : Option ExprTree) → IsWidth (first_of ways.reads scope from shape e).out.width
  first_wide scope from shape None = word_width_is shape.width
  first_wide scope from shape (Some e) = word_width_is shape.width

  stays : (scope : Scope) (from : ℕ) (a : Piece) → IsScope p lasts from scope → IsScope p lasts (top from a) scope
  stays scope from a is = scope_up p lasts from (top from a) scope (top_low from a) is

  pub scope_after : (s : StmtTree) (scope : Scope) (guard : Expr) (from : ℕ) → IsScope p lasts from scope → Lies p.temps from (stated ways scope guard from s).piece.widths → IsScope p lasts (top from (stated ways scope guard from s).piece) (stated ways scope guard from s).scope
  scope_after stmts.Empty scope guard from is lies = stays scope from (stated ways scope guard from stmts.Empty).piece is
  scope_after (stmts.Block all) scope guard from is lies = stays scope from (stated ways scope guard from (stmts.Block all)).piece is
  scope_after (stmts.Local shape n e) scope guard from is lies =
      let x = first_of ways.reads scope from shape e in
      let l : Local = record { temp = top from x.piece; kind = x.out.kind; width = x.out.width } in
      let one = lies_one p.temps (top from x.piece) x.out.width [] (lies_right p.temps from x.piece.widths (x.out.width ∷ []) lies) in
      subst (λ (high : ℕ). IsScope p lasts high (entered scope n l)) (sym (top_held from x.piece x.out.width x.out.at))
      (scope_entered p lasts from scope n l is (top_low from x.piece) one.0 one.1 (first_wide scope from shape e))
  scope_after (stmts.Assign target e) scope guard from is lies = stays scope from (stated ways scope guard from (stmts.Assign target e)).piece is
  scope_after (stmts.If test chosen) scope guard from is lies = stays scope from (stated ways scope guard from (stmts.If test chosen)).piece is
  scope_after (stmts.IfElse test chosen other) scope guard from is lies = stays scope from (stated ways scope guard from (stmts.IfElse test chosen other)).piece is
  scope_after (stmts.While test body) scope guard from is lies = stays scope from (stated ways scope guard from (stmts.While test body)).piece is
  scope_after (stmts.For head body) scope guard from is lies = stays scope from (stated ways scope guard from (stmts.For head body)).piece is
  scope_after (stmts.Call n) scope guard from is lies = stays scope from (stated ways scope guard from (stmts.Call n)).piece is
  scope_after (stmts.Stall pipe stage) scope guard from is lies = stays scope from (stated ways scope guard from (stmts.Stall pipe stage)).piece is
  scope_after (stmts.Flush pipe stage) scope guard from is lies = stays scope from (stated ways scope guard from (stmts.Flush pipe stage)).piece is
  scope_after (stmts.Execute pipe) scope guard from is lies = stays scope from (stated ways scope guard from (stmts.Execute pipe)).piece is
  scope_after (stmts.Shift pipe) scope guard from is lies = stays scope from (stated ways scope guard from (stmts.Shift pipe)).piece is
