-- Under a guard that is 1 statements do what they do.
use Rattle.std.proofs.Common.{◌≡◌, ℕ, zero, suc, ◌+◌, ◌*◌, ◌<◌, ◌≤◌, ◌^◌, Bool, true, false, cond, List, [], ◌∷◌, ◌++◌, length, Option, None, Some, refl, sym, ap, ap₂, ◌∙◌, subst, arith, nat_eq, nat_le, nat_lt}
use Rattle.std.specs.Prelude.{slice_index, All, take, ◌&&◌}
use Rattle.std.specs.List.{AllZip}
use Rattle.std.proofs.lemmas.Bool.{eqb-true}
use Rattle.std.proofs.lemmas.Bool.Decides.{nat_tests}
use Rattle.std.proofs.lemmas.List.{append-nil, append_assoc}
use Rattle.lisa_words.specs.declared.words.Kind.{Kind}
use Rattle.lisa_words.specs.declared.words.Kind.TheVariants as kinds
use Rattle.lisa_tree.specs.declared.tokens.Shape.{Shape}
use Rattle.lisa_tree.specs.Expressions.{ExprTree}
use Rattle.lisa_tree.specs.Statements as stmts
use Rattle.lisa_tree.specs.Statements.{HeadTree, StmtTree, StmtTrees}
use Rattle.lisa_tree.specs.Same.{same_name}
use Rattle.description_places.specs.Literals.{literal}
use Rattle.shape_checks.specs.declared.bounds.Bounds.{Bounds}
use Rattle.shape_checks.specs.Bounds.{where_typed, bounds_with, limit_of, step_of, bounds_of, turns}
use Rattle.step_program.specs.Programs.{Program, Expr, Const, Temp, Move}
use Rattle.step_program.specs.Effects.{Moment}
use Rattle.step_program.specs.Effects as effects
use Rattle.step_program.specs.WellFormed.{IsWidth}
use Rattle.typed_values.specs.Words.{TypedWord, word_width, as_shape as shaped_value, zero_of, is_zero, number_value}
use Rattle.typed_values.specs.Expressions.{value}
use Rattle.typed_values.specs.Effects.{Locals, Doing, local_put, whole_of, whole, with_local as local_given, leave, first_of as first_value, turned, counter_value, with_counter, loop_turn, all_turns, looped as loop_effect, effect, effects as effect_all}
use Rattle.typed_values.specs.Laws.{IsFit}
use Rattle.typed_values.proofs.Fitting.{shaped_fits, zero_fits}
use Rattle.step_pieces.specs.Pieces.{Piece, nothing, behind, top, held, set_temp, IsScratch}
use Rattle.step_pieces.specs.Running.{ran, Rests, IsLow, HasTemps}
use Rattle.step_pieces.specs.Formed.{Lies}
use Rattle.step_pieces.proofs.Rested.{rests_none, rests_up, rests_on, low_value, ran_append, move_rests, set_value}
use Rattle.step_pieces.proofs.Laid.{lies_left, lies_right, lies_one}
use Rattle.lowered_values.specs.Operands.{Operand, operand_of, StandsFor, IsOperand}
use Rattle.lowered_values.specs.Templates.{picked, as_shape}
use Rattle.lowered_values.proofs.Computing.{picked_value}
use Rattle.lowered_values.proofs.Operating.{number_stands, shaped_stands}
use Rattle.lowered_values.proofs.Forming.{number_operand_is}
use Rattle.lowered_values.proofs.Lowering.{Scratch, all_none, held_scratch, top_low, top_held, top_behind, rested, stands_on, kept_stands, operand_up}
use Rattle.lowered_statements.specs.Scopes.{Local, Scope, Names, local_operand, entered, names_of, IsNew, IsScope, IsFree}
use Rattle.lowered_statements.specs.Ways.{Ways}
use Rattle.lowered_statements.specs.Stated.{shaped, counter_shape, given, first_of, on, off, counter_of, turn_moves, all_moves, looped, stated, stated_all}
use Rattle.lowered_statements.specs.Typed.{Rules, IsFirst, IsTyped, AreTyped, names_after}
use Rattle.lowered_statements.specs.Agreement.{IsLocal, Agrees, Spares, IsGuard, Leads, AreIdle, FormWays, DoWays, AreGiven}
use Rattle.lowered_statements.proofs.Scoped.{word_width_is, scope_after, free_entered, scope_up, scope_low, scope_entered, free_high, names_entered, locals_long, locals_rest, locals_entered, locals_left, guard_low, guard_up, guard_spared, guard_rests, spares_rest, spares_on, free_after, names_stated}
use Rattle.lowered_statements.proofs.Idle.{held_value, held_rests, held_after, first_scratch, rests as idle_rests, all_rest}

-- ---- types

pub none_some : {X : Type 0} (x : X) → None ≡ Some x → ⊥
none_some x e = cc

-- a loop with bounds declares its variable
pub typed_loop : (shape : Option Shape) (bounds : Option Bounds) (b : Bounds) → where_typed shape bounds ≡ Some b → (s : Shape) × (shape ≡ Some s)
typed_loop None bounds b e = absurd (none_some b e)
typed_loop (Some s) bounds b e = (s, refl)

-- the bounds of a loop, but for its variable's type
abbrev pub loop_bounds : HeadTree → Option Bounds
loop_bounds head = cond (same_name head.name head.next) (bounds_with (literal head.first) (limit_of head.name head.test) (step_of head.name head.step)) None

pub counter_width : (o : Option Shape) → IsWidth (counter_shape o).width
counter_width None = (omega arith, omega arith)
counter_width (Some shape) = word_width_is shape.width

-- ---- what is behind a scope

abbrev pub Extends : Scope → Scope → Type 0
Extends scope after = (more : Scope) × (after ≡ scope ++ more)

extends_none : (scope : Scope) → Extends scope scope
extends_none scope = ([], sym (append-nil scope))

extends_on : (a b c : Scope) → Extends a b → Extends b c → Extends a c
extends_on a b c h k = (h.0 ++ k.0, k.1 ∙ ap (λ (s : Scope). s ++ k.0) h.1 ∙ append_assoc a h.0 k.0)

module _ (ways : Ways) where
  pub extends : (s : StmtTree) (scope : Scope) (guard : Expr) (from : ℕ) → Extends scope (stated ways scope guard from s).scope
  extends stmts.Empty scope guard from = extends_none scope
  extends (stmts.Block all) scope guard from = extends_none scope
  extends (stmts.Local shape n e) scope guard from =
      let x = first_of ways.reads scope from shape e in
      ((n, record { temp = top from x.piece; kind = x.out.kind; width = x.out.width }) ∷ [], refl)
  extends (stmts.Assign target e) scope guard from = extends_none scope
  extends (stmts.If test chosen) scope guard from = extends_none scope
  extends (stmts.IfElse test chosen other) scope guard from = extends_none scope
  extends (stmts.While test body) scope guard from = extends_none scope
  extends (stmts.For head body) scope guard from = extends_none scope
  extends (stmts.Call n) scope guard from = extends_none scope
  extends (stmts.Stall pipe stage) scope guard from = extends_none scope
  extends (stmts.Flush pipe stage) scope guard from = extends_none scope
  extends (stmts.Execute pipe) scope guard from = extends_none scope
  extends (stmts.Shift pipe) scope guard from = extends_none scope

  pub extends_all : (all : StmtTrees) (scope : Scope) (guard : Expr) (from : ℕ) → Extends scope (stated_all ways scope guard from all).scope
  extends_all stmts.End scope guard from = extends_none scope
  extends_all (stmts.Then s rest) scope guard from =
      let x = stated ways scope guard from s in
      let y = stated_all ways x.scope guard (top from x.piece) rest in
      extends_on scope x.scope y.scope (extends s scope guard from) (extends_all rest x.scope guard (top from x.piece))

loop_is : {M : Type 0} (doing : Doing M) (body : M → M) (head : HeadTree) (m : M) → loop_effect doing body head m ≡ all_turns doing body head (bounds_of head) m
unfolding loop_effect
loop_is doing body head m = refl

module _ {M : Type 0} (doing : Doing M) (ways : Ways) (rules : Rules) (p : Program) (before pins : List ℕ) (Holds : M → Moment → Type 0) (lasts : ℕ)
    (idle : AreIdle ways p before pins) (forms : FormWays ways rules p lasts) (does : DoWays doing ways rules p before pins Holds lasts) where
  abbrev run : Moment → List Move → Moment
  run now moves = ran p before pins now moves

  abbrev val : Moment → Expr → ℕ
  val now e = effects.value p before pins now e

  abbrev Stands : Moment → Operand → TypedWord → Type 0
  Stands now x v = StandsFor p before pins now x v

  abbrev AgreesIn : Scope → M → Moment → Type 0
  AgreesIn scope m now = Agrees doing p before pins Holds scope m now

  abbrev Leads_to : ℕ → Scope → Scope → M → Moment → Moment → Type 0
  Leads_to from scope after m a b = Leads doing p before pins Holds lasts from scope after m a b

  -- ---- how agreement is kept

  agree_rests : (from : ℕ) (scope : Scope) (m : M) (a b : Moment) → IsScope p lasts from scope → Rests from a b → AgreesIn scope m a → AgreesIn scope m b
  agree_rests from scope m a b is r h = record {
    holds = does.rests from m a b (scope_low p lasts from scope is) r h.holds;
    has = r.room ∙ h.has;
    locals = locals_rest p before pins lasts from scope (doing.locals m) a b is r h.locals;
  }

  leads_rests : (from : ℕ) (scope : Scope) (m : M) (a b : Moment) → IsScope p lasts from scope → Rests from a b → AgreesIn scope m a → Leads_to from scope scope m a b
  leads_rests from scope m a b is r h = record { agrees = agree_rests from scope m a b is r h; spares = spares_rest lasts from scope a b r }

  leads_on : (from to : ℕ) (scope mid after : Scope) (m m' : M) (a b c : Moment) → from ≤ to → ((k : ℕ) → k < from → IsFree scope k → IsFree mid k) → Leads_to from scope mid m a b → Leads_to to mid after m' b c → Leads_to from scope after m' a c
  leads_on from to scope mid after m m' a b c le free h k = record { agrees = k.agrees; spares = spares_on lasts from to scope mid a b c le free h.spares k.spares }

  same_free : (scope : Scope) (from k : ℕ) → k < from → IsFree scope k → IsFree scope k
  same_free scope from k l f = f

  -- the locals of a body end with it
  left : (from : ℕ) (scope after : Scope) (start m : M) (first a b : Moment) → Extends scope after → AgreesIn scope start first → Leads_to from scope after m a b → Leads_to from scope scope (leave doing (length (doing.locals start)) m) a b
  left from scope after start m first a b more h k =
      let kept = take (length (doing.locals start)) (doing.locals m) in
      let long = locals_long p before pins first scope (doing.locals start) h.locals in
      let there = locals_left p before pins b scope more.0 (doing.locals m) (subst (λ (s : Scope). Agrees doing p before pins Holds s m b) more.1 k.agrees).locals in
      record {
        agrees = record {
          holds = does.others kept m b k.agrees.holds;
          has = k.agrees.has;
          locals = subst (λ (locals : Locals). AllZip (IsLocal p before pins b) scope locals) (sym (does.locals kept m))
              (subst (λ (n : ℕ). AllZip (IsLocal p before pins b) scope (take n (doing.locals m))) (sym long) there);
        };
        spares = k.spares;
      }

  -- a local more
  enters : (scope : Scope) (n : List ℕ) (l : Local) (v : TypedWord) (m : M) (now : Moment) → IsNew (names_of scope) n → AgreesIn scope m now → Stands now (local_operand l) v → AgreesIn (entered scope n l) (local_given doing n v m) now
  enters scope n l v m now new h stands =
      let more = local_put (doing.locals m) n v in
      record {
        holds = does.others more m now h.holds;
        has = h.has;
        locals = subst (λ (locals : Locals). AllZip (IsLocal p before pins now) (entered scope n l) locals) (sym (does.locals more m))
            (locals_entered p before pins now scope (doing.locals m) n l v new h.locals stands);
      }

  -- ---- values

  small : (scope : Scope) (e : ExprTree) (o : Option ℕ) → rules.reads (names_of scope) e → literal e ≡ o → (kind : Kind) (x : Operand) (v : TypedWord) (now : Moment) → Stands now x v → Stands now (given o x kind) (whole_of o v kind)
  small scope e None typed is kind x v now h = h
  small scope e (Some n) typed is kind x v now h = number_stands p before pins now kind n (forms.numbers (names_of scope) e n typed is)

  given_is : (scope : Scope) (from : ℕ) (e : ExprTree) (o : Option ℕ) → rules.reads (names_of scope) e → literal e ≡ o → (x : Operand) → IsOperand p from x → AreGiven p from (given o x)
  given_is scope from e None typed is x h kind = h
  given_is scope from e (Some n) typed is x h kind = number_operand_is p from kind n (forms.numbers (names_of scope) e n typed is)

  -- ---- tests

  on_is : (x : Operand) (v : TypedWord) (guard : Expr) (now : Moment) → Stands now x v → val now guard ≡ 1 → val now (on x guard) ≡ cond (is_zero v) 0 1
  on_is x v guard now h one = picked_value p before pins now x v guard (Const 1 0) h ∙ ap (λ (n : ℕ). cond (is_zero v) 0 n) one

  off_is : (x : Operand) (v : TypedWord) (guard : Expr) (now : Moment) → Stands now x v → val now guard ≡ 1 → val now (off x guard) ≡ cond (is_zero v) 1 0
  off_is x v guard now h one = picked_value p before pins now x v (Const 1 0) guard h ∙ ap (λ (n : ℕ). cond (is_zero v) n 0) one

  -- what is done under a test
  branch : (z : Bool) (g from : ℕ) (scope : Scope) (m m' : M) (a b : Moment) → IsScope p lasts from scope → g ≡ cond z 0 1 → AgreesIn scope m a
      → (g ≡ 0 → Rests from a b) → (g ≡ 1 → Leads_to from scope scope m' a b) → Leads_to from scope scope (cond z m m') a b
  branch true g from scope m m' a b is e h rests leads = leads_rests from scope m a b is (rests e) h
  branch false g from scope m m' a b is e h rests leads = leads e

  -- one of two under a test
  either : (z : Bool) (g f from to : ℕ) (scope : Scope) (start m m' : M) (a b c : Moment) → IsScope p lasts from scope → from ≤ to → g ≡ cond z 0 1 → AgreesIn scope start a
      → (g ≡ 0 → Rests from a b) → (g ≡ 1 → Leads_to from scope scope m a b)
      → (Spares lasts from scope a b → f ≡ cond z 1 0) → (f ≡ 0 → length b.temps ≡ length a.temps → Rests to b c) → (f ≡ 1 → AgreesIn scope start b → Leads_to to scope scope m' b c)
      → Leads_to from scope scope (cond z m' m) a c
  either true g f from to scope start m m' a b c is le e h rests leads off rests' leads' =
      let r = rests e in
      let first = leads_rests from scope start a b is r h in
      leads_on from to scope scope scope start m' a b c le (same_free scope from) first (leads' (off first.spares) first.agrees)
  either false g f from to scope start m m' a b c is le e h rests leads off rests' leads' =
      let first = leads e in
      leads_on from to scope scope scope m m a b c le (same_free scope from) first
      (leads_rests to scope m b c (scope_up p lasts from to scope le is) (rests' (off first.spares) first.spares.room) first.agrees)

  one_of : (z : Bool) (count : ℕ) (m m' : M) → cond z (leave doing count m') (leave doing count m) ≡ leave doing count (cond z m' m)
  one_of true count m m' = refl
  one_of false count m m' = refl

  -- a guard that is a temp of its own
  own_guard : (from temp to : ℕ) (scope : Scope) → IsScope p lasts from scope → from ≤ temp → temp < to → temp < length p.temps → slice_index p.temps temp ≡ 1 → IsGuard p lasts to scope (Temp temp)
  own_guard from temp to scope is le lt there wide =
      (let l = scope_low p lasts from scope is in omega (arith, l), lt, there, wide, free_high p lasts from scope temp is le)

  -- ---- a piece behind another

  follow : (from : ℕ) (scope mid after : Scope) (m m' : M) (now : Moment) (a b : Piece) → ((k : ℕ) → k < from → IsFree scope k → IsFree mid k) → Leads_to from scope mid m now (run now a.moves) → Leads_to (top from a) mid after m' (run now a.moves) (run (run now a.moves) b.moves) → Leads_to from scope after m' now (run now (behind a b).moves)
  follow from scope mid after m m' now a b free h k =
      subst (λ (end : Moment). Leads_to from scope after m' now end) (sym (ran_append p before pins now a.moves b.moves))
      (leads_on from (top from a) scope mid after m m' now (run now a.moves) (run (run now a.moves) b.moves) (top_low from a) free h k)

  -- ---- loops

  counter_stands : (from bits : ℕ) (o : Option Shape) (s : Shape) (now : Moment) → o ≡ Some s → slice_index p.temps from ≡ (counter_of from o).width → val now (Temp from) ≡ (counter_value o bits).bits → Stands now (local_operand (counter_of from o)) (counter_value o bits)
  counter_stands from bits None s now e wide is = absurd (none_some s e)
  counter_stands from bits (Some shape) s now e wide is = record { kind = refl; width = refl; wide = wide; bits = is; fits = shaped_fits shape (number_value kinds.Unsigned bits) }

  module _ (head : HeadTree) (s : Shape) (typed : head.shape ≡ Some s) (from : ℕ) (scope after : Scope) (guard : Expr) (body : StmtTree) (piece : Piece)
      (is : IsScope p lasts from scope) (guards : IsGuard p lasts from scope guard) (new : IsNew (names_of scope) head.name)
      (there : from < length p.temps) (wide : slice_index p.temps from ≡ (counter_shape head.shape).width)
      (more : Extends (entered scope head.name (counter_of from head.shape)) after)
      (inner : (m : M) (now : Moment) → AgreesIn (entered scope head.name (counter_of from head.shape)) m now → val now guard ≡ 1 → Leads_to (from + 1) (entered scope head.name (counter_of from head.shape)) after (effect doing body m) now (run now piece.moves)) where
    turn_does : (bits : ℕ) (m : M) (now : Moment) → AgreesIn scope m now → val now guard ≡ 1 → Leads_to from scope scope (loop_turn doing (effect doing body) head bits m) now (run now (turn_moves from head.shape piece bits))
    turn_does bits m now h one =
        let l = counter_of from head.shape in
        let longer = entered scope head.name l in
        let v = counter_value head.shape bits in
        let step = set_temp from (Const l.width v.bits) in
        let mid = effects.effect p before pins now step in
        let end = run mid piece.moves in
        let r = move_rests p before pins from step now (omega arith) in
        let room : from < length now.temps = let e = h.has in omega (arith, e, there) in
        let holds = set_value p before pins from (Const l.width v.bits) now room in
        let h1 = agree_rests from scope m now mid is r h in
        let h2 = enters scope head.name l v m mid new h1 (counter_stands from bits head.shape s mid typed wide holds) in
        let k = inner (with_counter doing head bits m) mid h2 (guard_rests p before pins lasts from scope guard now mid guards r ∙ one) in
        let all : Leads_to from scope after (effect doing body (with_counter doing head bits m)) now end = record {
          agrees = k.agrees;
          spares = spares_on lasts from (from + 1) scope longer now mid end (omega arith) (λ t lt f. free_entered scope head.name l t f lt) (spares_rest lasts from scope now mid r) k.spares;
        } in
        left from scope after m (effect doing body (with_counter doing head bits m)) now now end (extends_on scope longer after ((head.name, l) ∷ [], refl) more) h all

    turns_do : (b : Bounds) (n k : ℕ) (m : M) (now : Moment) → AgreesIn scope m now → val now guard ≡ 1 → Leads_to from scope scope (turned (loop_turn doing (effect doing body) head) b k n m) now (run now (all_moves (turn_moves from head.shape piece) b k n))
    turns_do b zero k m now h one = leads_rests from scope m now now is (rests_none from now) h
    turns_do b (suc n) k m now h one =
        let bits = b.first + k * b.step in
        let turn = loop_turn doing (effect doing body) head in
        let mid = run now (turn_moves from head.shape piece bits) in
        let rest = all_moves (turn_moves from head.shape piece) b (k + 1) n in
        let first = turn_does bits m now h one in
        let second = turns_do b n (k + 1) (turn bits m) mid first.agrees (guard_spared p before pins lasts from scope guard now mid guards first.spares ∙ one) in
        subst (λ (end : Moment). Leads_to from scope scope (turned turn b (k + 1) n (turn bits m)) now end) (sym (ran_append p before pins now (turn_moves from head.shape piece bits) rest))
        (leads_on from from scope scope scope (turn bits m) (turned turn b (k + 1) n (turn bits m)) now mid (run mid rest) (omega arith) (same_free scope from) first second)

  loops : (head : HeadTree) (from : ℕ) (scope after : Scope) (guard : Expr) (body : StmtTree) (piece : Piece) (m : M) (now : Moment) (o : Option Bounds) → bounds_of head ≡ o
      → IsScope p lasts from scope → IsGuard p lasts from scope guard → IsNew (names_of scope) head.name → Extends (entered scope head.name (counter_of from head.shape)) after
      → (from < length p.temps → slice_index p.temps from ≡ (counter_shape head.shape).width → Lies p.temps (from + 1) piece.widths → (m : M) (now : Moment) → AgreesIn (entered scope head.name (counter_of from head.shape)) m now → val now guard ≡ 1
      → Leads_to (from + 1) (entered scope head.name (counter_of from head.shape)) after (effect doing body m) now (run now piece.moves))
      → Lies p.temps from (looped from head.shape piece o).widths → AgreesIn scope m now → val now guard ≡ 1
      → Leads_to from scope scope (all_turns doing (effect doing body) head o m) now (run now (looped from head.shape piece o).moves)
  loops head from scope after guard body piece m now None e is guards new more inner lies h one = leads_rests from scope m now now is (rests_none from now) h
  loops head from scope after guard body piece m now (Some b) e is guards new more inner lies h one = go (nat_eq (turns b) 0) refl lies
    where
      go : (z : Bool) → nat_eq (turns b) 0 ≡ z
          → Lies p.temps from (cond z nothing (record { widths = (counter_of from head.shape).width ∷ piece.widths; moves = all_moves (turn_moves from head.shape piece) b 0 (turns b) })).widths
          → Leads_to from scope scope (turned (loop_turn doing (effect doing body) head) b 0 (turns b) m) now
          (run now (cond z nothing (record { widths = (counter_of from head.shape).width ∷ piece.widths; moves = all_moves (turn_moves from head.shape piece) b 0 (turns b) })).moves)
      go true zero_turns lies =
          let none : 0 ≡ turns b = sym (eqb-true (turns b) 0 zero_turns) in
          subst (λ (n : ℕ). Leads_to from scope scope (turned (loop_turn doing (effect doing body) head) b 0 n m) now now) none
          (leads_rests from scope m now now is (rests_none from now) h)
      go false some_turns lies =
          let one_temp = lies_one p.temps from (counter_of from head.shape).width piece.widths lies in
          let under = lies_right p.temps from ((counter_of from head.shape).width ∷ []) piece.widths lies in
          let shape = typed_loop head.shape (loop_bounds head) b e in
          turns_do head shape.0 shape.1 from scope after guard body piece is guards new one_temp.0 one_temp.1 more (inner one_temp.0 one_temp.1 under) b (turns b) 0 m now h one

  -- ---- statements

  -- what a local holds first
  first_stands : (scope : Scope) (from : ℕ) (shape : Shape) (e : Option ExprTree) (m : M) (now : Moment) → IsFirst rules (names_of scope) e → IsScope p lasts from scope → Lies p.temps from (first_of ways.reads scope from shape e).piece.widths → AgreesIn scope m now
      → Stands (run now (first_of ways.reads scope from shape e).piece.moves) (first_of ways.reads scope from shape e).out (first_value shape (doing.reader m) e)
  first_stands scope from shape None m now typed is lies h = record { kind = refl; width = refl; wide = refl; bits = refl; fits = zero_fits shape }
  first_stands scope from shape (Some e) m now typed is lies h =
      let x = ways.reads scope from e in
      let end = run now x.piece.moves in
      shaped_stands p before pins end shape (given (literal e) x.out shape.kind) (whole (doing.reader m) e shape.kind)
      (small scope e (literal e) typed refl shape.kind x.out (value (doing.reader m) e) end (does.reads scope from e m now typed is lies h))

  -- what has been said of the statements of a body
  abbrev Does_all : ℕ → Scope → Expr → StmtTrees → M → Moment → Type 0
  Does_all from scope guard all m now = Leads_to from scope (stated_all ways scope guard from all).scope (effect_all doing all m) now (run now (stated_all ways scope guard from all).piece.moves)

  abbrev Does_one : ℕ → Scope → Expr → StmtTree → M → Moment → Type 0
  Does_one from scope guard s m now = Leads_to from scope (stated ways scope guard from s).scope (effect doing s m) now (run now (stated ways scope guard from s).piece.moves)

  mutual
    pub does_one : (s : StmtTree) (scope : Scope) (guard : Expr) (from : ℕ) (m : M) (now : Moment) → IsTyped rules (names_of scope) s → IsScope p lasts from scope → IsGuard p lasts from scope guard → val now guard ≡ 1
        → Lies p.temps from (stated ways scope guard from s).piece.widths → AgreesIn scope m now → Does_one from scope guard s m now
    does_one stmts.Empty scope guard from m now typed is guards one lies h = leads_rests from scope m now now is (rests_none from now) h
    does_one (stmts.Block all) scope guard from m now typed is guards one lies h =
        let x = stated_all ways scope guard from all in
        left from scope x.scope m (effect_all doing all m) now now (run now x.piece.moves) (extends_all ways all scope guard from) h (does_all all scope guard from m now typed is guards one lies h)
    does_one (stmts.Local shape n e) scope guard from m now typed is guards one lies h =
        let x = first_of ways.reads scope from shape e in
        let v = first_value shape (doing.reader m) e in
        let l : Local = record { temp = top from x.piece; kind = x.out.kind; width = x.out.width } in
        let piece = held from x.piece x.out.width x.out.at in
        let mid = run now x.piece.moves in
        let end = run now piece.moves in
        let scratch = first_scratch p before pins ways idle scope from shape e in
        let r = rested p before pins from x.piece now scratch in
        let r1 = held_rests p before pins from x.piece x.out.width x.out.at now scratch in
        let first = first_stands scope from shape e m now typed.1 is (lies_left p.temps from x.piece.widths (x.out.width ∷ []) lies) h in
        let stands = kept_stands p before pins from x.piece x.out v now lies (r.room ∙ h.has) first in
        record {
          agrees = enters scope n l v m end typed.0 (agree_rests from scope m now end is r1 h) stands;
          spares = spares_rest lasts from scope now end r1;
        }
    does_one (stmts.Assign target e) scope guard from m now typed is guards one lies h =
        let x = ways.reads scope from e in
        let to = top from x.piece in
        let g = given (literal e) x.out in
        let b = ways.puts scope guard to target g in
        let mid = run now x.piece.moves in
        let r = rested p before pins from x.piece now (idle.reads scope from e) in
        let lies_x = lies_left p.temps from x.piece.widths b.widths lies in
        let formed = forms.reads scope from e typed.0 is lies_x in
        let stands = does.reads scope from e m now typed.0 is lies_x h in
        let first = leads_rests from scope m now mid is r h in
        follow from scope scope scope m (doing.put target (whole (doing.reader m) e) m) now x.piece b (same_free scope from) first
        (does.puts scope guard to target g (whole (doing.reader m) e) m mid typed.1 (scope_up p lasts from to scope (top_low from x.piece) is) (guard_up p before pins lasts from to scope scope guard (top_low from x.piece) (same_free scope from) guards)
        (guard_rests p before pins lasts from scope guard now mid guards r ∙ one)
        (given_is scope to e (literal e) typed.0 refl x.out formed.out)
        (λ kind. small scope e (literal e) typed.0 refl kind x.out (value (doing.reader m) e) mid stands)
        (lies_right p.temps from x.piece.widths b.widths lies) first.agrees)
    does_one (stmts.If test chosen) scope guard from m now typed is guards one lies h =
        let c = ways.reads scope from test in
        let v = value (doing.reader m) test in
        let t = top from c.piece in
        let tests = held from c.piece 1 (on c.out guard) in
        let to = top from tests in
        let x = stated ways scope (Temp t) to chosen in
        let m0 = run now c.piece.moves in
        let m1 = run now tests.moves in
        let end = run m1 x.piece.moves in
        let scratch = idle.reads scope from test in
        let r0 = rested p before pins from c.piece now scratch in
        let r1 = held_rests p before pins from c.piece 1 (on c.out guard) now scratch in
        let high = top_held from c.piece 1 (on c.out guard) in
        let lies_tests = lies_left p.temps from tests.widths x.piece.widths lies in
        let lies_c = lies_left p.temps from c.piece.widths (1 ∷ []) lies_tests in
        let lies_x = lies_right p.temps from tests.widths x.piece.widths lies in
        let temp = lies_one p.temps t 1 [] (lies_right p.temps from c.piece.widths (1 ∷ []) lies_tests) in
        let stands = does.reads scope from test m now typed.0 is lies_c h in
        let on_value = held_value p before pins from c.piece 1 (on c.out guard) now lies_tests (r0.room ∙ h.has) ∙ on_is c.out v guard m0 stands (guard_rests p before pins lasts from scope guard now m0 guards r0 ∙ one) in
        let first = leads_rests from scope m now m1 is r1 h in
        let h1 = first.agrees in
        let is1 = scope_up p lasts from to scope (top_low from tests) is in
        let low : t < to = omega (arith, high) in
        let own = own_guard from t to scope is (top_low from c.piece) low temp.0 temp.1 in
        let after = leave doing (length (doing.locals m)) (effect doing chosen m) in
        follow from scope scope scope m (cond (is_zero v) m after) now tests x.piece (same_free scope from) first
        (branch (is_zero v) (val m1 (Temp t)) to scope m after m1 end is1 on_value h1
        (λ e. idle_rests p before pins ways idle chosen scope (Temp t) to m1 low e h1.has lies_x)
        (λ e. left to scope x.scope m (effect doing chosen m) m1 m1 end (extends ways chosen scope (Temp t) to) h1 (does_one chosen scope (Temp t) to m m1 typed.1 is1 own e lies_x h1)))
    does_one (stmts.IfElse test chosen other) scope guard from m now typed is guards one lies h =
        let c = ways.reads scope from test in
        let v = value (doing.reader m) test in
        let t = top from c.piece in
        let first = held from c.piece 1 (on c.out guard) in
        let u = top from first in
        let tests = held from first 1 (off c.out guard) in
        let to = top from tests in
        let x = stated ways scope (Temp t) to chosen in
        let both = behind tests x.piece in
        let beyond = top from both in
        let y = stated ways scope (Temp u) beyond other in
        let m0 = run now c.piece.moves in
        let m1 = run now first.moves in
        let m2 = run now tests.moves in
        let m3 = run m2 x.piece.moves in
        let end = run m3 y.piece.moves in
        let scratch = idle.reads scope from test in
        let scratch1 = held_scratch from c.piece 1 (on c.out guard) scratch in
        let r0 = rested p before pins from c.piece now scratch in
        let r1 = rested p before pins from first now scratch1 in
        let r2 = held_rests p before pins from first 1 (off c.out guard) now scratch1 in
        let r12 = held_after p before pins from first 1 (off c.out guard) now in
        let r01 = held_after p before pins from c.piece 1 (on c.out guard) now in
        let high1 = top_held from c.piece 1 (on c.out guard) in
        let high2 = top_held from first 1 (off c.out guard) in
        let lies_both = lies_left p.temps from both.widths y.piece.widths lies in
        let lies_y = lies_right p.temps from both.widths y.piece.widths lies in
        let lies_tests = lies_left p.temps from tests.widths x.piece.widths lies_both in
        let lies_x = lies_right p.temps from tests.widths x.piece.widths lies_both in
        let lies_first = lies_left p.temps from first.widths (1 ∷ []) lies_tests in
        let lies_c = lies_left p.temps from c.piece.widths (1 ∷ []) lies_first in
        let temp_t = lies_one p.temps t 1 [] (lies_right p.temps from c.piece.widths (1 ∷ []) lies_first) in
        let temp_u = lies_one p.temps u 1 [] (lies_right p.temps from first.widths (1 ∷ []) lies_tests) in
        let formed = forms.reads scope from test typed.0 is lies_c in
        let stands = does.reads scope from test m now typed.0 is lies_c h in
        let stands1 = stands_on p before pins t c.out v m0 m1 formed.out.low r01 stands in
        let one0 = guard_rests p before pins lasts from scope guard now m0 guards r0 ∙ one in
        let one1 = guard_rests p before pins lasts from scope guard now m1 guards r1 ∙ one in
        let on1 = held_value p before pins from c.piece 1 (on c.out guard) now lies_first (r0.room ∙ h.has) ∙ on_is c.out v guard m0 stands one0 in
        let on2 = low_value p before pins u (Temp t) m1 m2 (omega (arith, high1)) r12 ∙ on1 in
        let off2 = held_value p before pins from first 1 (off c.out guard) now lies_tests (r1.room ∙ h.has) ∙ off_is c.out v guard m1 stands1 one1 in
        let begin = leads_rests from scope m now m2 is r2 h in
        let h2 = begin.agrees in
        let is2 = scope_up p lasts from to scope (top_low from tests) is in
        let up : to ≤ beyond = let e = top_behind from tests x.piece in let l = top_low to x.piece in omega (arith, e, l) in
        let is3 = scope_up p lasts to beyond scope up is2 in
        let low_t : t < to = omega (arith, high1, high2) in
        let low_u : u < to = omega (arith, high2) in
        let own_t = own_guard from t to scope is (top_low from c.piece) low_t temp_t.0 temp_t.1 in
        let own_u = own_guard from u to scope is (top_low from first) low_u temp_u.0 temp_u.1 in
        let own_u3 = own_guard from u beyond scope is (top_low from first) (omega (arith, low_u, up)) temp_u.0 temp_u.1 in
        let count = length (doing.locals m) in
        let path = ran_append p before pins now both.moves y.piece.moves ∙ ap (λ (b : Moment). run b y.piece.moves) (ran_append p before pins now tests.moves x.piece.moves) in
        let parts = either (is_zero v) (val m2 (Temp t)) (val m3 (Temp u)) to beyond scope m (leave doing count (effect doing chosen m)) (leave doing count (effect doing other m)) m2 m3 end is2 up on2 h2
        (λ e. idle_rests p before pins ways idle chosen scope (Temp t) to m2 low_t e h2.has lies_x)
        (λ e. left to scope x.scope m (effect doing chosen m) m2 m2 m3 (extends ways chosen scope (Temp t) to) h2 (does_one chosen scope (Temp t) to m m2 typed.1 is2 own_t e lies_x h2))
        (λ s. guard_spared p before pins lasts to scope (Temp u) m2 m3 own_u s ∙ off2)
        (λ e room. idle_rests p before pins ways idle other scope (Temp u) beyond m3 (omega (arith, low_u, up)) e (room ∙ h2.has) lies_y)
        (λ e h3. left beyond scope y.scope m (effect doing other m) m3 m3 end (extends ways other scope (Temp u) beyond) h3 (does_one other scope (Temp u) beyond m m3 typed.2 is3 own_u3 e lies_y h3)) in
        let all = leads_on from to scope scope scope m (cond (is_zero v) (leave doing count (effect doing other m)) (leave doing count (effect doing chosen m))) now m2 end (top_low from tests) (same_free scope from) begin parts in
        subst (λ (b : Moment). Leads_to from scope scope (leave doing count (cond (is_zero v) (effect doing other m) (effect doing chosen m))) now b) (sym path)
        (subst (λ (after : M). Leads_to from scope scope after now end) (one_of (is_zero v) count (effect doing chosen m) (effect doing other m)) all)
    does_one (stmts.While test body) scope guard from m now typed is guards one lies h = leads_rests from scope m now now is (rests_none from now) h
    does_one (stmts.For head body) scope guard from m now typed is guards one lies h =
        let l = counter_of from head.shape in
        let longer = entered scope head.name l in
        let x = stated ways longer guard (from + 1) body in
        subst (λ (after : M). Leads_to from scope scope after now (run now (looped from head.shape x.piece (bounds_of head)).moves)) (sym (loop_is doing (effect doing body) head m))
        (loops head from scope x.scope guard body x.piece m now (bounds_of head) refl is guards typed.0 (extends ways body longer guard (from + 1))
        (λ there wide under m' now' h' one'. does_one body longer guard (from + 1) m' now' (subst (λ (names : Names). IsTyped rules names body) (sym (names_entered scope head.name l)) typed.1)
        (scope_entered p lasts from scope head.name l is (omega arith) there wide (counter_width head.shape))
        (guard_up p before pins lasts from (from + 1) scope longer guard (omega arith) (λ k lt f. free_entered scope head.name l k f lt) guards) one' under h')
        lies h one)
    does_one (stmts.Call n) scope guard from m now typed is guards one lies h = does.calls scope n typed guard from m now is guards one lies h
    does_one (stmts.Stall pipe stage) scope guard from m now typed is guards one lies h = does.stalls scope stage typed guard from m now is guards one lies h
    does_one (stmts.Flush pipe stage) scope guard from m now typed is guards one lies h = does.flushes scope stage typed guard from m now is guards one lies h
    does_one (stmts.Execute pipe) scope guard from m now typed is guards one lies h = leads_rests from scope m now now is (rests_none from now) h
    does_one (stmts.Shift pipe) scope guard from m now typed is guards one lies h = leads_rests from scope m now now is (rests_none from now) h

    pub does_all : (all : StmtTrees) (scope : Scope) (guard : Expr) (from : ℕ) (m : M) (now : Moment) → AreTyped rules (names_of scope) all → IsScope p lasts from scope → IsGuard p lasts from scope guard → val now guard ≡ 1
        → Lies p.temps from (stated_all ways scope guard from all).piece.widths → AgreesIn scope m now → Does_all from scope guard all m now
    does_all stmts.End scope guard from m now typed is guards one lies h = leads_rests from scope m now now is (rests_none from now) h
    does_all (stmts.Then s rest) scope guard from m now typed is guards one lies h =
        let x = stated ways scope guard from s in
        let to = top from x.piece in
        let y = stated_all ways x.scope guard to rest in
        let mid = run now x.piece.moves in
        let lies_x = lies_left p.temps from x.piece.widths y.piece.widths lies in
        let free = λ (k : ℕ) (lt : k < from) (f : IsFree scope k). free_after ways s scope guard from k lt f in
        let first = does_one s scope guard from m now typed.0 is guards one lies_x h in
        follow from scope x.scope y.scope (effect doing s m) (effect_all doing rest (effect doing s m)) now x.piece y.piece free first
        (does_all rest x.scope guard to (effect doing s m) mid (subst (λ (names : Names). AreTyped rules names rest) (sym (names_stated ways s scope guard from)) typed.1)
        (scope_after ways p lasts s scope guard from is lies_x) (guard_up p before pins lasts from to scope x.scope guard (top_low from x.piece) free guards)
        (guard_spared p before pins lasts from scope guard now mid guards first.spares ∙ one)
        (lies_right p.temps from x.piece.widths y.piece.widths lies) first.agrees)
