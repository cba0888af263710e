-- The steps of calls are well formed.
use Rattle.std.proofs.Common.{◌≡◌, ℕ, zero, suc, ◌+◌, ◌<◌, ◌≤◌, List, [], ◌∷◌, Option, None, Some, refl, sym, ◌∙◌, subst, arith, max}
use Rattle.std.specs.Prelude.{All}
use Rattle.std.proofs.lemmas.List.Elements.{All-head, All-tail}
use Rattle.step_program.specs.declared.expressions.TwoOp.TheVariants as ops
use Rattle.step_program.specs.Programs.{Program, Expr, Const, Now, Before, Pin, Temp, Cell, One, Two, Choose}
use Rattle.step_program.specs.Effects.{width}
use Rattle.step_program.specs.WellFormed.{IsFit}
use Rattle.step_program.specs.Depths.{expr_depth}
use Rattle.step_pieces.specs.Pieces.{Piece, nothing, behind, top, held}
use Rattle.step_pieces.specs.Formed.{Lies, IsPiece}
use Rattle.step_pieces.proofs.Laid.{lies_left, lies_right, lies_one, nothing_formed, behind_formed, held_formed}
use Rattle.lowered_values.proofs.Forming.{leaf_depth}
use Rattle.lowered_values.proofs.Lowering.{top_low, top_held}
use Rattle.lowered_statements.specs.Scopes.{Scope, IsScope, IsFree}
use Rattle.lowered_statements.specs.Ways.{Guarded}
use Rattle.lowered_statements.specs.Scenes.{Scenes, ways_of, body_piece, test_piece, call_piece, calls_piece, calls_within, ways_within}
use Rattle.lowered_statements.specs.Typed.{Rules, AreTyped}
use Rattle.lowered_statements.specs.SceneLaws.{IsTest, IsCallee, ScenesForm}
use Rattle.lowered_statements.specs.Agreement.{IsGuard, AreFormed, FormWays}
use Rattle.lowered_statements.proofs.Scoped.{scope_up, scope_low, guard_low, guard_wide, guard_fits, guard_up}
use Rattle.lowered_statements.proofs.Forms.{all_formed}

-- a guard is one where no local is in scope
bare_guard : (p : Program) (lasts from : ℕ) (scope : Scope) (guard : Expr) → IsGuard p lasts from scope guard → IsGuard p lasts from [] guard
bare_guard p lasts from scope (Const w v) is = is
bare_guard p lasts from scope (Now item) is = is
bare_guard p lasts from scope (Before item) is = is
bare_guard p lasts from scope (Pin pin) is = is
bare_guard p lasts from scope (Temp temp) is = (is.0, is.1, is.2, is.3, tt)
bare_guard p lasts from scope (Cell array index) is = is
bare_guard p lasts from scope (One one a) is = is
bare_guard p lasts from scope (Two two a b) is = is
bare_guard p lasts from scope (Choose test this other) is = is

module _ {S : Type 0} (scenes : Scenes S) (rules : S → Rules) (p : Program) (lasts : ℕ) (forms : ScenesForm scenes rules p lasts) where
  module _ (calls : S → Guarded) (formed : (s : S) (scope : Scope) (n : List ℕ) → (rules s).calls n → AreFormed p lasts scope (λ guard from. calls s guard from n)) where
    ways_form : (s : S) → FormWays (ways_of scenes calls s) (rules s) p lasts
    ways_form s = record { numbers = forms.numbers s; reads = forms.reads s; puts = forms.puts s; calls = formed s; stalls = forms.stalls s; flushes = forms.flushes s }

    body_formed : (s : S) → AreTyped (rules s) [] (scenes.body s) → AreFormed p lasts [] (λ guard from. body_piece scenes calls s guard from)
    body_formed s typed guard from is guards lies = all_formed (ways_of scenes calls s) (rules s) p lasts (ways_form s) (scenes.body s) [] guard from typed is guards lies

    call_formed : (s : S) (test : Option Expr) → IsTest p test → AreTyped (rules s) [] (scenes.body s) → AreFormed p lasts [] (λ guard from. call_piece scenes calls s test guard from)
    call_formed s None bit typed guard from is guards lies = body_formed s typed guard from is guards lies
    call_formed s (Some test) bit typed guard from is guards lies =
        let e = Two ops.And guard test in
        let own = test_piece guard test from in
        let t = top from nothing in
        let b = body_piece scenes calls s (Temp t) (top from own) in
        let lies_own = lies_left p.temps from own.widths b.widths lies in
        let high = top_held from nothing 1 e in
        let temp = lies_one p.temps t 1 [] (lies_right p.temps from [] (1 ∷ []) lies_own) in
        let wide = guard_wide p [] [] lasts from [] guard guards in
        let fits : IsFit p e = (guard_fits p [] [] lasts from [] guard guards, bit.0, wide ∙ sym bit.1) in
        let low = leaf_depth from guard (guard_low p [] [] lasts from [] guard guards) in
        let depth = bit.2 in
        let shallow : expr_depth e ≤ 8 = omega (arith, low, depth) in
        behind_formed p own b (held_formed p from nothing 1 e (nothing_formed p) lies_own (omega arith, omega arith) fits wide shallow)
        (body_formed s typed (Temp t) (top from own) (omega (arith, is, high)) (omega (arith, is), omega (arith, high), temp.0, temp.1, tt) (lies_right p.temps from own.widths b.widths lies))

    calls_formed : (cs : List (S × Option Expr)) → All (IsCallee scenes rules p) cs → AreFormed p lasts [] (λ guard from. calls_piece scenes calls guard from cs)
    calls_formed [] all guard from is guards lies = nothing_formed p
    calls_formed (c ∷ cs) all guard from is guards lies =
        let x = call_piece scenes calls c.0 c.1 guard from in
        let y = calls_piece scenes calls guard (top from x) cs in
        let one = All-head (IsCallee scenes rules p) c cs all in
        behind_formed p x y (call_formed c.0 c.1 one.test one.typed guard from is guards (lies_left p.temps from x.widths y.widths lies))
        (calls_formed cs (All-tail (IsCallee scenes rules p) c cs all) guard (top from x) (scope_up p lasts from (top from x) [] (top_low from x) is)
        (guard_up p [] [] lasts from (top from x) [] [] guard (top_low from x) (λ k lt f. f) guards) (lies_right p.temps from x.widths y.widths lies))

  within_formed : (levels : ℕ) (s : S) (scope : Scope) (n : List ℕ) → (rules s).calls n → AreFormed p lasts scope (λ guard from. calls_within scenes levels s guard from n)
  within_formed zero s scope n ruled guard from is guards lies = nothing_formed p
  within_formed (suc levels) s scope n ruled guard from is guards lies =
      calls_formed (calls_within scenes levels) (within_formed levels) (scenes.callees s n) (forms.callees s n ruled) guard from (scope_low p lasts from scope is) (bare_guard p lasts from scope guard guards) lies

  pub all_form : (levels : ℕ) (s : S) → FormWays (ways_within scenes levels s) (rules s) p lasts
  all_form levels s = ways_form (calls_within scenes levels) (within_formed levels) s
