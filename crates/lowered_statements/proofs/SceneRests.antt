-- Under a guard that is 0 calls change scratch alone.
use Rattle.std.proofs.Common.{◌≡◌, ℕ, zero, suc, ◌+◌, ◌<◌, ◌≤◌, List, [], ◌∷◌, Option, None, Some, refl, ap, ◌∙◌, arith}
use Rattle.std.specs.Prelude.{bit_and}
use lib.Bits.{and_zero_l}
use Rattle.step_program.specs.declared.expressions.TwoOp.TheVariants as ops
use Rattle.step_program.specs.Programs.{Program, Expr, Temp, Two, Move}
use Rattle.step_program.specs.Effects.{Moment, value}
use Rattle.step_pieces.specs.Pieces.{Piece, nothing, behind, top, held, IsScratch}
use Rattle.step_pieces.specs.Running.{ran, Rests, IsLow, HasTemps}
use Rattle.step_pieces.specs.Formed.{Lies}
use Rattle.step_pieces.proofs.Rested.{rests_none, low_up, low_value}
use Rattle.step_pieces.proofs.Laid.{lies_left, lies_right}
use Rattle.lowered_values.proofs.Lowering.{all_none, top_low, top_held}
use Rattle.lowered_statements.specs.Ways.{Guarded}
use Rattle.lowered_statements.specs.Scenes.{Scenes, ways_of, body_piece, test_piece, call_piece, calls_piece, calls_within, ways_within}
use Rattle.lowered_statements.specs.SceneLaws.{ScenesIdle}
use Rattle.lowered_statements.specs.Agreement.{Idles, AreIdle}
use Rattle.lowered_statements.proofs.Idle.{held_value, held_rests, behind_rests, has_on, all_rest}

module _ {S : Type 0} (scenes : Scenes S) (p : Program) (before pins : List ℕ) (are : ScenesIdle scenes p before pins) where
  both_zero : (guard test : Expr) (now : Moment) → value p before pins now guard ≡ 0 → value p before pins now (Two ops.And guard test) ≡ 0
  both_zero guard test now h = ap (λ (g : ℕ). bit_and g (value p before pins now test)) h ∙ and_zero_l (value p before pins now test)

  ways_idle : (calls : S → Guarded) → ((s : S) (n : List ℕ) → Idles p before pins (λ guard from. calls s guard from n)) → (s : S) → AreIdle (ways_of scenes calls s) p before pins
  ways_idle calls idle s = record { reads = are.reads s; puts = are.puts s; calls = idle s; stalls = are.stalls s; flushes = are.flushes s }

  module _ (calls : S → Guarded) (idle : (s : S) (n : List ℕ) → Idles p before pins (λ guard from. calls s guard from n)) where
    body_rests : (s : S) → Idles p before pins (λ guard from. body_piece scenes calls s guard from)
    body_rests s guard from now low off has lies = all_rest p before pins (ways_of scenes calls s) (ways_idle calls idle s) (scenes.body s) [] guard from now low off has lies

    call_rests : (s : S) (test : Option Expr) → Idles p before pins (λ guard from. call_piece scenes calls s test guard from)
    call_rests s None guard from now low off has lies = body_rests s guard from now low off has lies
    call_rests s (Some test) guard from now low off has lies =
        let e = Two ops.And guard test in
        let own = test_piece guard test from in
        let t = top from nothing in
        let b = body_piece scenes calls s (Temp t) (top from own) in
        let scratch = all_none (λ (m : Move). IsScratch from m.aim) in
        let r = held_rests p before pins from nothing 1 e now scratch in
        let high = top_held from nothing 1 e in
        let zero_on = held_value p before pins from nothing 1 e now (lies_left p.temps from own.widths b.widths lies) has ∙ both_zero guard test now off in
        let mid = ran p before pins now own.moves in
        behind_rests p before pins from own b now r
        (body_rests s (Temp t) (top from own) mid (omega (arith, high)) zero_on (has_on p before pins from now mid r has) (lies_right p.temps from own.widths b.widths lies))

    calls_rest : (cs : List (S × Option Expr)) → Idles p before pins (λ guard from. calls_piece scenes calls guard from cs)
    calls_rest [] guard from now low off has lies = rests_none from now
    calls_rest (c ∷ cs) guard from now low off has lies =
        let x = call_piece scenes calls c.0 c.1 guard from in
        let y = calls_piece scenes calls guard (top from x) cs in
        let mid = ran p before pins now x.moves in
        let r = call_rests c.0 c.1 guard from now low off has (lies_left p.temps from x.widths y.widths lies) in
        behind_rests p before pins from x y now r
        (calls_rest cs guard (top from x) mid (low_up from (top from x) guard (top_low from x) low) (low_value p before pins from guard now mid low r ∙ off) (has_on p before pins from now mid r has)
        (lies_right p.temps from x.widths y.widths lies))

  within_rest : (levels : ℕ) (s : S) (n : List ℕ) → Idles p before pins (λ guard from. calls_within scenes levels s guard from n)
  within_rest zero s n guard from now low off has lies = rests_none from now
  within_rest (suc levels) s n guard from now low off has lies = calls_rest (calls_within scenes levels) (within_rest levels) (scenes.callees s n) guard from now low off has lies

  pub all_idle : (levels : ℕ) (s : S) → AreIdle (ways_within scenes levels s) p before pins
  all_idle levels s = ways_idle (calls_within scenes levels) (within_rest levels) s
