use Rattle.std.proofs.Common.{◌++◌, ◌∷◌, [], ℕ, ap, ◌∙◌, arith}
use Rattle.generated_programs.proofs.Stepping.{one_more_drawn, all_drawn}
use Rattle.generated_programs.proofs.drawing.draw_values.Goals as goal

pub loop-place-preserved : goal.loop-place-preserved
loop-place-preserved g c =
    one_more_drawn g.G.NextWord.step c.args.places.now _ c.loop-place.place-index (record { lsb = 0; width = 0 }) c.loop-place.values.items _ c.loop-place.generator _ _ (omega arith) c.loop-place.invariant c.next_word.ensures
    (c.in_ok-push.ensures.items ∙ ap (λ (x : ℕ). c.loop-place.values.items ++ x ∷ []) c.low_bits.ensures)

pub returns : goal.returns
returns g c = all_drawn g.G.NextWord.step c.args.places.now _ c.loop-place.place-index c.loop-place.values.items c.loop-place.generator (omega arith) c.loop-place.invariant
