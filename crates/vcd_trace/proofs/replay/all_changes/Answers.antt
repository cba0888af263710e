use Rattle.std.proofs.Common.{◌∙◌, ◌++◌, ◌∷◌, [], ap, get_or, List, ℕ}
use Rattle.vcd_trace.proofs.ChangeLists.{enum_more, enum_whole}
use Rattle.vcd_trace.proofs.replay.all_changes.Goals as goal

pub loop-place-preserved : goal.loop-place-preserved
loop-place-preserved c =
    c.in_ok-push.ensures.items ∙ ap (λ (l : List (ℕ × ℕ)). l ++ (c.loop-place.place, get_or c.args.now.now c.loop-place.place 0) ∷ []) c.loop-place.invariant
    ∙ enum_more c.args.now.now c.loop-place.place c.loop-place-test.true

pub returns : goal.returns
returns c = c.loop-place.invariant ∙ enum_whole c.args.now.now c.loop-place.place c.loop-place-test.false
