use Rattle.std.proofs.Common.{◌∙◌, ◌++◌, ◌∷◌, [], ap, get_or, List, ℕ}
use Rattle.vcd_trace.proofs.ChangeLists.{between_yes, between_no, between_whole}
use Rattle.vcd_trace.proofs.replay.changes_since.Goals as goal
use Rattle.vcd_trace.proofs.replay.changes_since.Goals.{then-before-place+in_ok-push, else-before-place}

pub loop-place-preserved : goal.loop-place-preserved
loop-place-preserved c =
    let before = c.args.before.now in
    let now = c.args.now.now in
    let i = c.loop-place.place in
    elim c.if-before-place.branch [
      | then-before-place+in_ok-push w ↦
          rw w.changes-is
          (w.in_ok-push.ensures.items ∙ ap (λ (l : List (ℕ × ℕ)). l ++ (i, get_or now i 0) ∷ []) c.loop-place.invariant
          ∙ between_yes before now i c.requires.same c.loop-place-test.true w.if-before-place.true)
      | else-before-place w ↦
          rw w.changes-is (c.loop-place.invariant ∙ between_no before now i c.requires.same c.loop-place-test.true w.if-before-place.false)
    ]

pub returns : goal.returns
returns c = c.loop-place.invariant ∙ between_whole c.args.before.now c.args.now.now c.loop-place.place c.requires.same c.loop-place-test.false
