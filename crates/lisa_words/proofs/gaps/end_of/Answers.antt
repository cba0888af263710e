use Rattle.lisa_words.proofs.Ends.{search_on, search_fails}
use Rattle.lisa_words.proofs.gaps.end_of.Goals as goal
use Rattle.lisa_words.proofs.gaps.end_of.Goals.{else-body-i-eq42-via-then-body-i-eq42+else-body-i-eq47, else-body-i-eq42-via-else-body-i-eq42}

pub loop-i-preserved : goal.loop-i-preserved
loop-i-preserved c =
    elim c.else-body-i-eq42.branch [
      | else-body-i-eq42-via-then-body-i-eq42+else-body-i-eq47 w ↦ search_on c.args.body.now c.loop-i.i c.loop-i.auto.i c.loop-i-test.true (λ a b. w.if-body-i-eq47.false b) c.loop-i.invariant
      | else-body-i-eq42-via-else-body-i-eq42 w ↦ search_on c.args.body.now c.loop-i.i c.loop-i.auto.i c.loop-i-test.true (λ a b. w.if-body-i-eq42.false a) c.loop-i.invariant
    ]

pub returns-clause-value : goal.returns-clause-value
returns-clause-value c = search_fails c.args.body.now c.loop-i.i c.loop-i.auto.i c.loop-i-test.false c.loop-i.invariant
