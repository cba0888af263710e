use Rattle.std.proofs.Common.{ℕ, Option, arith, rules}
use Rattle.lisa_tree.specs.Declarations.{plain_at}
use Rattle.stage_checks.specs.Backward.{IsEarliest}
use Rattle.stage_checks.proofs.Stages.{entries_pushed, earliest_all}
use Rattle.stage_checks.proofs.backward.earliest_stages.Goals as goal

pub loop-choice-preserved : goal.loop-choice-preserved
loop-choice-preserved g c =
    let d = g.N.Names.tree c.args.names.now in
    record {
      len = search (rules, c.in_ok-push.ensures.items);
      each = λ k h. rw c.in_ok-push.ensures.items (entries_pushed (λ (m : ℕ) (x : Option ℕ). IsEarliest d (plain_at d m) x) c.loop-choice.stages.items _ c.loop-choice.choice
          c.loop-choice.invariant.len c.loop-choice.invariant.each (rw c.plain_at.ensures at c.earliest.ensures) k h);
    }

pub returns : goal.returns
returns g c = earliest_all (g.N.Names.tree c.args.names.now) c.loop-choice.stages.items c.loop-choice.choice c.loop-choice.invariant.len (omega arith) c.loop-choice.invariant.each
