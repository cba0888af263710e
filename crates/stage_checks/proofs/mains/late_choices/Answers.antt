use Rattle.std.proofs.Common.{◌≡◌, ℕ, Bool, arith, rules}
use Rattle.lisa_tree.specs.Declarations.{plain_at}
use Rattle.stage_checks.specs.Backward.{any_late}
use Rattle.stage_checks.proofs.Stages.{seen_pushed, late_all}
use Rattle.stage_checks.proofs.mains.late_choices.Goals as goal

pub loop-choice-preserved : goal.loop-choice-preserved
loop-choice-preserved g c =
    let d = g.N.Names.tree c.args.names.now in
    record {
      len = search (rules, c.in_ok-push.ensures.items);
      each = λ k h. rw c.in_ok-push.ensures.items (seen_pushed (λ (m : ℕ) (x : Bool). x ≡ any_late d (plain_at d m)) c.loop-choice.late.items _ c.loop-choice.choice
          c.loop-choice.invariant.len c.loop-choice.invariant.each (rw c.plain_at.ensures at c.any_late.ensures) k h);
    }

pub returns : goal.returns
returns g c = late_all (g.N.Names.tree c.args.names.now) c.loop-choice.late.items c.loop-choice.choice c.loop-choice.invariant.len (omega arith) c.loop-choice.invariant.each
