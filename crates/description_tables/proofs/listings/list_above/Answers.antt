use Rattle.std.proofs.Common.{rules, ◌<◌, length, arith}
use Rattle.lisa_tree.specs.Descriptions.{description_tree}
use Rattle.description_tables.proofs.Rows.{above_step}
use Rattle.description_tables.proofs.listings.list_above.Goals as goal

pub loop-choice-preserved : goal.loop-choice-preserved
loop-choice-preserved c =
    let h : c.loop-choice.choice-index < length c.args.choices.now = omega arith in
    record {
      count = search rules;
      added = λ o.
          above_step (description_tree c.args.globals.now.description.now) o c.args.choices.now c.loop-choice.choice-index c.choice-item.result _ _ h c.choice-item.is
          (c.loop-choice.invariant.added o) (c.in_ok-add_choice.ensures.added o);
    }
