use Rattle.lowered_words.proofs.Writing.{clear_on}
use Rattle.lowered_words.proofs.loading.clear_all.Goals as goal

pub loop-place-preserved : goal.loop-place-preserved
loop-place-preserved c = clear_on c.args.base c.loop-place.place c.in_ok-temp.temp c.args.draft.now c.loop-place.draft c.clear.new.draft c.in_ok-temp.ensures c.loop-place.invariant c.in_ok-clear.ensures
