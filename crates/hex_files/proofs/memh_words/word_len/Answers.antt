use Rattle.std.proofs.Common.{sym, ◌∙◌}
use Rattle.hex_files.proofs.WordLoops.{goes_on, ends_here, ends_all}
use Rattle.hex_files.proofs.memh_words.word_len.Goals as goal

pub returns-then-ends_word-clause-value : goal.returns-then-ends_word-clause-value
returns-then-ends_word-clause-value c = ends_here c.args.text.now c.split_at.result.1.now c.loop-place.place c.split_at.ensures.back c.loop-place-test.true (sym c.ends_word.ensures ∙ c.if-ends_word.true) c.loop-place.invariant

pub loop-place-preserved : goal.loop-place-preserved
loop-place-preserved c = goes_on c.args.text.now c.split_at.result.1.now c.loop-place.place c.split_at.ensures.back c.loop-place-test.true (sym c.ends_word.ensures ∙ c.if-ends_word.false) c.loop-place.invariant

pub returns-clause-value : goal.returns-clause-value
returns-clause-value c = ends_all c.args.text.now c.loop-place.place c.loop-place-test.false c.loop-place.auto.place-end c.loop-place.invariant
