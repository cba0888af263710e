use Rattle.std.proofs.Common.{sym, ◌∙◌, arith}
use Rattle.std.proofs.lemmas.Bool.{eqb-true}
use Rattle.hex_files.proofs.WordLoops.{is_some, len_some, none_found, gap_passed, word_found, broken_found}
use Rattle.hex_files.proofs.memh_words.next_word.Goals as goal

pub returns-then-is_empty-clause-words : goal.returns-then-is_empty-clause-words
returns-then-is_empty-clause-words c = none_found c.args.text.now c.split_at.result.1.now c.gaps.skipped c.gaps.invariant.0 c.split_at.ensures.back (eqb-true _ _ (sym c.is_empty.ensures ∙ c.if-is_empty.true))

pub returns-in-Absent-clause-words : goal.returns-in-Absent-clause-words
returns-in-Absent-clause-words c =
    word_found c.args.text.now c.split_at.result.1.now c.gaps.skipped c.gaps.invariant.0 c.split_at.ensures.back c.word_len.result c.split_at-in-Absent.result.0.now c.split_at-in-Absent.result.1.now
    (is_some c.split_at.result.1.now (sym c.is_empty.ensures ∙ c.if-is_empty.false)) (sym c.in-Absent.ensures.value) c.word_len.ensures.value c.split_at-in-Absent.ensures.front c.split_at-in-Absent.ensures.back c.split_at-in-Absent.ensures.front_len

pub returns-in-Absent-clause-shorter : goal.returns-in-Absent-clause-shorter
returns-in-Absent-clause-shorter c =
    omega (arith, len_some c.split_at.result.1.now (is_some c.split_at.result.1.now (sym c.is_empty.ensures ∙ c.if-is_empty.false)) (sym c.in-Absent.ensures.value), c.word_len.ensures.value, c.split_at-in-Absent.ensures.back_len, c.split_at.ensures.back_len)

pub gaps-preserved : goal.gaps-preserved
gaps-preserved c = (
  gap_passed c.args.text.now c.split_at.result.1.now c.gaps.skipped c.gaps.invariant.0 c.split_at.ensures.back c.in-Whole.len (sym c.in-Whole.ensures.value),
  omega (arith, c.in-Whole.ensures.within.1, c.split_at.ensures.back_len),
)

pub returns-in-Broken-clause-words : goal.returns-in-Broken-clause-words
returns-in-Broken-clause-words c =
    broken_found c.args.text.now c.split_at.result.1.now c.gaps.skipped c.gaps.invariant.0 c.split_at.ensures.back c.in-Broken.len c.split_at-in-Broken.result.1.now
    (is_some c.split_at.result.1.now (sym c.is_empty.ensures ∙ c.if-is_empty.false)) (sym c.in-Broken.ensures.value) (omega (arith, c.split_at-in-Broken.ensures.back_len))
